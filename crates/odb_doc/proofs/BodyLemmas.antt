-- The method and the body of a request: when they break a rule.
use Rattle.std.proofs.Common.{◌≡◌, ◌∙◌, Bool, true, false, not, List, Option, None, Some, IsSome, map, get_or, ◌==◌, refl, ap, sym, subst}
use Rattle.std.specs.Prelude.{MatchOption, is_some}
use Rattle.std.specs.Bool.{Decides}
use Rattle.std.specs.Char.{to_ascii_lowercase}
use Rattle.std.proofs.lemmas.Bool.{both_ways, false≢true}
use Rattle.std.proofs.lemmas.Bool.Decides.{Decides-like, Decides-not}
use Rattle.serde_json.specs.Data.{Data}
use Rattle.serde_json.specs.Find.{as_object}
use Rattle.odb_names.specs.Methods.{method_name, takes_body}
use Rattle.odb_names.specs.declared.method.Method.{Method}
use Rattle.odb_names.specs.declared.method.Method.TheVariants.{Delete, Get, Patch, Post, Put}
use Rattle.odb_doc.specs.declared.fault.RequestRule.TheVariants as request
use Rattle.odb_doc.specs.batch.Bodies.{body_of, content_type}
use Rattle.odb_doc.specs.batch.MediaTypes.{AllowsBody}
use Rattle.odb_doc.specs.batch.Shapes.{HasMethod, BreaksRequest}
use Rattle.odb_doc.specs.Headers.{Header, HasHeaders}
use Rattle.odb_doc.proofs.OneHeaders.{one_headers}

-- a method takes a body if and only if its name begins with `p`
takes_body-method_name : (method : Method) → takes_body method ≡ (get_or (method_name method) 0 0 == 112)
takes_body-method_name Delete = refl
takes_body-method_name Get = refl
takes_body-method_name Patch = refl
takes_body-method_name Post = refl
takes_body-method_name Put = refl

pub body_allowed : (d : Data) (method : Method) → HasMethod d method → takes_body method ≡ true → ¬ BreaksRequest request.BodyNotAllowed d
body_allowed d method has takes breaks =
    let name : has.name ≡ breaks.has.name = cc (has.text, breaks.has.text) in
    let names : method_name method ≡ method_name breaks.method = sym has.names ∙ ap (map to_ascii_lowercase) name ∙ breaks.has.names in
    let same = takes_body-method_name method ∙ ap (λ text. get_or text 0 0 == 112) names ∙ sym (takes_body-method_name breaks.method) in
    both_ways (takes_body method) (same ∙ breaks.none) takes

pub body_fits : (d : Data) (headers : List Header) (body : Data) → HasHeaders d headers → body_of d ≡ Some body → AllowsBody (content_type headers) body → ¬ BreaksRequest request.BadBody d
body_fits d headers body has is fits breaks =
    let same_headers : headers ≡ breaks.headers = one_headers d breaks.headers headers breaks.has has in
    let same_body : body ≡ breaks.body = cc (is, breaks.given) in
    breaks.bad (subst (λ (hs : List Header). AllowsBody (content_type hs) breaks.body) same_headers (subst (λ (b : Data). AllowsBody (content_type headers) b) same_body fits))

-- what is no method names none
pub method_missing : (d : Data) (found : Option Method) (none : Bool) → is_some found ≡ not none → MatchOption found ((method : Method) → ¬ HasMethod d method) (HasMethod d) → IsSome (as_object d)
    → Decides none (BreaksRequest request.BadMethod d)
method_missing d None true is missing object = (λ e. (object, missing), λ h. refl)
method_missing d None false is missing object = absurd (false≢true is)
method_missing d (Some method) true is has object = absurd (false≢true (sym is))
method_missing d (Some method) false is has object = (λ e. absurd (false≢true e), λ h. absurd (h.1 method has))

-- a body is bad if its headers do not allow it
pub body_Decides : (d : Data) (headers : List Header) (body : Data) (allowed : Bool) → HasHeaders d headers → body_of d ≡ Some body → Decides allowed (AllowsBody (content_type headers) body)
    → Decides (not allowed) (BreaksRequest request.BadBody d)
body_Decides d headers body allowed has is fits = Decides-like (not allowed)
    (λ bad. record { headers = headers; has = has; body = body; given = is; bad = bad })
    (λ breaks fit. body_fits d headers body has is fit breaks)
    (Decides-not allowed fits)
