use Rattle.std.proofs.Common.{◌≡◌, ◌∙◌, List, ℕ, [], false, ap, map, subst, sym, bytes_eq}
use Rattle.std.specs.Prelude.{◌↔◌, IfOk, IsTrue}
use Rattle.std.specs.List.{IsDistinct}
use Rattle.std.specs.Str.{str_to_ascii_lowercase}
use Rattle.std.proofs.lemmas.Bool.{false≢true}
use Rattle.serde_json.specs.View.{view, members_view}
use Rattle.odb_doc.specs.Asked.{asked}
use Rattle.odb_doc.specs.Headers.{folded_names, header_names}
use Rattle.odb_doc.specs.Members.{names_of}
use Rattle.odb_doc.specs.batch.MembersFound.{data_of}
use Rattle.odb_doc.proofs.FoldedNames.{folded_names-object, folded_names-other}
use Rattle.odb_doc.proofs.batch.asked.Asked.has_header_twice.Goals as goal

never : (names : List (List ℕ)) → names ≡ [] → (IsTrue false → ¬ IsDistinct bytes_eq names) × (¬ IsDistinct bytes_eq names → IsTrue false)
unfolding IsDistinct
never names none = (λ e. absurd (false≢true e), λ twice. absurd (twice (subst (IsDistinct bytes_eq) (sym none) tt)))

pub returns-in_default : goal.returns-in_default
returns-in_default c =
    never (header_names (asked c.args.self.now)) (ap folded_names (sym c.requires.headers) ∙ ap (λ o. folded_names (data_of o)) c.in_default.is)

pub returns-in-Some-as_object : goal.returns-in-Some-as_object
returns-in-Some-as_object c =
    let ms = members_view c.in-Some-as_object.headers.now.entries in
    let names : header_names (asked c.args.self.now) ≡ map str_to_ascii_lowercase (names_of ms) =
    ap folded_names (sym c.requires.headers) ∙ ap (λ o. folded_names (data_of o)) c.in-Some.is ∙ folded_names-object (view c.in-Some.value.now) ms (sym c.in-Some-as_object.ensures) in
    subst (λ (found : List (List ℕ)). IfOk c.has_name_twice.result (λ twice. IsTrue twice ↔ ¬ IsDistinct bytes_eq found)) (sym names) c.has_name_twice.ensures

pub returns-in-None : goal.returns-in-None
returns-in-None c =
    never (header_names (asked c.args.self.now)) (ap folded_names (sym c.requires.headers) ∙ ap (λ o. folded_names (data_of o)) c.in-Some.is ∙ folded_names-other (view c.in-Some.value.now) (sym c.in-None.ensures))
