use Rattle.std.proofs.Common.{◌≡◌, ◌∙◌, List, Option, None, Some, IsSome, codes, map, ap, option_map, sym}
use Rattle.std.specs.Prelude.{IfNone, IfSome}
use Rattle.std.proofs.lemmas.Bool.{false≢true}
use Rattle.serde_json.specs.Find.{get}
use Rattle.odb_doc.specs.HeaderMaps.{written}
use Rattle.odb_doc.specs.Headers.{Header, listed_headers, listed_in}
use Rattle.odb_doc.specs.batch.MembersFound.{data_of}
use Rattle.odb_doc.proofs.LentLemmas.{HoldsHeaders-lent, twice_broken}
use Rattle.odb_doc.proofs.batch.headers.headers_of.Goals as goal

IfSome-weaker : {X : Type 0} (o : Option X) (P Q : X → Type 0) → ((x : X) → P x → Q x) → IfSome o P → IfSome o Q
IfSome-weaker None P Q more holds = tt
IfSome-weaker (Some x) P Q more holds = more x holds

IfNone-weaker : {X : Type 0} (o : Option X) (P Q : Type 0) → (P → Q) → IfNone o P → IfNone o Q
IfNone-weaker None P Q more holds = more holds
IfNone-weaker (Some x) P Q more holds = tt

none_listed : (o : Option (List Header)) → None ≡ o → ¬ IsSome o
none_listed None same some = false≢true some
none_listed (Some headers) same some = cc (same)

pub returns-in-Some-clause-has : goal.returns-in-Some-clause-has
returns-in-Some-clause-has c =
    let is : Some (map written c.in-Some.headers.items) ≡ listed_in (data_of c.args.members.now.headers) = ap (option_map (λ headers. map written headers.items)) (sym c.in-Some.is) ∙ c.in_ok-headers.ensures in
    IfSome-weaker c.in_order.result _ _ (λ headers holds. λ d are.
    HoldsHeaders-lent (get (codes "headers") d) c.in-Some.headers.items headers.entries.items (ap listed_in (sym are.headers) ∙ sym is) holds.0 holds.1) c.in_order.ensures.sorted

pub returns-in-Some-clause-none : goal.returns-in-Some-clause-none
returns-in-Some-clause-none c =
    let is : Some (map written c.in-Some.headers.items) ≡ listed_in (data_of c.args.members.now.headers) = ap (option_map (λ headers. map written headers.items)) (sym c.in-Some.is) ∙ c.in_ok-headers.ensures in
    IfNone-weaker c.in_order.result _ _ (λ twice. λ d are some. twice_broken d c.in-Some.headers.items (ap listed_in (sym are.headers) ∙ sym is) twice) c.in_order.ensures.twice

pub returns-in-None-clause-none : goal.returns-in-None-clause-none
returns-in-None-clause-none c = λ d are some.
    let is : None ≡ listed_in (data_of c.args.members.now.headers) = ap (option_map (λ headers. map written headers.items)) (sym c.in-None.is) ∙ c.in_ok-headers.ensures in
    absurd (none_listed (listed_headers d) (is ∙ ap listed_in are.headers) some)
