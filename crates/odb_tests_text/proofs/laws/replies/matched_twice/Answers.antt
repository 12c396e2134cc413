use Rattle.std.proofs.Common.{◌≡◌, ◌∙◌, ℕ, List, ap, IsSome}
use Rattle.odb_check.specs.Plans.{plan_records}
use Rattle.odb_reply.specs.Fits.{Fits, IsTableOf, places, statuses}
use Rattle.odb_reply.specs.LeastMatchFault.{RefusesMatch}
use Rattle.odb_reply.specs.MatchFaults.{match_row, MatchFault}
use Rattle.odb_reply.specs.ResponseDocuments.{entries}
use Rattle.odb_reply.specs.declared.table.Table.{Table}
use Rattle.odb_testing.proofs.ReadingLemmas.{one_reading, with_good}
use Rattle.odb_tests_text.proofs.laws.replies.matched_twice.Goals as goal

pub returns : goal.returns
returns c =
    let law = c.one_match.ensures in
    let rs = plan_records c.args.plan.now in
    let es = entries c.args.responses.now in
    let same : (d : Unit {0}) (x y : List ℕ × List ℕ) → Fits rs es × IsTableOf rs es x.0 x.1 → Fits rs es × IsTableOf rs es y.0 y.1 → x ≡ y =
    λ d x y p q. let is = law.table rs es x.0 y.0 x.1 y.1 p.0 p.1 q.1 in ap (λ a. (a, x.1)) is.0 ∙ ap (λ b. (y.0, b)) is.1 in
    let twice : (Table → Type 0) = λ table. IsTableOf rs es (places table) (statuses table) in
    let refuses : (MatchFault → Type 0) = λ f. IsSome (match_row f) × RefusesMatch f rs es in
    one_reading (λ (table : Table). (places table, statuses table)) (λ (d : Unit {0}). Fits rs es) (λ d t. Fits rs es × IsTableOf rs es t.0 t.1) (λ f. IsSome (match_row f)) (λ f d. RefusesMatch f rs es) same (λ d. law.one rs es) (λ d. law.none rs es) tt c.matched.result c.matched-2.result
    (with_good (Fits rs es) twice refuses c.matched.result c.matched.ensures) (with_good (Fits rs es) twice refuses c.matched-2.result c.matched-2.ensures)
