-- The rules of an outcome, one after the other: what breaks them, and what keeps an element from breaking them.
use Rattle.std.proofs.Common.{◌≡◌, ◌<◌, ℕ, true, false, Option, None, Some, IsSomeAnd, IfSome, List, bytes_eq, Contains, subst, arith}
use Rattle.std.specs.List.{list_any}
use Rattle.std.proofs.lemmas.Bool.{both_ways}
use Rattle.std.proofs.lemmas.Cmp.{nat_list_eq_equiv}
use Rattle.std.proofs.lemmas.Map.Views.{list_any-from_Contains, Contains-from_any}
use Rattle.std.proofs.lemmas.Slice.Eq.{bytes_eq-Decides}
use Rattle.serde_json.specs.Data.{Data, Num}
use Rattle.odb_doc.specs.declared.recorded.outcome_fault.OutcomeRule.{OutcomeRule}
use Rattle.odb_doc.specs.declared.recorded.outcome_fault.OutcomeRule.TheVariants.{BadOutcomes, OutcomeTwice, BadStatus, NotWhole}
use Rattle.odb_doc.specs.batch.Bodies.{body_of}
use Rattle.odb_doc.specs.recorded.LeastOutcomeFault.{BreaksOutcome}
use Rattle.odb_doc.specs.recorded.OutcomeFaults.{rule_number}
use Rattle.odb_doc.specs.recorded.Outcomes.{IsOutcomeObject, IsStatus, id_of, status_of}
use Rattle.odb_doc.specs.WholeNumbers.{IsWhole}

-- ---- each rule

pub BreaksOutcome-twice : (before : List (List ℕ)) (d : Data) (id : List ℕ) → id_of d ≡ Some id → list_any (bytes_eq id) before ≡ true → BreaksOutcome OutcomeTwice before d
BreaksOutcome-twice before d id is any = rw is (Contains-from_any (λ x y. (bytes_eq-Decides x y).0) id before any)

pub BreaksOutcome-not_twice : (before : List (List ℕ)) (d : Data) (id : List ℕ) → id_of d ≡ Some id → list_any (bytes_eq id) before ≡ false → ¬ BreaksOutcome OutcomeTwice before d
BreaksOutcome-not_twice before d id is any = λ twice.
    let among : Contains before id = subst (λ (o : Option (List ℕ)). IsSomeAnd o (Contains before)) is twice in
    both_ways (list_any (bytes_eq id) before) any (list_any-from_Contains nat_list_eq_equiv id before among)

pub BreaksOutcome-status : (before : List (List ℕ)) (d : Data) (status : Num) → status_of d ≡ Some status → ¬ IsStatus status → BreaksOutcome BadStatus before d
BreaksOutcome-status before d status is bad = rw is bad

pub BreaksOutcome-good_status : (before : List (List ℕ)) (d : Data) (status : Num) → status_of d ≡ Some status → IsStatus status → ¬ BreaksOutcome BadStatus before d
BreaksOutcome-good_status before d status is good = λ bad. subst (λ (o : Option Num). IsSomeAnd o (λ n. ¬ IsStatus n)) is bad good

pub some_not_whole : (o : Option Data) → ¬ IfSome o IsWhole → IsSomeAnd o (λ body. ¬ IsWhole body)
some_not_whole None none = absurd (none tt)
some_not_whole (Some body) not_whole = not_whole

pub BreaksOutcome-not_whole : (before : List (List ℕ)) (d : Data) (body : Option Data) → body_of d ≡ body → ¬ IfSome body IsWhole → BreaksOutcome NotWhole before d
BreaksOutcome-not_whole before d body is not_whole = rw is (some_not_whole body not_whole)

pub all_whole : (o : Option Data) → IfSome o IsWhole → IsSomeAnd o (λ body. ¬ IsWhole body) → ⊥
all_whole None whole some = some
all_whole (Some body) whole not_whole = not_whole whole

pub BreaksOutcome-whole : (before : List (List ℕ)) (d : Data) (body : Option Data) → body_of d ≡ body → IfSome body IsWhole → ¬ BreaksOutcome NotWhole before d
BreaksOutcome-whole before d body is whole = rw is (all_whole body whole)

-- ---- no rule up to one is broken

pub below_61 : (before : List (List ℕ)) (d : Data) → IsOutcomeObject d → (rule : OutcomeRule) → rule_number rule < 61 → ¬ BreaksOutcome rule before d
below_61 before d object BadOutcomes less = λ bad. bad object
below_61 before d object OutcomeTwice less = absurd (omega arith)
below_61 before d object BadStatus less = absurd (omega arith)
below_61 before d object NotWhole less = absurd (omega arith)

pub below_62 : (before : List (List ℕ)) (d : Data) → IsOutcomeObject d → ¬ BreaksOutcome OutcomeTwice before d → (rule : OutcomeRule) → rule_number rule < 62 → ¬ BreaksOutcome rule before d
below_62 before d object here OutcomeTwice less = here
below_62 before d object here rule less = below_61 before d object rule (omega arith)

pub below_63 : (before : List (List ℕ)) (d : Data) → IsOutcomeObject d → ¬ BreaksOutcome OutcomeTwice before d → ¬ BreaksOutcome BadStatus before d → (rule : OutcomeRule) → rule_number rule < 63
    → ¬ BreaksOutcome rule before d
below_63 before d object twice here BadStatus less = here
below_63 before d object twice here rule less = below_62 before d object twice rule (omega arith)

pub breaks_none : (before : List (List ℕ)) (d : Data) → IsOutcomeObject d → ¬ BreaksOutcome OutcomeTwice before d → ¬ BreaksOutcome BadStatus before d → ¬ BreaksOutcome NotWhole before d
    → (rule : OutcomeRule) → ¬ BreaksOutcome rule before d
breaks_none before d object twice status here NotWhole = here
breaks_none before d object twice status here rule = below_63 before d object twice status rule (omega arith)
