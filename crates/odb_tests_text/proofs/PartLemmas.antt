-- Which unit may go.
use Rattle.std.proofs.Common.{◌≡◌, ◌⊎◌, ◌∙◌, ◌<◌, ℕ, Bool, true, false, List, length, inl, inr, sym, subst, arith}
use Rattle.std.proofs.lemmas.Bool.{true≢false}
use Rattle.odb_doc.specs.batch.Records.{Record}
use Rattle.odb_check.specs.PlanGraph.{unit_needed}
use Rattle.odb_check.specs.Units.{unit_at, unit_count}
use Rattle.odb_check.proofs.UnitLemmas.{unit_before}
use Rattle.odb_sched.specs.declared.states.RequestState.{RequestState}
use Rattle.odb_send.specs.NextPart.{HasProgress, HasToWait, MayGo, has_succeeded, may_start, state_at}
use Rattle.odb_send.specs.Units.{AreMarksOf, IsWhole, marked}
use Rattle.odb_send.specs.Units.IsBarred.{own, needing}
use Rattle.odb_send.proofs.MarkLemmas.{one_marks}
use Rattle.odb_tests_text.specs.Parts.{GoesOn}

-- no unit has to wait if each is done or has not begun
none-waits : (rs : List Record) (done left : List Bool) → ((u : ℕ) → u < unit_count rs → (marked done u ≡ true) ⊎ (marked left u ≡ true)) → (u : ℕ) → ¬ HasToWait rs done left u
none-waits rs done left each u (own i within bound lacks) = elim (each (unit_at rs i) (unit_before rs i (length rs) within)) [
  | inl is ↦ true≢false (sym is ∙ bound)
  | inr is ↦ true≢false (sym is ∙ lacks)
]
none-waits rs done left each u (needing i need within bound inside waits) = none-waits rs done left each (unit_needed (unit_at rs) need) waits

pub may-go : (rs : List Record) (states : List RequestState) (done left marks others : List Bool) → AreMarksOf rs (IsWhole rs (λ i. has_succeeded (state_at states i))) done
    → AreMarksOf rs (IsWhole rs (λ i. may_start (state_at states i))) left → GoesOn done left → HasProgress rs states marks others → (u : ℕ) × MayGo rs marks others u
may-go rs states done left marks others are also goes progress =
    let same : done ≡ marks = one_marks rs _ done marks are progress.succeeded in
    let same_left : left ≡ others = one_marks rs _ left others also progress.starting in
    let known : goes.open_unit < unit_count rs = omega (arith, goes.within, are.count) in
    let may : MayGo rs done left goes.open_unit = record {
      known = known;
      not_done = goes.not_done;
      free = none-waits rs done left (λ u less. goes.each u (omega (arith, less, are.count))) goes.open_unit;
    } in
    (goes.open_unit, subst (λ (units : List Bool). MayGo rs marks units goes.open_unit) same_left (subst (λ (units : List Bool). MayGo rs units left goes.open_unit) same may))
