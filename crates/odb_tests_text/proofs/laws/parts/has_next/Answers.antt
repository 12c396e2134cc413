use Rattle.std.proofs.Common.{subst, sym}
use Rattle.odb_check.specs.Plans.{plan_records}
use Rattle.odb_send.specs.NextPart.{has_succeeded, may_start, state_at}
use Rattle.odb_send.specs.Units.{AreMarksOf, IsWhole}
use Rattle.odb_tests_text.proofs.PartLemmas.{may-go}
use Rattle.odb_tests_text.proofs.laws.parts.has_next.Goals as goal

pub returns-in-Ok-open_units : goal.returns-in-Ok-open_units
returns-in-Ok-open_units c = λ goes done left progress.
    let rs = plan_records c.args.plan.now in
    let states = c.args.states.now in
    may-go rs states c.deref.result.now c.deref-in-Ok-open_units.result.now done left
    (subst (AreMarksOf rs (IsWhole rs (λ i. has_succeeded (state_at states i)))) (sym c.deref.ensures.value) c.in-Ok.ensures)
    (subst (AreMarksOf rs (IsWhole rs (λ i. may_start (state_at states i)))) (sym c.deref-in-Ok-open_units.ensures.value) c.in-Ok-open_units.ensures)
    (c.goes_on.ensures goes) progress
