use Rattle.std.proofs.Common.{◌≡◌, ◌≤◌, ◌∙◌, ap, arith, length}
use Rattle.odb_sched.specs.run.State.{is_running, size, phase_at}
use Rattle.odb_sched.specs.invariants.Kept.{kept_state}
use Rattle.odb_sched.specs.run.Steps.{running_count, places}
use Rattle.odb_sched.proofs.ChoiceLemmas.{listed_within}
use Rattle.odb_sched.proofs.CountedLemmas.{running_is, running_listed}
use Rattle.odb_sched.proofs.owned.OwnedRun.running.Goals as goal

pub returns-clause-listed : goal.returns-clause-listed
returns-clause-listed c = rw (← c.self.view_is)
    (running_listed _ c.self.inside.progress c.as_slice.result.now c.self.invariant.reached c.self.invariant.counts c.as_slice.ensures.listed)

pub returns-clause-within : goal.returns-clause-within
returns-clause-within c = listed_within (size c.args.self.now) (λ i. is_running (phase_at c.args.self.now i)) c.as_slice.result.now (returns-clause-listed c)

pub returns-clause-width : goal.returns-clause-width
returns-clause-width c =
    let most : running_count (kept_state c.self.inside) ≤ places (kept_state c.self.inside) = c.self.invariant.reached.narrow in
    let counted : length c.as_slice.result.now ≡ running_count (kept_state c.self.inside) = c.as_slice.ensures.len ∙ running_is (kept_state c.self.inside) c.self.inside.progress c.self.invariant.counts in
    let same : places (kept_state c.self.inside) ≡ places c.args.self.now = ap places c.self.view_is in
    omega arith
