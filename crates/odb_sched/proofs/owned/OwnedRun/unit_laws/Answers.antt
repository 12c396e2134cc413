-- The clauses are the lemmas of units, at the state that the run has reached.
use Rattle.std.proofs.Common.{◌<◌, ℕ, subst}
use Rattle.odb_sched.specs.run.State.{State, members_in}
use Rattle.odb_sched.proofs.WholeLemmas.{are_whole}
use Rattle.odb_sched.proofs.UnitLemmas.{first_needs_nothing, has_next_unit, units_go_on}
use Rattle.odb_sched.proofs.owned.OwnedRun.unit_laws.Goals as goal

pub returns-clause-first : goal.returns-clause-first
returns-clause-first c = first_needs_nothing c.args.self.now c.reached.ensures.reached

pub returns-clause-goes_on : goal.returns-clause-goes_on
returns-clause-goes_on c = units_go_on c.args.self.now c.reached.ensures.reached

pub returns-clause-next : goal.returns-clause-next
returns-clause-next c = has_next_unit c.args.self.now c.reached.ensures.reached

pub returns-clause-whole : goal.returns-clause-whole
returns-clause-whole c = are_whole c.args.self.now c.reached.ensures.reached
    (subst (λ (state : State). (u : ℕ) → u < state.plan_graph.unit_count → 0 < members_in state.plan_graph u) c.self.view_is c.laws.ensures.members)
