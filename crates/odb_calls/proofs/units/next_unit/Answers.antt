-- The positions are those of the unit that was found.
use Rattle.std.proofs.Common.{◌∙◌, ap, sym, subst}
use Rattle.odb_check.specs.PlanGraph.{IsSpan}
use Rattle.odb_sched.specs.run.State.{State}
use Rattle.odb_live.specs.declared.run.LiveRun.{LiveRun}
use Rattle.odb_calls.specs.Units.GivesUnit.{Begins}
use Rattle.odb_calls.proofs.units.next_unit.Goals as goal

pub returns-in-Some-clause-unit : goal.returns-in-Some-clause-unit
returns-in-Some-clause-unit c = Begins c.in-Some.u c.members-members.result.start c.members-members.result.end (sym c.next_unit.ensures.next ∙ c.in-Some.is)
    (subst (λ (state : State). IsSpan state.plan_graph c.in-Some.u c.members-members.result.start c.members-members.result.end) (c.run.ensures ∙ ap (λ (live : LiveRun). live.run) c.next_unit.ensures.same) c.members-members.ensures.span)
    c.give_span.ensures.count c.give_span.ensures.span
