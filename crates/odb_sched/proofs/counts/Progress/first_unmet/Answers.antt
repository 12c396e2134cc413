-- None is found where none is counted. Else the needs before the one that is found are satisfied, and all are if none is found.
use Rattle.std.proofs.Common.{◌<◌, ◌==◌, ap, sym, length, eq-eqb, ◌∙◌}
use Rattle.std.proofs.lemmas.List.{get_or_read}
use Rattle.odb_check.specs.declared.need.Need.TheVariants.{One}
use Rattle.odb_check.specs.PlanGraph.{needs_of}
use Rattle.odb_sched.specs.run.Steps.{satisfied_in}
use Rattle.odb_sched.proofs.CountedLemmas.{none_unmet}
use Rattle.odb_sched.proofs.ListLemmas.{find_first, find_nothing, find_none}
use Rattle.odb_sched.proofs.counts.Progress.first_unmet.Goals as goal

pub returns-then-index-eq0 : goal.returns-then-index-eq0
returns-then-index-eq0 c =
    let plan = c.args.graph.now.plan_graph in
    let counts = c.args.self.now.counts in
    let within : c.args.i < length counts.unmet.items = rw c.requires.counts.ready.entries.unmet c.requires.request in
    find_none (satisfied_in plan c.args.self.now.phases.items) (needs_of plan c.args.i)
    (sym (none_unmet (satisfied_in plan c.args.self.now.phases.items) (needs_of plan c.args.i))
    ∙ ap (λ n. n == 0) (sym (get_or_read counts.unmet.items c.args.i c.index.result.now within c.index.ensures 0 ∙ c.requires.counts.unmet c.args.i c.requires.request))
    ∙ eq-eqb _ 0 c.if-index-eq0.true)

pub returns-then-not-is_satisfied : goal.returns-then-not-is_satisfied
returns-then-not-is_satisfied c = rw (← c.needs-needs.ensures.needs) (sym (find_first (satisfied_in c.args.graph.now.plan_graph c.args.self.now.phases.items) c.needs-needs.result.now c.loop-need.need-index (One 0) c.loop-need-test.true c.loop-need.invariant (sym c.is_satisfied.ensures ∙ c.if-not-is_satisfied.true)))

pub returns : goal.returns
returns c = rw (← c.needs-needs.ensures.needs) (find_nothing (satisfied_in c.args.graph.now.plan_graph c.args.self.now.phases.items) c.needs-needs.result.now c.loop-need.need-index c.loop-need-test.false c.loop-need.invariant)
