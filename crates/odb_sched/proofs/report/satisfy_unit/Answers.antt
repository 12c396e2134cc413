-- The dependents of the unit have one need less exactly when no member is pending.
use Rattle.std.proofs.Common.{◌+◌, arith, refl, length}
use Rattle.odb_sched.proofs.UnmetLemmas.{succeeded_read, unfinished_read, unit_row}
use Rattle.odb_sched.proofs.report.satisfy_unit.Goals as goal

pub satisfy_each-requires-clause-enough : goal.satisfy_each-requires-clause-enough
satisfy_each-requires-clause-enough c = λ i inside.
    let done = succeeded_read c.args.graph.now.plan_graph c.args.phases.now c.args.u c.index.result.now c.args.counts.now.pending.items c.index.ensures (rw c.requires.ready.entries.pending c.requires.unit) c.requires.pending c.if-index-eq0.true in
    rw (unit_row c.args.graph.now.plan_graph c.args.phases.now c.args.u (length c.args.graph.now.plan_graph.units + c.args.u) i c.args.graph.now.dependents c.dependents_of_unit.result.now c.laws.ensures.dependents c.requires.unit inside done refl c.dependents_of_unit.ensures.row) (c.requires.enough i inside)

pub returns-then-index-eq0-clause-fallen : goal.returns-then-index-eq0-clause-fallen
returns-then-index-eq0-clause-fallen c = λ i inside.
    let done = succeeded_read c.args.graph.now.plan_graph c.args.phases.now c.args.u c.index.result.now c.args.counts.now.pending.items c.index.ensures (rw c.requires.ready.entries.pending c.requires.unit) c.requires.pending c.if-index-eq0.true in
    rw (← unit_row c.args.graph.now.plan_graph c.args.phases.now c.args.u (length c.args.graph.now.plan_graph.units + c.args.u) i c.args.graph.now.dependents c.dependents_of_unit.result.now c.laws.ensures.dependents c.requires.unit inside done refl c.dependents_of_unit.ensures.row) (c.satisfy_each.ensures.fallen i inside)

pub returns-else-index-eq0-clause-fallen : goal.returns-else-index-eq0-clause-fallen
returns-else-index-eq0-clause-fallen c = λ i inside.
    rw (unfinished_read c.args.graph.now.plan_graph c.args.phases.now c.args.u c.index.result.now c.args.counts.now.pending.items c.index.ensures (rw c.requires.ready.entries.pending c.requires.unit) c.requires.pending c.if-index-eq0.false) (omega arith)
