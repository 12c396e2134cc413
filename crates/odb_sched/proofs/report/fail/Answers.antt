-- The request completes, its unit is put on the worklist, and the failure is propagated.
use Rattle.std.proofs.Common.{ap, ◌∙◌, refl, sym, subst, false, set}
use Rattle.odb_sched.specs.declared.counts.Counts.{Counts}
use Rattle.odb_sched.specs.invariants.Openings.{AreOpenings}
use Rattle.odb_sched.specs.invariants.Propagation.{ArePropagating}
use Rattle.odb_sched.proofs.OpeningLemmas.{openings_reported}
use Rattle.odb_sched.proofs.PhaseLemmas.{failed_begun, failed_idle}
use Rattle.odb_sched.proofs.SameLemmas.{running_same}
use Rattle.odb_sched.proofs.FailLemmas.{propagating_failed, counts_failed, put_unit}
use Rattle.odb_sched.specs.declared.phase.Phase.TheVariants.{Running}
use Rattle.odb_sched.proofs.report.fail.Goals as goal

pub propagate-requires-clause-propagating : goal.propagate-requires-clause-propagating
propagate-requires-clause-propagating c =
    subst (ArePropagating c.args.graph.now.plan_graph c.args.phases.now)
    (sym (put_unit c.args.graph.now.plan_graph c.args.counts.now.failed _ c.put.new.self c.args.i c.unit_of.result refl c.unit_of.ensures.unit c.put.ensures))
    (propagating_failed c.args.graph.now.plan_graph c.args.phases.now c.args.counts.now.failed c.args.i c.laws.ensures.order c.requires.request c.requires.failed c.requires.counts.units)

pub returns : goal.returns
returns c =
    counts_failed c.args.graph.now.plan_graph c.args.phases.now c.args.i c.args.counts.now c.propagate.new.counts c.requires.failed c.requires.counts
    (ap (λ (t : Counts). t.unmet.items) c.propagate.ensures.rest)
    (ap (λ (t : Counts). t.pending.items) c.propagate.ensures.rest)
    (ap (λ (t : Counts). t.running) c.propagate.ensures.rest ∙ c.remove.ensures ∙ ap (λ b. set b c.args.i false) c.requires.counts.running ∙ running_same c.args.phases.now c.args.i Running false (failed_idle _ c.requires.failed))
    c.propagate.ensures.propagated c.propagate.ensures.ready
    (subst (λ (t : Counts). AreOpenings c.args.graph.now.plan_graph c.args.phases.now t.unmet.items t.openings) (sym c.propagate.ensures.rest)
    (openings_reported c.args.graph.now.plan_graph c.args.phases.now c.args.counts.now.unmet.items c.args.counts.now.openings c.args.i c.laws.ensures.order (failed_begun _ c.requires.failed) c.requires.counts.openings))
