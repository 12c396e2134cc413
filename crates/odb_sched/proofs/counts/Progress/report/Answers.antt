-- The phase is written, and the counts follow.
use Rattle.std.proofs.Common.{◌<◌, ◌∙◌, ◌||◌, ◌&&◌, ap, set, subst, sym, length, length-set}
use Rattle.std.proofs.lemmas.List.{get_or_read}
use Rattle.odb_sched.specs.declared.counts.Progress.{Progress}
use Rattle.odb_sched.specs.declared.counts.Counts.{Counts}
use Rattle.odb_sched.specs.declared.phase.Phase.TheVariants.{Unstarted, Running, Reported}
use Rattle.odb_sched.specs.run.State.{has_erred}
use Rattle.odb_sched.specs.invariants.Counts.{AreCounts}
use Rattle.odb_sched.specs.run.Steps.{stops, stopped_in}
use Rattle.odb_sched.proofs.KeptLemmas.{written_back}
use Rattle.odb_sched.proofs.PhaseLemmas.{Running-from}
use Rattle.odb_sched.proofs.StopLemmas.{stopped_still}
use Rattle.odb_sched.proofs.counts.Progress.report.Goals as goal

pub take_report-requires-clause-counts : goal.take_report-requires-clause-counts
take_report-requires-clause-counts c =
    subst (λ (t : Counts). AreCounts c.args.graph.now.plan_graph (set c.deref.result.now c.args.i Running) t) (sym (ap (λ (t : Progress). t.counts) c.put.ensures.rest))
    (subst (λ phases. AreCounts c.args.graph.now.plan_graph phases c.args.self.now.counts)
    (sym (written_back c.args.self.now.phases.items c.deref.result.now c.args.i Running (Reported c.args.outcome) (c.deref.ensures.value ∙ c.put.ensures.phases) (Running-from _ c.requires.running)))
    c.requires.counts.counts)

pub returns-clause-counts : goal.returns-clause-counts
returns-clause-counts c =
    let written = c.put.new.self.phases.items in
    let within : c.args.i < length c.put.new.self.phases.items = rw (c.put.ensures.phases, length-set c.args.self.now.phases.items c.args.i (Reported c.args.outcome), c.requires.counts.counts.ready.entries.phased) c.requires.request in
    let back = written_back c.args.self.now.phases.items c.put.new.self.phases.items c.args.i Running (Reported c.args.outcome) c.put.ensures.phases (Running-from _ c.requires.running) in
    record {
      counts = subst (λ phases. AreCounts c.args.graph.now.plan_graph phases c.take_report.new.counts) c.deref.ensures.value c.take_report.ensures;
      stopped = c.is_stopped-self.ensures
          ∙ ap (λ b. b || (stops c.args.policy.mode && has_erred c.index.result.now)) (ap (λ (t : Progress). t.stopped) c.put.ensures.rest ∙ c.requires.counts.stopped ∙ ap (λ phases. c.args.self.now.closed || stopped_in c.args.policy.mode phases) (sym back))
          ∙ ap (λ phase. (c.args.self.now.closed || stopped_in c.args.policy.mode (set c.put.new.self.phases.items c.args.i Running)) || (stops c.args.policy.mode && has_erred phase)) (get_or_read c.put.new.self.phases.items c.args.i c.index.result.now within c.index.ensures Unstarted)
          ∙ stopped_still c.args.self.now.closed c.args.policy.mode c.put.new.self.phases.items c.args.i within
          ∙ ap (λ b. b || stopped_in c.args.policy.mode c.put.new.self.phases.items) (sym (ap (λ (t : Progress). t.closed) c.put.ensures.rest));
      lanes = c.take_report-2.ensures.lanes;
    }
