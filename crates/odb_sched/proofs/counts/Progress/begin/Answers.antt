-- A started request moves from the ready ones to the running ones.
use Rattle.std.proofs.Common.{◌∙◌, ◌<◌, ap, sym, subst, length, set, true, count_by}
use Rattle.std.proofs.lemmas.List.{length-map}
use Rattle.odb_sched.specs.declared.counts.Progress.{Progress}
use Rattle.odb_sched.specs.declared.counts.Counts.{Counts}
use Rattle.odb_sched.specs.invariants.Counts.{AreCounts}
use Rattle.odb_sched.specs.declared.phase.Phase.TheVariants.{Running}
use Rattle.odb_sched.specs.run.State.{is_running}
use Rattle.odb_sched.specs.run.Steps.{stopped_in}
use Rattle.odb_sched.proofs.OpeningLemmas.{openings_started}
use Rattle.odb_sched.proofs.StartLemmas.{one_more_runs}
use Rattle.odb_sched.proofs.StartedLemmas.{counts_started, stopped_as_before}
use Rattle.odb_sched.proofs.counts.Progress.begin.Goals as goal

pub remove-requires : goal.remove-requires
remove-requires c = rw c.requires.counts.ready.entries.ready c.requires.request

pub insert-requires : goal.insert-requires
insert-requires c = rw (ap length c.requires.counts.running ∙ length-map c.args.self.now.phases.items is_running ∙ c.requires.counts.ready.entries.phased) c.requires.request

pub begin-requires : goal.begin-requires
begin-requires c = rw c.requires.counts.openings.entries.begun c.unit_of.ensures.counted

pub put-requires : goal.put-requires
put-requires c = rw c.requires.counts.ready.entries.phased c.requires.request

pub returns-clause-counts : goal.returns-clause-counts
returns-clause-counts c =
    let plan = c.args.graph.now.plan_graph in
    let phases = c.args.self.now.phases.items in
    let t = c.args.self.now.counts.openings in
    subst (λ ps. AreCounts plan ps c.put.new.self.counts) (sym c.put.ensures.phases)
    (subst (λ (t : Counts). AreCounts plan (set phases c.args.i Running) t) (sym (ap (λ (t : Progress). t.counts) c.put.ensures.rest))
    (counts_started plan phases c.args.self.now.counts c.args.i c.remove.new.self c.insert.new.self c.begin.new.self c.requires.request c.requires.fresh c.requires.counts c.remove.ensures c.insert.ensures
    (openings_started plan phases c.args.self.now.counts.unmet.items t c.begin.new.self c.args.i c.laws.ensures.order c.requires.request c.requires.counts.ready.entries.phased
    c.requires.fresh c.begin.ensures.rest (c.begin.ensures.begun ∙ ap (λ u. set t.begun.items u true) c.unit_of.ensures.unit) c.requires.counts.openings)))

pub returns-clause-running : goal.returns-clause-running
returns-clause-running c =
    let within : c.args.i < length c.args.self.now.phases.items = rw c.requires.counts.ready.entries.phased c.requires.request in
    ap (count_by is_running) c.put.ensures.phases ∙ one_more_runs c.args.self.now.phases.items c.args.i within c.requires.fresh

pub returns-clause-stopped : goal.returns-clause-stopped
returns-clause-stopped c = λ mode.
    let within : c.args.i < length c.args.self.now.phases.items = rw c.requires.counts.ready.entries.phased c.requires.request in
    ap (stopped_in mode) c.put.ensures.phases ∙ stopped_as_before mode c.args.self.now.phases.items c.args.i within c.requires.fresh
