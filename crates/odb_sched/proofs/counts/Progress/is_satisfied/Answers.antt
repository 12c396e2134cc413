-- A group is satisfied if and only if none of its members is pending.
use Rattle.std.proofs.Common.{◌<◌, ◌==◌, ◌∙◌, sym, ap, subst, length}
use Rattle.std.proofs.lemmas.List.{get_or_read}
use Rattle.odb_check.specs.PlanGraph.{IsNeed}
use Rattle.odb_sched.specs.declared.phase.Phase.TheVariants.{Unstarted}
use Rattle.odb_sched.specs.run.State.{has_succeeded}
use Rattle.odb_sched.specs.run.Steps.{satisfied_in}
use Rattle.odb_sched.proofs.UnmetLemmas.{none_pending}
use Rattle.odb_sched.proofs.counts.Progress.is_satisfied.Goals as goal

pub returns-in-Group : goal.returns-in-Group
returns-in-Group c =
    let known = subst (IsNeed c.args.graph.now.plan_graph) c.in-Group.is c.requires.known in
    let within : c.in-Group.u < length c.args.self.now.counts.pending.items = rw c.requires.counts.ready.entries.pending known in
    ap (λ left. left == 0) (get_or_read c.args.self.now.counts.pending.items c.in-Group.u c.index-in-Group.result.now within c.index-in-Group.ensures 0 ∙ c.requires.counts.pending c.in-Group.u known)
    ∙ none_pending c.args.graph.now.plan_graph c.args.self.now.phases.items c.in-Group.u
    ∙ sym (ap (satisfied_in c.args.graph.now.plan_graph c.args.self.now.phases.items) c.in-Group.is)

pub returns-in-One : goal.returns-in-One
returns-in-One c =
    let known = subst (IsNeed c.args.graph.now.plan_graph) c.in-One.is c.requires.known in
    let within : c.in-One.r < length c.args.self.now.phases.items = rw c.requires.counts.ready.entries.phased known in
    c.has_succeeded.ensures ∙ ap has_succeeded (get_or_read c.args.self.now.phases.items c.in-One.r c.index.result.now within c.index.ensures Unstarted)
    ∙ sym (ap (satisfied_in c.args.graph.now.plan_graph c.args.self.now.phases.items) c.in-One.is)
