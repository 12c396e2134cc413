-- Each member has started, and no other request.
use Rattle.std.proofs.Common.{◌≡◌, ◌∙◌, ◌<◌, ◌≤◌, ◌+◌, ◌-◌, ap, arith, length, set, count_by}
use Rattle.odb_sched.specs.declared.counts.Progress.{Progress}
use Rattle.odb_sched.specs.run.State.{is_unstarted, is_running, members_in}
use Rattle.odb_sched.proofs.BeginLemmas.{member_unstarted}
use Rattle.odb_sched.proofs.FirstLemmas.{members_of_span}
use Rattle.odb_sched.proofs.MemberLemmas.{phases_running}
use Rattle.odb_sched.proofs.counts.Progress.begin_unit.Goals as goal

pub begin-requires-clause-fresh : goal.begin-requires-clause-fresh
begin-requires-clause-fresh c =
    let most : c.members-members.result.end ≤ length c.args.graph.now.plan_graph.units = c.members-members.ensures.span.within in
    let within : c.loop-i.i < length c.args.graph.now.plan_graph.units = omega (arith, most, c.loop-i-test.true) in
    ap is_unstarted (c.loop-i.invariant.others c.loop-i.i (omega arith))
    ∙ member_unstarted c.args.graph.now.plan_graph c.args.self.now.phases.items c.args.u c.loop-i.i c.requires.fresh within ((c.members-members.ensures.span.exact c.loop-i.i within).1 (c.loop-i.auto.i, c.loop-i-test.true))

pub returns-clause-phases : goal.returns-clause-phases
returns-clause-phases c =
    let begins : c.members-members.result.start < c.members-members.result.end = c.members-members.ensures.span.begins in
    let last : c.loop-i.i ≤ c.members-members.result.end = c.loop-i.auto.i-end (omega (arith, begins)) in
    phases_running c.args.graph.now.plan_graph c.args.self.now.phases.items c.loop-i.self.phases.items c.args.u c.members-members.result.start c.members-members.result.end c.members-members.ensures.span c.loop-i.invariant.counts.ready.entries.phased
    (λ j begun more. c.loop-i.invariant.before j begun (omega (arith, more, c.loop-i-test.false))) c.loop-i.invariant.earlier (λ j late. c.loop-i.invariant.others j (omega (arith, late, last)))

pub returns-clause-awaited : goal.returns-clause-awaited
returns-clause-awaited c =
    let begins : c.members-members.result.start < c.members-members.result.end = c.members-members.ensures.span.begins in
    c.send.ensures.awaited
    ∙ ap (λ (t : Progress). set t.lanes.awaited.items c.args.u (c.members-members.result.end - c.members-members.result.start)) c.loop-i.invariant.rest
    ∙ ap (set c.args.self.now.lanes.awaited.items c.args.u) (members_of_span c.args.graph.now.plan_graph c.args.u _ _ c.members-members.ensures.span begins)

pub returns-clause-some : goal.returns-clause-some
returns-clause-some c =
    let begins : c.members-members.result.start < c.members-members.result.end = c.members-members.ensures.span.begins in
    let counted : c.members-members.result.end - c.members-members.result.start ≡ members_in c.args.graph.now.plan_graph c.args.u = members_of_span c.args.graph.now.plan_graph c.args.u _ _ c.members-members.ensures.span begins in
    omega (arith, begins, counted)

pub returns-clause-running : goal.returns-clause-running
returns-clause-running c =
    let begins : c.members-members.result.start < c.members-members.result.end = c.members-members.ensures.span.begins in
    let last : c.loop-i.i ≤ c.members-members.result.end = c.loop-i.auto.i-end (omega (arith, begins)) in
    let counted : c.members-members.result.end - c.members-members.result.start ≡ members_in c.args.graph.now.plan_graph c.args.u = members_of_span c.args.graph.now.plan_graph c.args.u _ _ c.members-members.ensures.span begins in
    let running : count_by is_running c.loop-i.self.phases.items ≡ count_by is_running c.args.self.now.phases.items + (c.loop-i.i - c.members-members.result.start) = c.loop-i.invariant.running in
    omega (arith, running, counted, last, c.loop-i-test.false)
