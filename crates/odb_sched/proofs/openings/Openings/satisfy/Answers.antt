-- A member is counted less exactly when its last open need on another unit is satisfied.
use Rattle.std.proofs.Common.{◌≡◌, ◌<◌, ◌-◌, ◌∙◌, sym, ap, arith, suc, length, get_or, set}
use Rattle.std.proofs.lemmas.Bool.{both_ways}
use Rattle.std.proofs.lemmas.List.{get_or_read}
use Rattle.odb_check.specs.PlanGraph.{unit_of}
use Rattle.odb_sched.specs.declared.openings.Openings.{Openings}
use Rattle.odb_sched.specs.invariants.Openings.{waiting_below}
use Rattle.odb_sched.proofs.OpeningLemmas.{waiting_less, waiting_taken, waiting_kept}
use Rattle.odb_sched.proofs.openings.Openings.satisfy.Goals as goal
use Rattle.odb_sched.proofs.openings.Openings.satisfy.Goals.{else-self-via-then-self+else-unmet-i, else-self-via-else-self}

pub take_member-requires-clause-some : goal.take_member-requires-clause-some
take_member-requires-clause-some c =
    let plan = c.args.graph.now.plan_graph in
    let unmet = c.args.unmet.now in
    let are = c.requires.waiting c.if-self.true in
    let within : c.args.i < length c.args.self.now.inner.items = rw c.requires.entries.inner c.requires.request in
    let last = c.if-unmet-i.true ∙ get_or_read c.args.self.now.inner.items c.args.i c.index.result.now within c.index.ensures 0 ∙ are.inner c.args.i c.requires.request in
    let less : waiting_below plan unmet (length plan.units) (unit_of plan c.args.i) ≡ suc (waiting_below plan (set unmet c.args.i (get_or unmet c.args.i 0 - 1)) (length plan.units) (unit_of plan c.args.i)) = waiting_less plan unmet c.args.i c.requires.request c.requires.each c.requires.some last in
    let counted : get_or c.args.self.now.waiting.items c.unit_of.result 0 ≡ waiting_below plan unmet (length plan.units) (unit_of plan c.args.i) = are.waiting c.unit_of.result c.unit_of.ensures.counted ∙ ap (waiting_below plan unmet (length plan.units)) c.unit_of.ensures.unit in
    omega (arith, less, counted)

pub returns-then-unmet-i-clause-waiting : goal.returns-then-unmet-i-clause-waiting
returns-then-unmet-i-clause-waiting c = λ asked.
    let t = c.args.self.now in
    let are = c.requires.waiting c.if-self.true in
    let within : c.args.i < length t.inner.items = rw c.requires.entries.inner c.requires.request in
    let last = c.if-unmet-i.true ∙ get_or_read t.inner.items c.args.i c.index.result.now within c.index.ensures 0 ∙ are.inner c.args.i c.requires.request in
    waiting_taken c.args.graph.now.plan_graph c.args.unmet.now t c.take_member.new.self c.args.i c.laws.ensures.order c.requires.request c.requires.each c.requires.some last c.requires.entries are
    (ap (λ (o : Openings). o.inner) c.take_member.ensures.rest)
    (c.take_member.ensures.waiting ∙ ap (λ u. set t.waiting.items u (get_or t.waiting.items u 0 - 1)) c.unit_of.ensures.unit)

pub returns-else-self-clause-waiting : goal.returns-else-self-clause-waiting
returns-else-self-clause-waiting c = λ asked.
    let t = c.args.self.now in
    let are = c.requires.waiting asked in
    let within : c.args.i < length t.inner.items = rw c.requires.entries.inner c.requires.request in
    elim c.else-self.branch [
      | else-self-via-then-self+else-unmet-i w ↦ waiting_kept c.args.graph.now.plan_graph c.args.unmet.now t c.args.i c.requires.request c.requires.each c.requires.some
          (λ last. w.if-unmet-i.false (last ∙ sym (are.inner c.args.i c.requires.request) ∙ sym (get_or_read t.inner.items c.args.i w.index.result.now within w.index.ensures 0))) are
      | else-self-via-else-self w ↦ absurd (both_ways _ w.if-self.false asked)
    ]
