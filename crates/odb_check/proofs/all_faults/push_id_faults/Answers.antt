use Rattle.std.proofs.Common.{◌≡◌, ◌∙◌, ◌+◌, ap, arith}
use Rattle.odb_check.specs.Requests.{requests}
use Rattle.odb_check.proofs.PhaseLemmas.{id_broken, id_passed, id_end}
use Rattle.odb_check.proofs.all_faults.push_id_faults.Goals.{then-breaks+in_ok-push, else-breaks}
use Rattle.odb_check.proofs.all_faults.push_id_faults.Goals as goal

pub loop-rule-preserved : goal.loop-rule-preserved
loop-rule-preserved c =
    let rs = requests c.args.tables.now in
    let k = c.loop-rule.rule-index in
    let listed = c.loop-rule.faults.items in
    let more = c.if-breaks.faults.items in
    elim c.if-breaks.branch [
      | then-breaks+in_ok-push w ↦
          id_broken rs c.args.i k listed more c.loop-rule-test.true (c.breaks.ensures.0 w.if-breaks.true) (ap (λ v. v.items) w.faults-is ∙ w.in_ok-push.ensures.items) c.loop-rule.invariant
      | else-breaks w ↦
          id_passed rs c.args.i k listed more c.loop-rule-test.true (λ broken. cc (c.breaks.ensures.1 broken, w.if-breaks.false)) (ap (λ v. v.items) w.faults-is) c.loop-rule.invariant
    ]

pub returns : goal.returns
returns c =
    let end : 30 + c.loop-rule.rule-index ≡ 33 = omega (arith, c.loop-rule-test.false, c.loop-rule.auto.rule-index-end) in
    id_end (requests c.args.tables.now) c.args.i c.loop-rule.faults.items (rw end at c.loop-rule.invariant)
