use Rattle.std.proofs.Common.{◌≡◌, ◌∙◌, ◌+◌, Some, ap, sym, arith}
use Rattle.odb_doc.specs.Asked.{asked}
use Rattle.odb_doc.proofs.ShapeFaultLemmas.{request_broken, request_passed, request_end}
use Rattle.odb_doc.proofs.batch.all_faults.push_faults.Goals.{then-branch+in_ok-push, else-branch}
use Rattle.odb_doc.proofs.batch.all_faults.push_faults.Goals as goal

pub loop-rule-preserved : goal.loop-rule-preserved
loop-rule-preserved c = λ ds there before.
    let k = c.loop-rule.rule-index in
    let d = asked c.of-request.result in
    let listed = c.loop-rule.faults.items in
    let more = c.if-branch.faults.items in
    let lists = c.loop-rule.invariant ds there before in
    elim c.if-branch.branch [
      | then-branch+in_ok-push w ↦
          request_broken ds c.args.at k d listed more there c.loop-rule-test.true (c.in_ok-breaks.ensures.0 w.if-branch.true) (ap (λ v. v.items) w.faults-is ∙ w.in_ok-push.ensures.items) lists
      | else-branch w ↦
          request_passed ds c.args.at k d listed more there c.loop-rule-test.true (λ broken. cc (c.in_ok-breaks.ensures.1 broken, w.if-branch.false)) (ap (λ v. v.items) w.faults-is) lists
    ]

pub returns : goal.returns
returns c = λ ds there before.
    let lists = c.loop-rule.invariant ds (there ∙ ap Some (sym c.of-request.ensures.element)) before in
    let end : 10 + c.loop-rule.rule-index ≡ 24 = omega (arith, c.loop-rule-test.false, c.loop-rule.auto.rule-index-end) in
    request_end ds c.args.at c.loop-rule.faults.items (rw end at lists)
