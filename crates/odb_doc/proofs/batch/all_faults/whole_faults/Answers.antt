use Rattle.std.proofs.Common.{◌≡◌, ◌∙◌, ◌+◌, ap, arith}
use Rattle.serde_json.specs.View.{view}
use Rattle.odb_doc.proofs.ShapeFaultLemmas.{document_broken, document_passed, document_all}
use Rattle.odb_doc.proofs.batch.all_faults.whole_faults.Goals.{then-breaks+in_ok-push, else-breaks}
use Rattle.odb_doc.proofs.batch.all_faults.whole_faults.Goals as goal

pub loop-rule-preserved : goal.loop-rule-preserved
loop-rule-preserved c =
    let k = c.loop-rule.rule-index in
    let d = view c.args.document.now in
    let listed = c.loop-rule.faults.items in
    let more = c.if-breaks.faults.items in
    elim c.if-breaks.branch [
      | then-breaks+in_ok-push w ↦
          document_broken d k listed more c.loop-rule-test.true (c.breaks.ensures.0 w.if-breaks.true) (ap (λ v. v.items) w.faults-is ∙ w.in_ok-push.ensures.items) c.loop-rule.invariant
      | else-breaks w ↦
          document_passed d k listed more c.loop-rule-test.true (λ broken. cc (c.breaks.ensures.1 broken, w.if-breaks.false)) (ap (λ v. v.items) w.faults-is) c.loop-rule.invariant
    ]

pub returns : goal.returns
returns c =
    let end : 3 + c.loop-rule.rule-index ≡ 7 = omega (arith, c.loop-rule-test.false, c.loop-rule.auto.rule-index-end) in
    document_all (view c.args.document.now) c.loop-rule.faults.items (rw end at c.loop-rule.invariant)
