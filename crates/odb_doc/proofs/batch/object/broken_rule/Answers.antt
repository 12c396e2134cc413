use Rattle.std.proofs.Common.{◌≡◌, ◌+◌, arith}
use Rattle.serde_json.specs.View.{view}
use Rattle.odb_doc.proofs.ShapeFaultLemmas.{document_before_all, document_least, document_none, document_unbroken}
use Rattle.odb_doc.proofs.batch.object.broken_rule.Goals as goal

pub loop-rule-init : goal.loop-rule-init
loop-rule-init c = document_before_all (view c.args.document.now)

pub loop-rule-preserved : goal.loop-rule-preserved
loop-rule-preserved c =
    document_unbroken (view c.args.document.now) c.loop-rule.rule-index c.loop-rule-test.true (λ broken. cc (c.breaks.ensures.1 broken, c.if-breaks.false)) c.loop-rule.invariant

pub returns-then-breaks-clause-least : goal.returns-then-breaks-clause-least
returns-then-breaks-clause-least c =
    document_least (view c.args.document.now) c.loop-rule.rule-index c.loop-rule-test.true (c.breaks.ensures.0 c.if-breaks.true) c.loop-rule.invariant

pub returns-clause-none : goal.returns-clause-none
returns-clause-none c =
    let end : 3 + c.loop-rule.rule-index ≡ 7 = omega (arith, c.loop-rule-test.false, c.loop-rule.auto.rule-index-end) in
    document_none (view c.args.document.now) (rw end at c.loop-rule.invariant)
