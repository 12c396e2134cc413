use Rattle.std.proofs.Common.{◌≡◌, ◌+◌, arith}
use Rattle.odb_doc.specs.Asked.{asked}
use Rattle.odb_doc.proofs.ShapeFaultLemmas.{request_before_all, request_least, request_none, request_unbroken}
use Rattle.odb_doc.proofs.batch.asked.Asked.broken_rule.Goals as goal

pub loop-rule-init : goal.loop-rule-init
loop-rule-init c = request_before_all (asked c.args.self.now)

pub loop-rule-preserved : goal.loop-rule-preserved
loop-rule-preserved c =
    request_unbroken (asked c.args.self.now) c.loop-rule.rule-index c.loop-rule-test.true (λ broken. cc (c.in_ok-breaks.ensures.1 broken, c.if-branch.false)) c.loop-rule.invariant

pub returns-then-branch-clause-least : goal.returns-then-branch-clause-least
returns-then-branch-clause-least c =
    request_least (asked c.args.self.now) c.loop-rule.rule-index c.loop-rule-test.true (c.in_ok-breaks.ensures.0 c.if-branch.true) c.loop-rule.invariant

pub returns-clause-none : goal.returns-clause-none
returns-clause-none c =
    let end : 10 + c.loop-rule.rule-index ≡ 24 = omega (arith, c.loop-rule-test.false, c.loop-rule.auto.rule-index-end) in
    request_none (asked c.args.self.now) (rw end at c.loop-rule.invariant)
