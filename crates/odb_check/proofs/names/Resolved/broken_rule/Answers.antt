use Rattle.std.proofs.Common.{◌≡◌, ◌+◌, arith}
use Rattle.odb_check.specs.Resolved.{batch_of}
use Rattle.odb_check.proofs.PhaseLemmas.{dependency_before_all, dependency_unbroken, dependency_least, dependency_none}
use Rattle.odb_check.proofs.names.Resolved.broken_rule.Goals as goal

pub loop-rule-init : goal.loop-rule-init
loop-rule-init c = dependency_before_all (batch_of c.args.self.now) c.args.self.now.i

pub loop-rule-preserved : goal.loop-rule-preserved
loop-rule-preserved c =
    dependency_unbroken (batch_of c.args.self.now) c.args.self.now.i c.loop-rule.rule-index c.loop-rule-test.true (λ broken. cc (c.breaks.ensures.1 broken, c.if-breaks.false)) c.loop-rule.invariant

pub returns-then-breaks-clause-some : goal.returns-then-breaks-clause-some
returns-then-breaks-clause-some c =
    dependency_least (batch_of c.args.self.now) c.args.self.now.i c.loop-rule.rule-index c.loop-rule-test.true (c.breaks.ensures.0 c.if-breaks.true) c.loop-rule.invariant

pub returns-clause-none : goal.returns-clause-none
returns-clause-none c =
    let end : 40 + c.loop-rule.rule-index ≡ 47 = omega (arith, c.loop-rule-test.false, c.loop-rule.auto.rule-index-end) in
    dependency_none (batch_of c.args.self.now) c.args.self.now.i (rw end at c.loop-rule.invariant)
