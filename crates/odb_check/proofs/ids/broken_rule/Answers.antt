use Rattle.std.proofs.Common.{◌≡◌, ◌+◌, arith}
use Rattle.odb_check.specs.Requests.{requests}
use Rattle.odb_check.proofs.PhaseLemmas.{id_before_all, id_unbroken, id_least, id_none}
use Rattle.odb_check.proofs.ids.broken_rule.Goals as goal

pub loop-rule-init : goal.loop-rule-init
loop-rule-init c = id_before_all (requests c.args.tables.now) c.args.i

pub loop-rule-preserved : goal.loop-rule-preserved
loop-rule-preserved c =
    id_unbroken (requests c.args.tables.now) c.args.i c.loop-rule.rule-index c.loop-rule-test.true (λ broken. cc (c.breaks.ensures.1 broken, c.if-breaks.false)) c.loop-rule.invariant

pub returns-then-breaks-clause-some : goal.returns-then-breaks-clause-some
returns-then-breaks-clause-some c =
    id_least (requests c.args.tables.now) c.args.i c.loop-rule.rule-index c.loop-rule-test.true (c.breaks.ensures.0 c.if-breaks.true) c.loop-rule.invariant

pub returns-clause-none : goal.returns-clause-none
returns-clause-none c =
    let end : 30 + c.loop-rule.rule-index ≡ 33 = omega (arith, c.loop-rule-test.false, c.loop-rule.auto.rule-index-end) in
    id_none (requests c.args.tables.now) c.args.i (rw end at c.loop-rule.invariant)
