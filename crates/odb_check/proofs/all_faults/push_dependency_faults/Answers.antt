use Rattle.std.proofs.Common.{◌≡◌, ◌∙◌, ◌+◌, ap, arith}
use Rattle.odb_check.specs.Requests.{requests}
use Rattle.odb_check.proofs.PhaseLemmas.{dependency_begin, dependency_broken, dependency_passed, dependency_end}
use Rattle.odb_check.proofs.all_faults.push_dependency_faults.Goals.{then-breaks+in_ok-push, else-breaks}
use Rattle.odb_check.proofs.all_faults.push_dependency_faults.Goals as goal

pub loop-rule-init : goal.loop-rule-init
loop-rule-init c = dependency_begin (requests c.args.tables.now) c.args.i c.args.faults.now.items c.requires.before

pub loop-rule-preserved : goal.loop-rule-preserved
loop-rule-preserved c =
    let rs = requests c.args.tables.now in
    let k = c.loop-rule.rule-index in
    let listed = c.loop-rule.faults.items in
    let more = c.if-breaks.faults.items in
    elim c.if-breaks.branch [
      | then-breaks+in_ok-push w ↦
          dependency_broken rs c.args.i k listed more c.loop-rule-test.true (c.breaks.ensures.0 w.if-breaks.true) (ap (λ v. v.items) w.faults-is ∙ w.in_ok-push.ensures.items) c.loop-rule.invariant
      | else-breaks w ↦
          dependency_passed rs c.args.i k listed more c.loop-rule-test.true (λ broken. cc (c.breaks.ensures.1 broken, w.if-breaks.false)) (ap (λ v. v.items) w.faults-is) c.loop-rule.invariant
    ]

pub returns-clause-lists : goal.returns-clause-lists
returns-clause-lists c =
    let end : 40 + c.loop-rule.rule-index ≡ 47 = omega (arith, c.loop-rule-test.false, c.loop-rule.auto.rule-index-end) in
    dependency_end (requests c.args.tables.now) c.args.i c.loop-rule.faults.items (rw end at c.loop-rule.invariant)
