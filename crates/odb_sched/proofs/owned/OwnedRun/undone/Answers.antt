-- The positions from the last on are listed, and none is left at the end.
use Rattle.std.proofs.Common.{◌≡◌, ◌<◌, ◌-◌, ◌++◌, ◌∷◌, ◌∙◌, suc, All, ap, subst, sym, arith, append-nil, if◌then◌else◌}
use Rattle.odb_check.specs.Firsts.{passing_below}
use Rattle.odb_sched.specs.run.Answers.{is_undone}
use Rattle.odb_sched.specs.run.State.{size}
use Rattle.odb_sched.proofs.BelowLemmas.{passing_below-within}
use Rattle.odb_sched.proofs.owned.OwnedRun.undone.Goals as goal

pub loop-i-init : goal.loop-i-init
loop-i-init c =
    ap (λ items. items ++ passing_below c.len-i.result (is_undone c.args.self.now)) c.new-positions.ensures.items ∙ ap (λ n. passing_below n (is_undone c.args.self.now)) c.len-i.ensures.size

pub loop-i-preserved : goal.loop-i-preserved
loop-i-preserved c =
    let rest = passing_below (c.loop-i.i - 1) (is_undone c.args.self.now) in
    let next : c.loop-i.i ≡ suc (c.loop-i.i - 1) = omega (arith, c.loop-i-test.true) in
    let one_less = ap (λ n. passing_below n (is_undone c.args.self.now)) next ∙ ap (λ undone. if undone then (c.loop-i.i - 1) ∷ rest else rest) (sym c.is_undone.ensures ∙ c.if-is_undone.false) in
    ap (λ later. c.loop-i.positions.items ++ later) (sym one_less) ∙ c.loop-i.invariant

pub returns-clause-value : goal.returns-clause-value
returns-clause-value c =
    let none : 0 ≡ c.loop-i.i = omega (arith, c.loop-i-test.false) in
    sym (append-nil c.loop-i.positions.items) ∙ ap (λ n. c.loop-i.positions.items ++ passing_below n (is_undone c.args.self.now)) none ∙ c.loop-i.invariant

pub returns-clause-within : goal.returns-clause-within
returns-clause-within c = subst (λ positions. All (λ i. i < size c.args.self.now) positions) (sym (returns-clause-value c)) (passing_below-within (size c.args.self.now) (is_undone c.args.self.now))
