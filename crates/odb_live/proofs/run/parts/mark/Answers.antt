-- The marks of the requests of a part.
use Rattle.std.proofs.Common.{◌∙◌, List, Bool, true, get_or, set, take, ap, sym}
use Rattle.std.proofs.lemmas.List.{take_all, take_more}
use Rattle.odb_live.specs.LiveParts.{marks_after}
use Rattle.odb_live.proofs.LivePartLemmas.{marks-more}
use Rattle.odb_live.proofs.run.parts.mark.Goals as goal

pub loop-i-preserved : goal.loop-i-preserved
loop-i-preserved c =
    let positions = c.args.positions.now in
    let out = c.args.out.now in
    let k = c.loop-i.i-index in
    let i = get_or positions k 0 in
    ap (λ (xs : List Bool). set xs i true) c.loop-i.invariant ∙ sym (marks-more out (take k positions) i) ∙ ap (marks_after out) (sym (take_more positions k 0 c.loop-i-test.true))

pub returns : goal.returns
returns c = c.loop-i.invariant ∙ ap (marks_after c.args.out.now) (take_all c.loop-i.i-index c.args.positions.now c.loop-i-test.false)
