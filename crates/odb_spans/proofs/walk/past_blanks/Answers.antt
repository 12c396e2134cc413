use Rattle.std.proofs.Common.{◌∙◌, get_or, refl, sym, ap, arith}
use Rattle.std.proofs.lemmas.Str.{IsCharBoundary-after_ascii}
use Rattle.json.specs.Align.{is_blank}
use Rattle.json.specs.Lex.{space}
use Rattle.odb_spans.proofs.CutLemmas.{clear-byte, cut-byte}
use Rattle.odb_spans.proofs.EndLemmas.{blanks-through, space-byte}
use Rattle.odb_spans.proofs.WalkLemmas.{past-blank}
use Rattle.odb_spans.proofs.walk.past_blanks.Goals as goal

pub loop-end-preserved : goal.loop-end-preserved
loop-end-preserved c =
    let is = c.in-Blank.ensures in
    record {
      same = sym (past-blank c.args.text.now c.loop-end.end c.loop-end-test.true is) ∙ c.loop-end.invariant.same;
      after = omega (arith, c.loop-end.invariant.after);
      within = omega (arith, c.loop-end-test.true);
      boundary = λ utf8 here. IsCharBoundary-after_ascii c.args.text.now c.loop-end.end utf8 c.loop-end-test.true is.ascii;
      cut = λ from. cut-byte c.args.text.now c.loop-end.end space c.loop-end-test.true is.is refl (c.loop-end.invariant.cut from);
      clear = λ from at. clear-byte c.args.text.now c.loop-end.end space c.loop-end-test.true is.is refl (c.loop-end.invariant.cut from);
      blanks = λ k after before. blanks-through c.args.text.now c.loop-end.end (space-byte (get_or c.args.text.now c.loop-end.end 0) (ap is_blank is.is)) k before (c.loop-end.invariant.blanks k after);
    }
