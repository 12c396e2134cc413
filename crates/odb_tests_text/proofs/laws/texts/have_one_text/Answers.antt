use Rattle.std.proofs.Common.{◌∙◌, string_bytes, sym, arith}
use Rattle.std.specs.Cmp.Lexicographic.{same_text}
use Rattle.serde_json.specs.View.{view}
use Rattle.odb_tests_text.proofs.laws.texts.have_one_text.Goals as goal

pub returns : goal.returns
returns c = λ alike.
    let one = c.in_ok-one.ensures in
    let two = c.in_ok-two.ensures in
    let equal = same_text (string_bytes c.in_ok-one.one) (string_bytes c.in_ok-two.two) (sym alike ∙ c.eq.ensures) in
    record {
      batch = one.batch;
      other = two.batch;
      batch_is = one.batch_is;
      other_is = two.batch_is;
      same = c.one_plan.ensures.lines (view c.args.value.now) one.batch (view c.args.different.now) two.batch one.batch_is two.batch_is (omega (arith, one.small)) (omega (arith, two.small)) (sym one.is ∙ (equal ∙ two.is));
    }
