use Rattle.std.proofs.Common.{◌≡◌, true, rules}
use Rattle.std.proofs.lemmas.Option.{IfSome_then}
use Rattle.odb_check.specs.Plans.{plan_records}
use Rattle.odb_send.specs.Answers.{answers_in}
use Rattle.odb_send.specs.NextPart.{HasNoLonger}
use Rattle.odb_send.specs.Rests.{kept}
use Rattle.odb_tests_text.proofs.laws.parts.next_part.Goals as goal

pub returns : goal.returns
returns c =
    let rs = plan_records c.args.plan.now in
    let limit = c.args.limit in
    let answers = answers_in c.args.answers.now in
    let short : HasNoLonger rs limit = search rules in
    let goes : c.has_next.result ≡ true = search rules in
    IfSome_then c.part_in.result c.part_in.ensures.part (λ found is.
    let (u, may) = c.has_next.ensures goes is.done is.left is.progress in
    c.every_part.ensures.some rs is.done is.left limit answers (kept found.0) is.part_is.units short u may)
