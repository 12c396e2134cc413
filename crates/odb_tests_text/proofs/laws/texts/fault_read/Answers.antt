use Rattle.std.proofs.Common.{arith}
use Rattle.std.proofs.lemmas.Grind.{common_steps}
use Rattle.odb_doc.specs.Refusals.{printed}
use Rattle.odb_tests_text.proofs.laws.texts.fault_read.Goals as goal

pub returns : goal.returns
returns c =
    let law = c.every_result.ensures.fault (printed c.args.refusal) in
    grind (arith, common_steps)
