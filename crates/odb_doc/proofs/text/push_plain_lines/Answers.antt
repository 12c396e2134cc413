use Rattle.std.proofs.Common.{arith}
use Rattle.std.proofs.lemmas.Grind.{common_steps}
use Rattle.odb_doc.proofs.QuoteLemmas.{text-lines}
use Rattle.odb_doc.proofs.text.push_plain_lines.Goals as goal

pub returns : goal.returns
returns c =
    let plain = text-lines c.args.first.now c.args.second.now c.requires.first c.requires.second in
    grind (arith, common_steps, plain)
