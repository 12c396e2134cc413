use Rattle.std.proofs.Common.{arith}
use Rattle.std.proofs.lemmas.Grind.{common_steps}
use Rattle.odb_doc.proofs.QuoteLemmas.{text-plain}
use Rattle.odb_doc.proofs.text.push_plain.Goals as goal

pub returns : goal.returns
returns c =
    let plain = text-plain c.args.piece.now c.requires in
    grind (arith, common_steps, plain)
