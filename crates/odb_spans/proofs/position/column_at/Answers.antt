use Rattle.std.proofs.Common.{arith}
use Rattle.odb_spans.proofs.PositionLemmas.{begins-ascii, characters-as}
use Rattle.odb_spans.proofs.position.column_at.Goals as goal

pub returns-then-is_ascii : goal.returns-then-is_ascii
returns-then-is_ascii c =
    let text = c.args.text.now in
    let from = c.args.from.offset in
    let to = c.args.offset in
    omega (arith, c.requires.column, characters-as text from to c.requires.order c.requires.within c.requires.one_line (begins-ascii text from to c.if-is_ascii.ensures.cases))
