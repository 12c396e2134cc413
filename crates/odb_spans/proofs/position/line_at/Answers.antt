use Rattle.std.proofs.Common.{arith}
use Rattle.odb_spans.proofs.PositionLemmas.{lines-as, one-line}
use Rattle.odb_spans.proofs.position.line_at.Goals as goal

pub returns-in-None : goal.returns-in-None
returns-in-None c =
    let text = c.args.text.now in
    let from = c.args.from.offset in
    let to = c.args.offset in
    let none = one-line text from to 0 c.requires.order c.requires.within c.in-None.ensures in
    omega (arith, c.requires.counts.line, lines-as text from to c.requires.order c.requires.within (λ k after before. none k (omega (arith, after)) before))
