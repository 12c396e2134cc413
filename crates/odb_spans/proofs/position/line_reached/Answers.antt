-- No line ends after the last newline.
use Rattle.std.proofs.Common.{◌+◌, arith}
use Rattle.odb_spans.proofs.PositionLemmas.{one-line}
use Rattle.odb_spans.proofs.position.line_reached.Goals as goal

pub returns-in-Some-clause-one_line : goal.returns-in-Some-clause-one_line
returns-in-Some-clause-one_line c = λ k after before. one-line c.args.text.now c.args.from.offset c.args.offset (c.in-Some.last + 1) c.requires.order c.requires.within c.in-Some.ensures.0.after k (omega (arith, after)) before

pub returns-in-None-clause-one_line : goal.returns-in-None-clause-one_line
returns-in-None-clause-one_line c = λ k after before. one-line c.args.text.now c.args.from.offset c.args.offset 0 c.requires.order c.requires.within c.in-None.ensures k (omega (arith, after)) before
