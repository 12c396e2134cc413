use Rattle.std.proofs.Common.{◌≡◌, ◌≤◌, ◌-◌, ◌^◌, false}
use Rattle.odb_engine.specs.lines.Sources.{left}
use Rattle.odb_engine.proofs.EachLineLemmas.{IsAnswered}
use Rattle.odb_engine.proofs.lines.answer.answer_lines.Given as goal

abbrev pub invariant-loop-held : goal.invariant-loop-held
invariant-loop-held g l =
    (l.input.failed ≡ false) × (l.output.failed ≡ false)
    × IsAnswered (g.C.LineCommand.writes l.command) (left g.R.Read.remaining l.fn.input) (left g.R.Read.remaining l.input)
    (g.W.Write.contents l.fn.output.writer) (g.W.Write.contents l.output.writer) l.count l.held.items l.ended
    × (l.count ≤ l.input.fills)

abbrev pub decreases-loop-held : goal.decreases-loop-held
decreases-loop-held g l = 2 ^ 64 - l.input.fills
