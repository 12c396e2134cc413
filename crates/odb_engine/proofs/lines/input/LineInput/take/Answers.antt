use Rattle.std.proofs.Common.{◌≤◌, ◌==◌, length, take, subst}
use Rattle.std.specs.Io.Buffered.{reader_buffer, reader_capacity}
use Rattle.std.specs.Io.KnownBytes.{Consumes}
use Rattle.odb_engine.specs.lines.Steps.{ahead}
use Rattle.odb_engine.specs.lines.Sources.{LineReading, left}
use Rattle.odb_engine.proofs.ByteLemmas.{Consumes_ahead}
use Rattle.odb_engine.proofs.lines.input.LineInput.take.Goals as goal

pub returns-clause-taken : goal.returns-clause-taken
returns-clause-taken g c =
    let remaining = g.R.Read.remaining in
    let reader = c.self.inside.reader in
    let now = left remaining (record { reader = c.consume.new.self; failed = c.self.inside.failed; fills = c.self.inside.fills }) in
    subst
    (λ (input : LineReading g.row.R.Denot). c.args.count ≤ length (ahead input) → Consumes (left remaining input) now (take c.args.count (ahead input)))
    c.self.view_is
    (λ within. Consumes_ahead (reader_capacity reader == 0) (reader_buffer reader) (remaining reader.inner) now c.args.count within c.consume.ensures.bytes)
    c.requires
