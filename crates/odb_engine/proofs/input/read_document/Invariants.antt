use Rattle.std.proofs.Common.{◌≡◌, ◌-◌, ◌*◌, ◌≤◌, false, length}
use Rattle.odb_engine.specs.declared.input.TheConstants.{CHUNK_BYTES}
use Rattle.odb_engine.specs.Inputs.{most_read}
use Rattle.odb_engine.proofs.ReadLemmas.{IsReading}
use Rattle.odb_engine.proofs.input.read_document.Given as goal

abbrev pub invariant-loop-chunk : goal.invariant-loop-chunk
invariant-loop-chunk g l =
    (l.input.failed ≡ false) × (length l.chunk ≡ CHUNK_BYTES)
    × IsReading (g.R.Read.remaining l.fn.input.reader) (g.R.Read.remaining l.input.reader) l.bytes.items l.input.reads
    × (length l.bytes.items ≤ CHUNK_BYTES * l.input.reads)

abbrev pub decreases-loop-chunk : goal.decreases-loop-chunk
decreases-loop-chunk g l = most_read - length l.bytes.items
