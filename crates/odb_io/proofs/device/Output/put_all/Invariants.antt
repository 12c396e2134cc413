use Rattle.std.proofs.Common.{◌≡◌, ◌⊎◌, [], false, length}
use Rattle.odb_io.specs.Devices.{HasWritten}
use Rattle.odb_io.proofs.device.Output.put_all.Given as goal

abbrev pub invariant-loop-rest : goal.invariant-loop-rest
invariant-loop-rest g l =
    (l.self.failed ≡ false) × HasWritten (g.W.Write.contents l.fn.self.writer) (g.W.Write.contents l.self.writer) l.bytes l.rest
    × (l.bytes ≡ [] → l.self ≡ l.fn.self) × ((l.self.flushed ≡ false) ⊎ (l.rest ≡ l.bytes))

abbrev pub decreases-loop-rest : goal.decreases-loop-rest
decreases-loop-rest g l = length l.rest
