use Rattle.std.proofs.Common.{◌≡◌, length}
use Rattle.odb_resolve.specs.Safety.{has_control}
use Rattle.odb_resolve.proofs.safety.has_control.Given as goal

abbrev pub invariant-bytes : goal.invariant-bytes
invariant-bytes l = has_control l.rest ≡ has_control l.text

abbrev pub decreases-bytes : goal.decreases-bytes
decreases-bytes l = length l.rest
