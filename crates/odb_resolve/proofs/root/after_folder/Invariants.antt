use Rattle.std.proofs.Common.{◌≡◌, length}
use Rattle.percent_encoding.specs.Percent.{percent_decode}
use Rattle.percent_encoding.specs.Iter.{decoded_bytes}
use Rattle.odb_resolve.specs.Roots.{after_folder}
use Rattle.odb_resolve.proofs.root.after_folder.Given as goal

abbrev pub invariant-bytes : goal.invariant-bytes
invariant-bytes l = after_folder (decoded_bytes l.left) l.rest ≡ after_folder (percent_decode l.folder) l.path

abbrev pub decreases-bytes : goal.decreases-bytes
decreases-bytes l = length (decoded_bytes l.left)
