use Rattle.std.proofs.Common.{◌≡◌, length}
use Rattle.odb_resolve.specs.Dots.{remove_dots, take_segments}
use Rattle.odb_resolve.specs.Texts.{segments}
use Rattle.odb_resolve.proofs.dots.remove_dots.Given as goal

abbrev pub invariant-segments : goal.invariant-segments
invariant-segments l = take_segments l.output.items (segments l.input) ≡ remove_dots l.path

abbrev pub decreases-segments : goal.decreases-segments
decreases-segments l = length l.input
