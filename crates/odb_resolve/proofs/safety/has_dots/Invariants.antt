use Rattle.std.proofs.Common.{◌≡◌, length}
use Rattle.std.specs.List.{list_any}
use Rattle.odb_resolve.specs.Safety.{is_dots}
use Rattle.odb_resolve.specs.Texts.{segments}
use Rattle.odb_resolve.proofs.safety.has_dots.Given as goal

abbrev pub invariant-segments : goal.invariant-segments
invariant-segments l = list_any is_dots (segments l.rest) ≡ list_any is_dots (segments l.path)

abbrev pub decreases-segments : goal.decreases-segments
decreases-segments l = length l.rest
