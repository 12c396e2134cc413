use Rattle.std.proofs.Common.{◌≡◌, take}
use Rattle.std.specs.Prelude.{slice_index}
use Rattle.odb_check.specs.Levels.{next_level}
use Rattle.odb_check.proofs.levels.next_level.Given as goal

-- the needs so far
abbrev pub invariant-loop-need : goal.invariant-loop-need
invariant-loop-need l = l.level ≡ next_level (slice_index l.levels) (slice_index l.unit_levels) (take l.need-index l.needs)
