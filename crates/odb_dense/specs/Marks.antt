-- The marks of numbers that are put on a worklist and taken from it.
use Rattle.std.specs.Prelude.{◌≡◌, ◌≢◌, ℕ, ◌<◌, Bool, true, false, List, Option, Some, None, length, slice_index_or, slice_set, if◌then◌else◌}
use Rattle.odb_dense.specs.declared.worklist.Mark.{Mark}
use Rattle.odb_dense.specs.declared.worklist.Mark.TheVariants.{Unvisited, Queued, Visited}

-- whether a number is on the list or was taken from it
abbrev pub is_marked : Mark → Bool
is_marked Unvisited = false
is_marked Queued = true
is_marked Visited = true

-- whether a number was taken from the list
abbrev pub is_visited : Mark → Bool
is_visited Unvisited = false
is_visited Queued = false
is_visited Visited = true

-- a number is put on the list, unless it was before
abbrev pub marked : List Mark → ℕ → List Mark
marked marks u = if is_marked (slice_index_or marks u Unvisited) then marks else slice_set marks u Queued

-- a number that is on the list is taken from it, or none is on it
abbrev pub Takes : List Mark → Option ℕ → List Mark → Type 0
Takes before None after = (after ≡ before) × ((u : ℕ) → slice_index_or before u Unvisited ≢ Queued)
Takes before (Some u) after = (u < length before) × (slice_index_or before u Unvisited ≡ Queued) × (after ≡ slice_set before u Visited)
