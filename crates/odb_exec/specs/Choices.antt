-- What a chooser returns: a place in one of the two slices that it is given, and the step that this picks.
use Rattle.std.specs.Prelude.{ℕ, ◌<◌, List, length, slice_index_or, Contains}
use Rattle.odb_sched.specs.declared.event.Step.{Step}
use Rattle.odb_sched.specs.declared.event.Step.TheVariants as step
use Rattle.odb_exec.specs.declared.chooser.Choice.{Choice}
use Rattle.odb_exec.specs.declared.chooser.Choice.TheVariants as choice

-- the chosen place is within its list
abbrev pub IsInRange : List ℕ → List ℕ → Choice → Type 0
IsInRange ready running (choice.Start place) = place < length ready
IsInRange ready running (choice.Report place) = place < length running

-- the step that is chosen
abbrev pub picked : List ℕ → List ℕ → Choice → Step
picked ready running (choice.Start place) = step.Start (slice_index_or ready place 0)
picked ready running (choice.Report place) = step.Report (slice_index_or running place 0)

-- the step starts or reports one of these positions
abbrev pub IsAmong : List ℕ → List ℕ → Step → Type 0
IsAmong ready running (step.Start i) = Contains ready i
IsAmong ready running (step.Report i) = Contains running i
