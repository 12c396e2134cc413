-- What a worklist is made of: for its invariant, nothing to believe.
use Rattle.std.specs.Prelude.{◌≡◌, ◌≢◌, ℕ, ◌<◌, ◌≤◌, List, length, count_by, slice_index, slice_index_or}
use Rattle.odb_dense.specs.declared.worklist.Mark.{Mark}
use Rattle.odb_dense.specs.declared.worklist.Mark.TheVariants.{Unvisited, Queued}
use Rattle.odb_dense.specs.declared.worklist.Worklist.TheInside.{Inside}
use Rattle.odb_dense.specs.Marks.{is_marked}

-- the mark of each number
abbrev pub marks_of : Inside → List Mark
marks_of w = w.marks.items

-- the numbers on the list are between the head and the tail of the queue, each once
pub record AreQueued (marks : List Mark) (queue : List ℕ) (head tail : ℕ) : Type 0 where
  pub room : length queue ≡ length marks
  pub order : head ≤ tail
  pub counted : tail ≡ count_by is_marked marks
  pub placed : (u : ℕ) → slice_index_or marks u Unvisited ≡ Queued → (k : ℕ) × (head ≤ k) × (k < tail) × (slice_index queue k ≡ u)
  pub queued : (k : ℕ) → head ≤ k → k < tail → slice_index_or marks (slice_index queue k) Unvisited ≡ Queued
  pub apart : (j k : ℕ) → head ≤ j → j < k → k < tail → slice_index queue j ≢ slice_index queue k

-- what a worklist keeps
abbrev pub IsQueued : Inside → Type 0
IsQueued w = AreQueued w.marks.items w.queue.items w.head w.tail
