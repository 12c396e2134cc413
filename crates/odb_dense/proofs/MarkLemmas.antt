-- The steps of a worklist are over as many numbers as before.
use Rattle.std.proofs.Common.{◌≡◌, ◌∙◌, ℕ, ap, refl, Bool, true, false, List, Option, Some, None, length, get_or, set, if◌then◌else◌}
use Rattle.std.proofs.lemmas.List.{length-set}
use Rattle.odb_dense.specs.declared.worklist.Mark.{Mark}
use Rattle.odb_dense.specs.declared.worklist.Mark.TheVariants.{Unvisited, Queued, Visited}
use Rattle.odb_dense.specs.Marks.{is_marked, marked, Takes}

pub length-marked : (marks : List Mark) (u : ℕ) → length (marked marks u) ≡ length marks
length-marked marks u = by (is_marked (get_or marks u Unvisited))
  where
    by : (b : Bool) → length (if b then marks else set marks u Queued) ≡ length marks
    by true = refl
    by false = length-set marks u Queued

pub length-taken : (before after : List Mark) (taken : Option ℕ) → Takes before taken after → length after ≡ length before
length-taken before after None h = ap length h.0
length-taken before after (Some u) h = ap length h.2 ∙ length-set before u Visited

-- a step keeps the bound
pub ruleset same_room = (length-marked, length-taken)
