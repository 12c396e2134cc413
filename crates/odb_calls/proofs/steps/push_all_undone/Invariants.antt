use Rattle.std.proofs.Common.{ℕ, List, slice_get}
use Rattle.odb_check.specs.Firsts.{joined_below}
use Rattle.odb_calls.specs.Steps.{Adds, undone_at}
use Rattle.odb_calls.proofs.steps.push_all_undone.Given as goal

-- the steps are longer by those for the answers so far
abbrev pub invariant-loop-k : goal.invariant-loop-k
invariant-loop-k l = (document : List ℕ) → Adds document (joined_below l.k (λ k. undone_at (slice_get l.replies k))) l.fn.steps.items l.steps.items
