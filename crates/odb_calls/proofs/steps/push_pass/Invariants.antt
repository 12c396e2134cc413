use Rattle.std.proofs.Common.{slice_get}
use Rattle.odb_check.specs.Firsts.{joined_below}
use Rattle.odb_calls.specs.Steps.{Adds, attempts_at}
use Rattle.odb_calls.proofs.steps.push_pass.Given as goal

-- the steps are longer by those for the answers so far
abbrev pub invariant-loop-k : goal.invariant-loop-k
invariant-loop-k l = Adds l.document (joined_below l.k (λ k. attempts_at l.pass (slice_get l.replies k))) l.fn.steps.items l.steps.items
