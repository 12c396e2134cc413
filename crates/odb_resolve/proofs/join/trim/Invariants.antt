use Rattle.std.proofs.Common.{◌≡◌, vec_len}
use Rattle.odb_resolve.specs.Joins.{trimmed}
use Rattle.odb_resolve.proofs.join.trim.Given as goal

abbrev pub invariant-slashes : goal.invariant-slashes
invariant-slashes l = trimmed l.path.items ≡ trimmed l.initial.path.items

abbrev pub decreases-slashes : goal.decreases-slashes
decreases-slashes l = vec_len l.path
