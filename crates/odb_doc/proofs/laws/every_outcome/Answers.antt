-- The headers are the entries of a map, which are in order; or there are none.
use Rattle.std.proofs.Common.{subst}
use Rattle.std.specs.List.Sorted.{IsStrictlySortedBy}
use Rattle.odb_doc.specs.Headers.{IsInOrder}
use Rattle.odb_doc.proofs.HeaderLemmas.{ordered_entries}
use Rattle.odb_doc.proofs.laws.every_outcome.Goals as goal

pub returns-in-Some : goal.returns-in-Some
returns-in-Some c = subst IsInOrder c.in-Some.ensures (ordered_entries _ c.iter-headers.ensures.ordered)

pub returns-in_default : goal.returns-in_default
unfolding IsStrictlySortedBy
returns-in_default c = subst IsInOrder c.in_default.ensures tt
