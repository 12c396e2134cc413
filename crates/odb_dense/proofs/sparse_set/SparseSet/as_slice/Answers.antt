use Rattle.odb_dense.specs.Places.{places_of}
use Rattle.odb_dense.proofs.PlacedLemmas.{listed_once}
use Rattle.odb_dense.proofs.sparse_set.SparseSet.as_slice.Goals as goal

pub returns-clause-listed : goal.returns-clause-listed
returns-clause-listed c = rw (c.deref.ensures.value, ← c.self.view_is) (listed_once c.self.inside.items.items (places_of c.self.inside.places.items) c.self.inside.count c.self.invariant)
