use Rattle.std.proofs.Common.{◌∙◌, ◌-◌, ap, arith, map, is_some, set, subst, sym, None}
use Rattle.std.proofs.lemmas.List.{length-map}
use Rattle.odb_dense.specs.Places.{place_of, places_of, ArePlaced}
use Rattle.odb_dense.proofs.PlacedLemmas.{in_bound, read_free, read_place, last_below, last_at, last_within, placed_less, removed, members_less, members_same}
use Rattle.odb_dense.proofs.sparse_set.SparseSet.remove.Goals as goal

pub overflow_sub-self : goal.overflow_sub-self
overflow_sub-self c =
    let places = places_of c.self.inside.places.items in
    let within = in_bound places c.args.self.now c.args.i c.self.view_is c.requires in
    let at = read_place c.self.inside.places.items c.args.i c.index-place.result.now within c.index-place.ensures c.if-place.true in
    let below = last_below c.self.inside.items.items places c.self.inside.count c.args.i c.index-place.result.now c.self.invariant at in
    omega (arith, below.0)

pub index_mut-requires : goal.index_mut-requires
index_mut-requires c =
    let places = places_of c.self.inside.places.items in
    let within = in_bound places c.args.self.now c.args.i c.self.view_is c.requires in
    let at = read_place c.self.inside.places.items c.args.i c.index-place.result.now within c.index-place.ensures c.if-place.true in
    let below = last_below c.self.inside.items.items places c.self.inside.count c.args.i c.index-place.result.now c.self.invariant at in
    omega (arith, below.0, below.1, c.self.inside.items.ok)

pub index_mut-requires-then-place : goal.index_mut-requires-then-place
index_mut-requires-then-place c =
    let items = c.self.inside.items.items in
    let places = places_of c.self.inside.places.items in
    let within = in_bound places c.args.self.now c.args.i c.self.view_is c.requires in
    let at = read_place c.self.inside.places.items c.args.i c.index-place.result.now within c.index-place.ensures c.if-place.true in
    let below = last_below items places c.self.inside.count c.args.i c.index-place.result.now c.self.invariant at in
    let last = last_within items places c.self.inside.count c.index-last.result.now c.self.invariant (omega (arith, below.0)) below.1 c.index-last.ensures in
    omega (arith, last, length-map c.self.inside.places.items place_of, c.self.inside.places.ok)

pub invariant_of-self : goal.invariant_of-self
invariant_of-self c =
    let items = c.self.inside.items.items in
    let numbers = c.self.inside.places.items in
    let places = places_of numbers in
    let count = c.self.inside.count in
    let place = c.index-place.result.now in
    let last = c.index-last.result.now in
    let within = in_bound places c.args.self.now c.args.i c.self.view_is c.requires in
    let at = read_place numbers c.args.i place within c.index-place.ensures c.if-place.true in
    let below = last_below items places count c.args.i place c.self.invariant at in
    subst (λ ps. ArePlaced (set items place last) ps (count - 1)) (sym (removed numbers last c.args.i place (omega (arith, below.0, below.1, c.self.invariant.few, c.self.invariant.room))))
    (placed_less items places count c.args.i place last c.self.invariant within at c.index-last.ensures)

pub returns-then-place : goal.returns-then-place
returns-then-place c =
    let items = c.self.inside.items.items in
    let numbers = c.self.inside.places.items in
    let places = places_of numbers in
    let count = c.self.inside.count in
    let place = c.index-place.result.now in
    let last = c.index-last.result.now in
    let within = in_bound places c.args.self.now c.args.i c.self.view_is c.requires in
    let at = read_place numbers c.args.i place within c.index-place.ensures c.if-place.true in
    let below = last_below items places count c.args.i place c.self.invariant at in
    ap (map is_some) (removed numbers last c.args.i place (omega (arith, below.0, below.1, c.self.invariant.few, c.self.invariant.room)))
    ∙ members_less places c.args.self.now c.args.i place last _ c.self.view_is
    (last_at items places count last c.self.invariant (omega (arith, below.0)) below.1 c.index-last.ensures)

pub returns-else-place : goal.returns-else-place
returns-else-place c =
    let numbers = c.self.inside.places.items in
    let within = in_bound (places_of numbers) c.args.self.now c.args.i c.self.view_is c.requires in
    let free = read_free numbers c.args.i c.index-place.result.now within c.index-place.ensures c.if-place.false in
    members_same (places_of numbers) c.args.self.now c.args.i None c.self.view_is free
