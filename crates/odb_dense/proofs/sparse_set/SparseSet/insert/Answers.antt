use Rattle.std.proofs.Common.{◌<◌, ◌∙◌, ap, arith, length, Some, map, is_some, set, subst, sym, ◌+◌}
use Rattle.std.proofs.lemmas.List.{length-map}
use Rattle.odb_dense.specs.Places.{places_of, place_of, ArePlaced}
use Rattle.odb_dense.proofs.PlacedLemmas.{in_bound, read_free, read_place, has_room, placed_more, written, members_more, members_same}
use Rattle.odb_dense.proofs.sparse_set.SparseSet.insert.Goals as goal

pub index_mut-requires : goal.index_mut-requires
index_mut-requires c =
    let places = places_of c.self.inside.places.items in
    let within : c.args.i < length places = in_bound places c.args.self.now c.args.i c.self.view_is c.requires in
    let free = read_free c.self.inside.places.items c.args.i c.index.result.now within c.index.ensures c.if-index.true in
    let more = has_room c.self.inside.items.items places c.self.inside.count c.args.i c.self.invariant within free in
    omega (arith, more, c.self.inside.items.ok)

pub index_mut-requires-then-index : goal.index_mut-requires-then-index
index_mut-requires-then-index c =
    let within = in_bound (places_of c.self.inside.places.items) c.args.self.now c.args.i c.self.view_is c.requires in
    omega (arith, within, length-map c.self.inside.places.items place_of, c.self.inside.places.ok)

pub invariant_of-self : goal.invariant_of-self
invariant_of-self c =
    let numbers = c.self.inside.places.items in
    let items = c.self.inside.items.items in
    let places = places_of numbers in
    let count = c.self.inside.count in
    let within : c.args.i < length places = in_bound places c.args.self.now c.args.i c.self.view_is c.requires in
    let free = read_free numbers c.args.i c.index.result.now within c.index.ensures c.if-index.true in
    let room = has_room items places count c.args.i c.self.invariant within free in
    let less : count < 4294967295 = omega (arith, room, c.self.invariant.few, c.self.invariant.room) in
    subst (λ ps. ArePlaced (set items count c.args.i) ps (count + 1)) (sym (written numbers c.args.i count less)) (placed_more items places count c.args.i c.self.invariant within free)

pub returns-then-index : goal.returns-then-index
returns-then-index c =
    let numbers = c.self.inside.places.items in
    let items = c.self.inside.items.items in
    let places = places_of numbers in
    let count = c.self.inside.count in
    let within : c.args.i < length places = in_bound places c.args.self.now c.args.i c.self.view_is c.requires in
    let free = read_free numbers c.args.i c.index.result.now within c.index.ensures c.if-index.true in
    let room = has_room items places count c.args.i c.self.invariant within free in
    let less : count < 4294967295 = omega (arith, room, c.self.invariant.few, c.self.invariant.room) in
    ap (map is_some) (written numbers c.args.i count less) ∙ members_more places c.args.self.now c.args.i count c.self.view_is

pub returns-else-index : goal.returns-else-index
returns-else-index c =
    let numbers = c.self.inside.places.items in
    let within = in_bound (places_of numbers) c.args.self.now c.args.i c.self.view_is c.requires in
    let place = read_place numbers c.args.i c.index.result.now within c.index.ensures c.if-index.false in
    members_same (places_of numbers) c.args.self.now c.args.i (Some c.index.result.now) c.self.view_is place
