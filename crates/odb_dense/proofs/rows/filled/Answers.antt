use Rattle.std.proofs.Common.{◌≡◌, ◌<◌, ◌+◌, ◌∙◌, ℕ, List, arith, rules, length, get_or, subst, take}
use Rattle.std.proofs.lemmas.List.{get_or_read, length-map, length-set, take_all}
use Rattle.odb_dense.specs.Parts.{part_of}
use Rattle.odb_dense.specs.Starts.{AreParts, AreRowsOf}
use Rattle.odb_dense.proofs.RowLemmas.{next_place, parts_more, parts_within, row_is, rows_more}
use Rattle.odb_dense.proofs.rows.filled.Goals as goal

pub index_mut-requires : goal.index_mut-requires
index_mut-requires c =
    let ps = c.args.pairs.now in
    let n = c.loop-key.key-index in
    let parts = c.loop-key.parts.items in
    let below : (get_or ps n (0, 0)).0 < length parts = rw c.loop-key.invariant.keys (c.requires.keys n c.loop-key-test.true) in
    let read = get_or_read parts (get_or ps n (0, 0)).0 c.index.result.now below c.index.ensures (0, 0) in
    let next = next_place ps parts n c.index.result.now.0 c.index.result.now.1 c.loop-key-test.true below read c.loop-key.invariant.parts in
    omega (arith, next.1, c.loop-key.invariant.room, c.loop-key.flat.ok)

pub overflow_add-place : goal.overflow_add-place
overflow_add-place c =
    let ps = c.args.pairs.now in
    let n = c.loop-key.key-index in
    let parts = c.loop-key.parts.items in
    let below : (get_or ps n (0, 0)).0 < length parts = rw c.loop-key.invariant.keys (c.requires.keys n c.loop-key-test.true) in
    let read = get_or_read parts (get_or ps n (0, 0)).0 c.index.result.now below c.index.ensures (0, 0) in
    let next = next_place ps parts n c.index.result.now.0 c.index.result.now.1 c.loop-key-test.true below read c.loop-key.invariant.parts in
    let most : c.index.result.now.1 < length ps = next.1 in
    search rules

pub loop-key-preserved : goal.loop-key-preserved
loop-key-preserved c =
    let ps = c.args.pairs.now in
    let n = c.loop-key.key-index in
    let parts = c.loop-key.parts.items in
    let from = c.index.result.now.0 in
    let place = c.index.result.now.1 in
    let below : (get_or ps n (0, 0)).0 < length parts = rw c.loop-key.invariant.keys (c.requires.keys n c.loop-key-test.true) in
    let read = get_or_read parts (get_or ps n (0, 0)).0 c.index.result.now below c.index.ensures (0, 0) in
    let next = next_place ps parts n from place c.loop-key-test.true below read c.loop-key.invariant.parts in
    record {
      room = length-set c.loop-key.flat.items place (get_or ps n (0, 0)).1 ∙ c.loop-key.invariant.room;
      keys = length-set parts (get_or ps n (0, 0)).0 (from, place + 1) ∙ c.loop-key.invariant.keys;
      parts = parts_more ps parts n from place c.loop-key-test.true below read c.loop-key.invariant.parts;
      rows = rows_more ps c.loop-key.flat.items n place c.loop-key.invariant.room c.loop-key-test.true next.0 c.loop-key.invariant.rows;
    }

pub invariant_of-result : goal.invariant_of-result
invariant_of-result c =
    let ps = c.args.pairs.now in
    let parts = subst (λ (qs : List (ℕ × ℕ)). AreParts ps qs c.loop-key.parts.items) (take_all c.loop-key.key-index ps c.loop-key-test.false) c.loop-key.invariant.parts in
    parts_within ps c.loop-key.parts.items c.loop-key.flat.items parts c.loop-key.invariant.room

pub returns-clause-len : goal.returns-clause-len
returns-clause-len c = length-map c.loop-key.parts.items (part_of c.loop-key.flat.items) ∙ c.loop-key.invariant.keys

pub returns-clause-rows : goal.returns-clause-rows
returns-clause-rows c k less =
    let ps = c.args.pairs.now in
    let all : take c.loop-key.key-index ps ≡ ps = take_all c.loop-key.key-index ps c.loop-key-test.false in
    let parts = subst (λ (qs : List (ℕ × ℕ)). AreParts ps qs c.loop-key.parts.items) all c.loop-key.invariant.parts in
    let rows = subst (λ (qs : List (ℕ × ℕ)). AreRowsOf ps qs c.loop-key.flat.items) all c.loop-key.invariant.rows in
    row_is ps c.loop-key.parts.items c.loop-key.flat.items k parts c.loop-key.invariant.room rows (omega (arith, less, c.loop-key.invariant.keys))
