-- The array at a member of a tree, with another value in the place of one item: what is read of the whole.
use Rattle.std.proofs.Common.{◌≡◌, ◌∙◌, ℕ, ◌≤◌, List, [], ◌++◌, Some, None, option_map, sym, ap, ap₂, subst, arith, append-nil}
use Rattle.std.specs.Prelude.{set}
use Rattle.json.specs.Token.{Token}
use Rattle.json.specs.Json as json
use Rattle.json.specs.Find as tree
use Rattle.json.specs.Tree.{depth, items_depth, items_tokens, json_tokens, members_depth, members_tokens}
use Rattle.serde_json.specs.Data.{Data, array, no_members, object}
use Rattle.serde_json.specs.Find.{get_member}
use Rattle.serde_json.specs.Read.{max_depth, of_items, of_json, of_members}
use Rattle.odb_doc.specs.Members.{elements_at, list_of}
use Rattle.odb_spans.specs.Parts.{HoldsInArray, HoldsOfItem, IsMemberOf, append_items, append_members}
use Rattle.odb_spans.proofs.DataLemmas.{MapsTo, maps-to}
use Rattle.odb_spans.proofs.FillLemmas.{Around, alone, in-array, in-object, in_array, in_object, item-within, items-changed, items-shallow, last-listed, last-member, members-changed, members-shallow, read-last}
use Rattle.odb_spans.proofs.LookupLemmas.{IsReadAs}

-- what is read has r at this position of the array, and else the elements of d
pub record ReadsWith (name : List ℕ) (at : ℕ) (d : Data) (j : json.Json) (r : Data) : Type 0 where
  pub changed : Data
  pub reads : of_json j ≡ Some changed
  pub shallow : depth j ≤ max_depth
  pub elements : elements_at name changed ≡ set (elements_at name d) at r

-- the item at this position of the array at the member of this name, and the tree with another in its place
pub record HasItem (name : List ℕ) (at : ℕ) (j : json.Json) (d : Data) (item : json.Json) (after : List Token) : Type 0 where
  pub fill : json.Json → json.Json
  pub around : Around fill after
  pub is : j ≡ fill item
  pub value : Data
  pub read : of_json item ≡ Some value
  pub shallow : depth item ≤ 125
  pub with : (i : json.Json) (r : Data) → of_json i ≡ Some r → depth i ≤ 125 → ReadsWith name at d (fill i) r

module _ (name : List ℕ) (at : ℕ) (R : json.Json → List Token → Type 0) (j : json.Json) (d : Data) (ms : json.Members) (value : json.Json) (shallow : depth j ≤ max_depth) (reads : of_json j ≡ Some d) (is : j ≡ json.object ms)
    (m : IsMemberOf name ms value None [] (HoldsInArray R at)) where
  abbrev held : HoldsOfItem R at m.holds.items (members_tokens m.later ++ [])
  held = m.holds.holds

  abbrev items : json.Json → json.Items
  items i = append_items held.earlier (json.item i held.later)

  abbrev elements : json.Json → json.Json
  elements i = in_array held.earlier held.later i

  abbrev members : json.Json → json.Members
  members i = append_members m.earlier (json.member m.key (elements i) m.later)

  abbrev filled : json.Json → json.Json
  filled i = in_object m.earlier m.key m.later (elements i)

  in-tree : j ≡ filled held.item
  in-tree = is ∙ ap json.object (m.is ∙ ap (λ x. append_members m.earlier (json.member m.key x m.later)) (m.holds.array ∙ ap json.array held.is))

  around : Around (λ i. filled i) (items_tokens held.later ++ (members_tokens m.later ++ []))
  around =
      let inner = in-object m.earlier m.key m.later (λ i. elements i) (items_tokens held.later) (in-array held.earlier held.later (λ i. i) [] alone) in
      record { before = inner.before; spells = λ i. inner.spells i ∙ ap (λ l. inner.before ++ (json_tokens i ++ (items_tokens held.later ++ l))) (sym (append-nil (members_tokens m.later))) }

  document-read : MapsTo object (of_members (members held.item) no_members) d
  document-read = maps-to object (of_members (members held.item) no_members) d (sym (ap of_json in-tree) ∙ reads)

  last-elements : (i : json.Json) → tree.get_member name (members i) ≡ Some (elements i)
  last-elements i = last-member name m.earlier m.key (elements i) m.later m.named m.rest

  array-read : IsReadAs (elements held.item) (get_member name document-read.value)
  array-read = read-last name (elements held.item) (members held.item) document-read.value (last-elements held.item) document-read.some

  elements-read : MapsTo array (of_items (items held.item)) array-read.value
  elements-read = maps-to array (of_items (items held.item)) array-read.value array-read.read

  elements-before : elements_at name d ≡ list_of elements-read.value
  elements-before =
      ap (elements_at name) document-read.is
      ∙ last-listed name (elements held.item) (members held.item) document-read.value elements-read.value (last-elements held.item) document-read.some (array-read.read ∙ ap Some elements-read.is)

  few : (depth (elements held.item) ≤ 126) × ((i : json.Json) → depth i ≤ 126 → members_depth (append_members m.earlier (json.member m.key i m.later)) ≤ 126)
  few = let whole : depth (filled held.item) ≤ max_depth = subst (λ x. depth x ≤ max_depth) in-tree shallow in members-shallow m.earlier m.key (elements held.item) m.later 126 (omega (arith, whole))

  fewer : (depth held.item ≤ 125) × ((i : json.Json) → depth i ≤ 125 → items_depth (items i) ≤ 125)
  fewer = let deep = few.0 in items-shallow held.earlier held.item held.later 125 (omega (arith, deep))

  with-item : (i : json.Json) (r : Data) → of_json i ≡ Some r → depth i ≤ 125 → ReadsWith name at d (filled i) r
  with-item i r read small =
      let changed = items-changed held.earlier held.item i held.later elements-read.value r read elements-read.some in
      let array-with : of_json (elements i) ≡ Some (array changed.all) = ap (option_map array) changed.reads in
      let more = members-changed m.earlier m.key (elements held.item) (elements i) m.later no_members no_members document-read.value (array changed.all) array-with document-read.some in
      let deep = fewer.1 i small in
      let whole = few.1 (elements i) (omega (arith, deep)) in
      record {
        changed = object more.0;
        reads = ap (option_map object) more.1;
        shallow = omega (arith, whole);
        elements = last-listed name (elements i) (members i) more.0 changed.all (last-elements i) more.1 array-with ∙ changed.list ∙ sym (ap₂ (λ l n. set l n r) elements-before (sym held.count));
      }

  pub has-item : HasItem name at j d held.item (items_tokens held.later ++ (members_tokens m.later ++ []))
  has-item =
      let value-read = item-within held.earlier held.item held.later elements-read.value elements-read.some in
      record { fill = λ i. filled i; around = around; is = in-tree; value = value-read.0; read = value-read.1; shallow = fewer.0; with = with-item }
