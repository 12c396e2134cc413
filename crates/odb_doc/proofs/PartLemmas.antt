-- The members of an object once others were moved out of it.
use Rattle.std.proofs.Common.{◌≡◌, ◌∙◌, ℕ, false, Some, Option, IsSome, List, option_map, cond, bytes_eq, String, string_bytes, BTreeMap, ap, sym}
use Rattle.std.specs.declared.alloc.Global.{Global}
use Rattle.std.specs.BTreeMap as tree
use Rattle.std.specs.Cmp.Lexicographic.{slice_cmp}
use Rattle.std.specs.Ordering.{nat_cmp}
use Rattle.std.specs.String.{string_cmp}
use Rattle.std.proofs.lemmas.Map.Text.{btree_map_updates_text}
use Rattle.serde_json.specs.Data.{Data}
use Rattle.serde_json.specs.Find.{get, as_object}
use Rattle.serde_json.specs.View.{view, members_view}
use Rattle.serde_json.specs.declared.value.Value.{Value}
use Rattle.serde_json.proofs.Views.{view-lookup}
use Rattle.odb_doc.proofs.MemberLemmas.{object-from}

abbrev pub Object : Type 0
Object = BTreeMap (String Global) Value

-- the value at a name, as the map has it
abbrev pub at : List ℕ → Object → Option Value
at name m = tree.get_by_text m name

-- a value was written in the place of that at a name
abbrev pub Writes : List ℕ → Object → Value → Object → Type 0
Writes name m value n = tree.WritesThrough string_cmp (λ k. slice_cmp nat_cmp name (string_bytes k)) m value n

pub at-writes : (name : List ℕ) (m n : Object) (value : Value) → Writes name m value n → IsSome (at name m) → (other : List ℕ) → bytes_eq name other ≡ false → at other n ≡ at other m
at-writes name m n value writes there other apart = btree_map_updates_text name m n (Some value) (writes.3 there) other ∙ ap (λ b. cond b (Some value) (at other m)) apart

-- what the map has at a name is what the object has there
pub get-at : (name : List ℕ) (d : Data) (m : Object) → as_object d ≡ Some (members_view m.entries) → option_map view (at name m) ≡ get name d
get-at name d m is = view-lookup name m.entries ∙ ap (get name) (sym (object-from d (members_view m.entries) is))
