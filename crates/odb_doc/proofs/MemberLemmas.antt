-- The names of an object's members, as a map of values holds them.
use Rattle.std.proofs.Common.{◌≡◌, ◌∙◌, ◌||◌, ℕ, Bool, Some, List, [], ◌∷◌, map, String, string_bytes, refl, ap}
use Rattle.std.specs.declared.alloc.Global.{Global}
use Rattle.std.specs.List.{list_any}
use Rattle.serde_json.specs.Data.{Data, null, boolean, number, string, array, object, Members}
use Rattle.serde_json.specs.Find.{as_object}
use Rattle.serde_json.specs.View.{members_view}
use Rattle.serde_json.specs.declared.value.Value.{Value}
use Rattle.odb_doc.specs.Members.{names_of, names_in}

-- a test finds a name in the map if and only if it finds one in the object
list_any-names_of : (test : List ℕ → Bool) (ms : List (String Global × Value))
    → list_any test (names_of (members_view ms)) ≡ list_any (λ name. test (string_bytes name)) (map (λ m. m.0) ms)
list_any-names_of test [] = refl
list_any-names_of test (m ∷ ms) = ap (λ b. test (string_bytes m.0) || b) (list_any-names_of test ms)

pub object-from : (d : Data) (ms : Members) → as_object d ≡ Some ms → d ≡ object ms
object-from null ms is = absurd (cc (is))
object-from (boolean b) ms is = absurd (cc (is))
object-from (number n) ms is = absurd (cc (is))
object-from (string s) ms is = absurd (cc (is))
object-from (array ds) ms is = absurd (cc (is))
object-from (object xs) ms is = let same : xs ≡ ms = cc (is) in ap object same

-- the map that an object was read into has its names
pub list_any-names_in : (test : List ℕ → Bool) (d : Data) (ms : List (String Global × Value)) → as_object d ≡ Some (members_view ms) → list_any test (names_in d) ≡ list_any (λ name. test (string_bytes name)) (map (λ m. m.0) ms)
list_any-names_in test d ms is = ap (λ e. list_any test (names_in e)) (object-from d (members_view ms) is) ∙ list_any-names_of test ms
