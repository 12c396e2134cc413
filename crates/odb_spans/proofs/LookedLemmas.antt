-- A member of an element is true in what was read exactly if it is in the tree.
use Rattle.std.proofs.Common.{◌≡◌, ◌∙◌, ℕ, zero, suc, ◌<◌, true, List, [], ◌∷◌, length, map, Option, Some, None, option_and_then, slice_get, refl, sym, ap, arith}
use Rattle.std.specs.Prelude.{set}
use Rattle.std.specs.List.{AllZip}
use Rattle.json.specs.Json as json
use Rattle.json.specs.Find as tree
use Rattle.serde_json.specs.Data.{Data, null, boolean, number, string, array, object, no_members}
use Rattle.serde_json.specs.Find.{get_member}
use Rattle.serde_json.specs.Read.{number_of, of_items, of_json, of_members}
use Rattle.odb_doc.specs.Members.{elements_at, given}
use Rattle.odb_spans.specs.Parts.{items_in}
use Rattle.odb_spans.specs.Spans.{member_of, members_of}
use Rattle.odb_spans.proofs.DataLemmas.{IsReadItem, elements-read, maps-to}
use Rattle.odb_spans.proofs.LookupLemmas.{Corresponds, get-read}
use Rattle.odb_spans.proofs.PathLemmas.{IsTrueValue, looked, not-none}
use Rattle.odb_spans.proofs.ReadLemmas.{IsTreeOf}

abbrev IsTrue : Option Data → Type 0
IsTrue o = o ≡ Some (boolean true)

given-true : (v : Data) → IsTrue (given (Some v)) → v ≡ boolean true
given-true null e = absurd (cc (e))
given-true (boolean b) e = cc (e)
given-true (number n) e = absurd (cc (e))
given-true (string s) e = absurd (cc (e))
given-true (array ds) e = absurd (cc (e))
given-true (object ms) e = absurd (cc (e))

-- ---- one element

found-true : (o : Option json.Json) (p : Option Data) → Corresponds o p None → IsTrue (given p) → IsTrueValue o
found-true None p same e = absurd (cc (sym (ap given same) ∙ e))
found-true (Some j) p same e = record { value = j; is = refl; reads = same.read ∙ ap Some (given-true same.value (sym (ap given same.is) ∙ e)) }

true-found : (o : Option json.Json) (p : Option Data) → Corresponds o p None → IsTrueValue o → IsTrue (given p)
true-found None p same t = not-none t
true-found (Some j) p same t =
    let one : j ≡ t.value = cc (t.is) in
    let value : same.value ≡ boolean true = cc (sym same.read ∙ ap of_json one ∙ t.reads) in
    ap given (same.is ∙ ap Some value)

item-true : (name : List ℕ) (j : json.Json) (d : Data) → of_json j ≡ Some d → IsTrue (member_of name d) → IsTrueValue (tree.get name j)
item-true name json.null d reads e = let same : null ≡ d = cc (reads) in absurd (cc (ap (member_of name) same ∙ e))
item-true name (json.boolean b) d reads e = let same : boolean b ≡ d = cc (reads) in absurd (cc (ap (member_of name) same ∙ e))
item-true name (json.number s) d reads e = let h = maps-to number (number_of s) d reads in absurd (cc (sym (ap (member_of name) h.is) ∙ e))
item-true name (json.string s) d reads e = let same : string s ≡ d = cc (reads) in absurd (cc (ap (member_of name) same ∙ e))
item-true name (json.array js) d reads e = let h = maps-to array (of_items js) d reads in absurd (cc (sym (ap (member_of name) h.is) ∙ e))
item-true name (json.object ms) d reads e =
    let h = maps-to object (of_members ms no_members) d reads in found-true (tree.get_member name ms) (get_member name h.value) (get-read name ms h.value h.some) (sym (ap (member_of name) h.is) ∙ e)

true-item : (name : List ℕ) (j : json.Json) (d : Data) → of_json j ≡ Some d → IsTrueValue (tree.get name j) → IsTrue (member_of name d)
true-item name json.null d reads t = not-none t
true-item name (json.boolean b) d reads t = not-none t
true-item name (json.number s) d reads t = not-none t
true-item name (json.string s) d reads t = not-none t
true-item name (json.array js) d reads t = not-none t
true-item name (json.object ms) d reads t =
    let h = maps-to object (of_members ms no_members) d reads in ap (member_of name) h.is ∙ true-found (tree.get_member name ms) (get_member name h.value) (get-read name ms h.value h.some) t

-- ---- the element at a position

abbrev IsTrueAt : List ℕ → ℕ → List Data → Type 0
IsTrueAt name at ds = slice_get (map (member_of name) ds) at ≡ Some (Some (boolean true))

some-true : (o : Option Data) → Some o ≡ Some (Some (boolean true)) → IsTrue o
some-true o e = cc (e)

items-true : (name : List ℕ) (at : ℕ) (js : List json.Json) (ds : List Data) → AllZip IsReadItem js ds → IsTrueAt name at ds → IsTrueValue (option_and_then (tree.get name) (slice_get js at))
items-true name at [] [] reads e = absurd (cc (e))
items-true name at [] (d ∷ ds) reads e = absurd reads
items-true name at (j ∷ js) [] reads e = absurd reads
items-true name zero (j ∷ js) (d ∷ ds) reads e = item-true name j d reads.0.0 (some-true (member_of name d) e)
items-true name (suc at) (j ∷ js) (d ∷ ds) reads e = items-true name at js ds reads.1 e

true-items : (name : List ℕ) (at : ℕ) (js : List json.Json) (ds : List Data) → AllZip IsReadItem js ds → IsTrueValue (option_and_then (tree.get name) (slice_get js at)) → IsTrueAt name at ds
true-items name at [] [] reads t = not-none t
true-items name at [] (d ∷ ds) reads t = absurd reads
true-items name at (j ∷ js) [] reads t = absurd reads
true-items name zero (j ∷ js) (d ∷ ds) reads t = ap Some (true-item name j d reads.0.0 t)
true-items name (suc at) (j ∷ js) (d ∷ ds) reads t = true-items name at js ds reads.1 t

-- ---- the document

pub set-at : {A : Type 0} (xs : List A) (at : ℕ) (x : A) → at < length xs → slice_get (set xs at x) at ≡ Some x
set-at [] at x within = absurd (omega (arith, within))
set-at (y ∷ xs) zero x within = refl
set-at (y ∷ xs) (suc at) x within = set-at xs at x (omega (arith, within))

module _ (list name text : List ℕ) (d changed : Data) (at : ℕ) (top : IsTreeOf text changed) (within : at < length (members_of list name d)) where
  -- with true in its place
  pub looks-true : members_of list name changed ≡ set (members_of list name d) at (Some (boolean true)) → IsTrueValue (looked list name at top.tree)
  looks-true members =
      items-true name at (items_in (tree.get list top.tree)) (elements_at list changed) (elements-read list top.tree changed top.shallow top.reads)
      (ap (λ ms. slice_get ms at) members ∙ set-at (members_of list name d) at (Some (boolean true)) within)

  -- without it
  pub looks-other : members_of list name changed ≡ set (members_of list name d) at None → IsTrueValue (looked list name at top.tree) → ⊥
  looks-other members t =
      let found = true-items name at (items_in (tree.get list top.tree)) (elements_at list changed) (elements-read list top.tree changed top.shallow top.reads) t in
      let none = ap (λ ms. slice_get ms at) members ∙ set-at (members_of list name d) at None within in
      cc (sym none ∙ found)
