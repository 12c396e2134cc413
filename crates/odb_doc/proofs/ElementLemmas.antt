-- The elements of lists, and of an array that a vector of values holds.
use Rattle.std.proofs.Common.{◌≡◌, Option, None, Some, IfSome, option_map, List, [], ◌∷◌, map, ℕ, Vec, refl, ap, sym, ◌∙◌, ◌+◌, ◌++◌, ◌<◌, drop, slice_get, length, arith, zero, suc, ◌⊎◌, inl, inr}
use Rattle.std.specs.declared.alloc.Global.{Global}
use Rattle.std.proofs.lemmas.List.{drop_more, length-append}
use Rattle.std.proofs.lemmas.Option.{slice_get_within, get_or_from_slice_get, slice_get-get_or}
use Rattle.std.proofs.Math.Seq.{get_or-append_seam}
use Rattle.std.specs.List.{Contains}
use Rattle.serde_json.specs.Data.{Data}
use Rattle.serde_json.specs.View.{items_of, items_view, view}
use Rattle.serde_json.specs.declared.value.Value.{Value}
use Rattle.odb_doc.specs.Members.{list_of, array_at, elements_at}

pub list_of-items_of : (ds : List Data) → list_of (items_of ds) ≡ ds
list_of-items_of [] = refl
list_of-items_of (d ∷ ds) = ap (λ rest. d ∷ rest) (list_of-items_of ds)

-- the elements at the member are what the array there holds
pub elements-array : (name : List ℕ) (d : Data) (vs : List Value) → array_at name d ≡ Some (items_view vs) → elements_at name d ≡ map view vs
elements-array name d vs is = rw is (list_of-items_of (map view vs))

-- the same of an array that may not be there
pub elements-moved : (name : List ℕ) (d : Data) (found : Option (Vec Value Global)) → option_map (λ v. items_view v.items) found ≡ array_at name d → IfSome found (λ v. elements_at name d ≡ map view v.items)
elements-moved name d None is = tt
elements-moved name d (Some v) is = elements-array name d v.items (sym is)

pub Contains-head : {X : Type 0} (x : X) (xs : List X) → Contains (x ∷ xs) x
Contains-head x xs = (zero, omega arith, refl)

pub Contains-tail : {X : Type 0} (x y : X) (xs : List X) → Contains xs y → Contains (x ∷ xs) y
Contains-tail x y xs h = (suc h.0, omega (arith, h.1), h.2)

-- an element is the first, or one of the others
pub Contains-cases : {X : Type 0} (x y : X) (xs : List X) → Contains (x ∷ xs) y → (x ≡ y) ⊎ Contains xs y
Contains-cases x y xs (zero, less, e) = inl e
Contains-cases x y xs (suc k, less, e) = inr (k, omega arith, e)

-- a list from a position on is the element there and what comes after it
pub drop_at : {X : Type 0} (xs : List X) (i : ℕ) (x : X) → slice_get xs i ≡ Some x → drop i xs ≡ x ∷ drop (i + 1) xs
drop_at xs i x is = drop_more xs i x (slice_get_within xs i x is) ∙ ap (λ y. y ∷ drop (i + 1) xs) (get_or_from_slice_get xs i x x is)

-- the element after a prefix
pub slice_get-seam : {X : Type 0} (xs : List X) (x : X) (rest : List X) → slice_get (xs ++ x ∷ rest) (length xs) ≡ Some x
slice_get-seam xs x rest =
    let within : length xs < length (xs ++ x ∷ rest) = omega (arith, length-append xs (x ∷ rest)) in
    slice_get-get_or (xs ++ x ∷ rest) (length xs) x within ∙ ap Some (get_or-append_seam xs x rest x)
