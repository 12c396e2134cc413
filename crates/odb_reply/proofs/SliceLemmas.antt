-- The elements of lists by their positions.
use Rattle.std.proofs.Common.{◌≡◌, ◌≢◌, ◌∙◌, ◌⊎◌, ℕ, zero, suc, List, [], ◌∷◌, ◌++◌, length, set, replicate, is_some, get_or, true, false, Option, Some, None, option_map, slice_get, IsSomeAnd, inl, inr, refl, ap, sym, arith, ◌<◌}
use Rattle.std.proofs.lemmas.Option.{slice_get-get_or}
use Rattle.std.proofs.lemmas.Bool.{true≢false}

-- what a function returns at an element comes from an element
pub map_some : {X Y : Type 0} (f : X → Y) (o : Option X) (y : Y) → option_map f o ≡ Some y → (x : X) × (o ≡ Some x) × (f x ≡ y)
map_some f None y is = absurd (cc (is))
map_some f (Some x) y is = (x, refl, cc (is))

-- an option with a property has something
pub some_and : {X : Type 0} (o : Option X) (P : X → Type 0) → IsSomeAnd o P → (x : X) × (o ≡ Some x) × P x
some_and None P none = absurd none
some_and (Some x) P holds = (x, refl, holds)

pub slice_get-set_same : {X : Type 0} (xs : List X) (i : ℕ) (x : X) → i < length xs → slice_get (set xs i x) i ≡ Some x
slice_get-set_same [] i x within = absurd (omega arith)
slice_get-set_same (y ∷ xs) zero x within = refl
slice_get-set_same (y ∷ xs) (suc i) x within = slice_get-set_same xs i x (omega arith)

pub slice_get-set_other : {X : Type 0} (xs : List X) (i j : ℕ) (x : X) → j ≢ i → slice_get (set xs i x) j ≡ slice_get xs j
slice_get-set_other [] i j x apart = refl
slice_get-set_other (y ∷ xs) zero zero x apart = absurd (apart refl)
slice_get-set_other (y ∷ xs) zero (suc j) x apart = refl
slice_get-set_other (y ∷ xs) (suc i) zero x apart = refl
slice_get-set_other (y ∷ xs) (suc i) (suc j) x apart = slice_get-set_other xs i j x (λ same. apart (ap suc same))

pub slice_get-replicate : {X : Type 0} (n i : ℕ) (x y : X) → slice_get (replicate n x) i ≡ Some y → x ≡ y
slice_get-replicate zero i x y is = absurd (cc (is))
slice_get-replicate (suc n) zero x y is = cc (is)
slice_get-replicate (suc n) (suc i) x y is = slice_get-replicate n i x y is

-- an element of a list with one more at its end
pub slice_get-push : {X : Type 0} (xs : List X) (x y : X) (i : ℕ) → slice_get (xs ++ x ∷ []) i ≡ Some y → ((i < length xs) × (slice_get xs i ≡ Some y)) ⊎ ((i ≡ length xs) × (x ≡ y))
slice_get-push [] x y zero is = inr (refl, cc (is))
slice_get-push [] x y (suc i) is = absurd (cc (is))
slice_get-push (z ∷ xs) x y zero is = inl (omega arith, is)
slice_get-push (z ∷ xs) x y (suc i) is = elim (slice_get-push xs x y i is) [
  | inl before ↦ inl (omega (arith, before.0), before.1)
  | inr last ↦ inr (ap suc last.0, last.1)
]

-- whether there is something at a position within
pub taken : {X : Type 0} (xs : List (Option X)) (i : ℕ) → i < length xs → is_some (get_or xs i None) ≡ true → (x : X) × (slice_get xs i ≡ Some (Some x))
taken {X = X} xs i within some = at_found (get_or xs i None) refl
  where
    at_found : (o : Option X) → get_or xs i None ≡ o → (x : X) × (slice_get xs i ≡ Some (Some x))
    at_found None none = absurd (true≢false (sym some ∙ ap is_some none))
    at_found (Some x) is = (x, slice_get-get_or xs i None within ∙ ap Some is)

pub free : {X : Type 0} (xs : List (Option X)) (i : ℕ) → i < length xs → is_some (get_or xs i None) ≡ false → slice_get xs i ≡ Some None
free {X = X} xs i within none = at_found (get_or xs i None) refl
  where
    at_found : (o : Option X) → get_or xs i None ≡ o → slice_get xs i ≡ Some None
    at_found None is = slice_get-get_or xs i None within ∙ ap Some is
    at_found (Some x) some = absurd (true≢false (sym (ap is_some some) ∙ none))
