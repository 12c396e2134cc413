-- Two lists that go together, pair by pair, as a loop makes the second.
use Rattle.std.proofs.Common.{◌≡◌, ◌∙◌, ◌+◌, ◌<◌, ℕ, List, [], ◌∷◌, ◌++◌, length, map, take, Some, sym, ap, subst, get_or, slice_get}
use Rattle.std.proofs.lemmas.List.{map-append, take_more}
use Rattle.std.proofs.lemmas.Option.{get_or_from_slice_get, slice_get_within}
use Rattle.std.proofs.lemmas.Slice.Zip.{AllZip-long, all_zipped_more}
use Rattle.std.specs.List.{AllZip}

-- two lists that go with the same one are as long
pub as_many : {X Y Z : Type 0} (R : X → Y → Type 0) (S : X → Z → Type 0) (xs : List X) (ys : List Y) (zs : List Z) → AllZip R xs ys → AllZip S xs zs → length zs ≡ length ys
as_many R S xs ys zs one other = AllZip-long S xs zs other ∙ sym (AllZip-long R xs ys one)

weaker : {X Y : Type 0} (R S : X → Y → Type 0) → ((x : X) (y : Y) → R x y → S x y) → (xs : List X) (ys : List Y) → AllZip R xs ys → AllZip S xs ys
weaker R S less [] [] zip = tt
weaker R S less [] (y ∷ ys) zip = absurd zip
weaker R S less (x ∷ xs) [] zip = absurd zip
weaker R S less (x ∷ xs) (y ∷ ys) zip = (less x y zip.0, weaker R S less xs ys zip.1)

-- one pair more, where S holds of a pair once R does
pub next_pair : {X Y : Type 0} (R S : X → Y → Type 0) → ((x : X) (y : Y) → R x y → S x y) → (xs : List X) (ys : List Y) (i : ℕ) (x : X) (y : Y) → AllZip R (take i xs) ys → slice_get xs i ≡ Some x → S x y → AllZip S (take (i + 1) xs) (ys ++ y ∷ [])
next_pair R S less xs ys i x y zip here is =
    let taken : take (i + 1) xs ≡ take i xs ++ x ∷ [] = take_more xs i x (slice_get_within xs i x here) ∙ ap (λ e. take i xs ++ e ∷ []) (get_or_from_slice_get xs i x x here) in
    subst (λ l. AllZip S l (ys ++ y ∷ [])) (sym taken) (all_zipped_more S (take i xs) ys x y (weaker R S less (take i xs) ys zip) is)

-- one value more of a field
pub next_value : {P V : Type 0} (of : P → V) (found : List P) (p : P) (values : List V) (i : ℕ) (d : V) → i < length values → of p ≡ get_or values i d → map of found ≡ take i values → map of (found ++ p ∷ []) ≡ take (i + 1) values
next_value of found p values i d within is so = map-append of found (p ∷ []) ∙ ap (λ vs. vs ++ of p ∷ []) so ∙ ap (λ v. take i values ++ v ∷ []) is ∙ sym (take_more values i d within)
