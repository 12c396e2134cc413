-- A request has one list of headers.
use Rattle.std.proofs.Common.{◌≡◌, ◌∙◌, inl, inr, ℕ, List, [], ◌∷◌, map, refl, ap, sym, subst, arith}
use Rattle.std.specs.declared.cmp.Ordering.TheVariants.{Less, Equal}
use Rattle.std.specs.Cmp.Lexicographic.{slice_cmp}
use Rattle.std.specs.List.{Contains}
use Rattle.std.specs.List.Sorted.{IsPermutation, IsStrictlySortedBy}
use Rattle.std.specs.Map.{keys_of}
use Rattle.std.specs.Ordering.{nat_cmp, ordering_reverse}
use Rattle.std.proofs.lemmas.Cmp.{tied_itself, nat_list_cmp_total}
use Rattle.std.proofs.lemmas.List.{length-map, get_or-map}
use Rattle.std.proofs.lemmas.List.Elements.{All-contains, Contains-append_right}
use Rattle.std.proofs.lemmas.List.Sorted.{IsPermutation-sym, Contains-permutation}
use Rattle.std.proofs.lemmas.Map.Keys.{sorted_tail}
use Rattle.std.proofs.lemmas.Map.Views.{All-after_first}
use Rattle.serde_json.specs.Data.{Data}
use Rattle.odb_doc.specs.Headers.{Header, HasHeaders, folded}
use Rattle.odb_doc.proofs.ElementLemmas.{Contains-head, Contains-cases}

Contains-key : (headers : List Header) (h : Header) → Contains headers h → Contains (keys_of headers) h.0
Contains-key headers h among = (among.0, rw (length-map headers (λ (g : Header). g.0)) among.1, get_or-map (λ (g : Header). g.0) headers among.0 h h.0 among.1 ∙ ap (λ (g : Header). g.0) among.2)

-- the name of a later header is above the first
above_first : (first : Header) (rest : List Header) (h : Header) → IsStrictlySortedBy (slice_cmp nat_cmp) (keys_of (first ∷ rest)) → Contains rest h → slice_cmp nat_cmp first.0 h.0 ≡ Less
above_first first rest h ordered among =
    All-contains (λ (name : List ℕ). slice_cmp nat_cmp first.0 name ≡ Less) (keys_of rest) h.0 (All-after_first (slice_cmp nat_cmp) first.0 (keys_of rest) ordered) (Contains-key rest h among)

less_itself : (name : List ℕ) → slice_cmp nat_cmp name name ≡ Less → ⊥
less_itself name less = let tied : slice_cmp nat_cmp name name ≡ Equal = tied_itself nat_list_cmp_total name in cc (tied, less)

less_back : (name other : List ℕ) → slice_cmp nat_cmp name other ≡ Less → slice_cmp nat_cmp other name ≡ Less → ⊥
less_back name other less back =
    let turned : Less ≡ ordering_reverse Less = sym less ∙ nat_list_cmp_total.antisymm name other ∙ ap ordering_reverse back in cc (turned)

-- two lists in order with the same headers begin alike
same_first : (x y : Header) (xs ys : List Header) → IsStrictlySortedBy (slice_cmp nat_cmp) (keys_of (x ∷ xs)) → IsStrictlySortedBy (slice_cmp nat_cmp) (keys_of (y ∷ ys))
    → Contains (y ∷ ys) x → Contains (x ∷ xs) y → x ≡ y
same_first x y xs ys ordered ordered' x_among y_among =
    elim (Contains-cases y x ys x_among) [
      | inl is ↦ sym is
      | inr later ↦ elim (Contains-cases x y xs y_among) [
        | inl is ↦ is
        | inr later' ↦ absurd (less_back x.0 y.0 (above_first x xs y ordered later') (above_first y ys x ordered' later))
      ]
    ]

-- what comes after the first of one list comes after the first of the other
same_rest : (x y : Header) (xs ys : List Header) (h : Header) → x ≡ y → IsStrictlySortedBy (slice_cmp nat_cmp) (keys_of (x ∷ xs)) → Contains xs h → Contains (y ∷ ys) h → Contains ys h
same_rest x y xs ys h is ordered later among =
    elim (Contains-cases y h ys among) [
      | inl here ↦ absurd (less_itself x.0 (subst (λ (g : Header). slice_cmp nat_cmp x.0 g.0 ≡ Less) (sym (is ∙ here)) (above_first x xs h ordered later)))
      | inr there ↦ there
    ]

same_headers : (xs ys : List Header) → IsStrictlySortedBy (slice_cmp nat_cmp) (keys_of xs) → IsStrictlySortedBy (slice_cmp nat_cmp) (keys_of ys)
    → ((h : Header) → Contains xs h → Contains ys h) → ((h : Header) → Contains ys h → Contains xs h) → xs ≡ ys
same_headers [] [] ordered ordered' there back = refl
same_headers [] (y ∷ ys) ordered ordered' there back = absurd (omega (arith, (back y (Contains-head y ys)).1))
same_headers (x ∷ xs) [] ordered ordered' there back = absurd (omega (arith, (there x (Contains-head x xs)).1))
same_headers (x ∷ xs) (y ∷ ys) ordered ordered' there back =
    let first = same_first x y xs ys ordered ordered' (there x (Contains-head x xs)) (back y (Contains-head y ys)) in
    let rest = same_headers xs ys (sorted_tail (slice_cmp nat_cmp) x.0 (keys_of xs) ordered) (sorted_tail (slice_cmp nat_cmp) y.0 (keys_of ys) ordered')
    (λ h later. same_rest x y xs ys h first ordered later (there h (Contains-append_right (x ∷ []) xs h later)))
    (λ h later. same_rest y x ys xs h (sym first) ordered' later (back h (Contains-append_right (y ∷ []) ys h later))) in
    cc (first, rest)

pub one_headers : (d : Data) (headers other : List Header) → HasHeaders d headers → HasHeaders d other → other ≡ headers
one_headers d headers other one two =
    let listed : two.listed ≡ one.listed = cc (one.are, two.are) in
    let same = subst (λ (hs : List Header). IsPermutation (map folded hs) other) listed two.same in
    same_headers other headers two.ordered one.ordered
    (λ h among. Contains-permutation (map folded one.listed) headers h one.same (Contains-permutation other (map folded one.listed) h (IsPermutation-sym (map folded one.listed) other same) among))
    (λ h among. Contains-permutation (map folded one.listed) other h same (Contains-permutation headers (map folded one.listed) h (IsPermutation-sym (map folded one.listed) headers one.same) among))
