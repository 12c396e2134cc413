-- The rows of keys in a flat list.
use Rattle.std.proofs.Common.{◌≡◌, ◌≢◌, ℕ, ◌<◌, ◌≤◌, ◌+◌, ◌-◌, ◌==◌, ◌∙◌, sym, ap, refl, subst, arith, min, inl, inr, List, [], ◌∷◌, ◌++◌, length, get_or, take, drop, set}
use Rattle.std.proofs.lemmas.Bool.{cases_eq, cases_lt, eq-eqb, ne_eqb}
use Rattle.std.proofs.lemmas.List.{get_or-set_same, get_or-set_other, get_or_at, get_or_default, get_or-map, get_or-take, get_or-drop, get_or_append_left, get_or_push, length-set, length-take, length-drop, length_push, take_more, ext_get_or}
use Rattle.std.proofs.lemmas.List.Sums.{count_by_more_yes, count_by_more_no}
use Rattle.odb_dense.specs.ByKey.{of_key}
use Rattle.odb_dense.specs.Parts.{part_of, rows_of, IsPart, HasParts}
use Rattle.odb_dense.specs.Starts.{at_key, below_key, AreParts, AreRowsOf}
use Rattle.odb_dense.proofs.KeyLemmas.{length-of_key, of_key_yes, of_key_no, below_key_next, below_key_le, below_key_most, at_key_most, at_key-take}

-- one pair more, with this key or another
pub at_key_yes : (k n : ℕ) (ps : List (ℕ × ℕ)) → n < length ps → (get_or ps n (0, 0)).0 ≡ k → at_key k (take (n + 1) ps) ≡ at_key k (take n ps) + 1
at_key_yes k n ps within e = count_by_more_yes (λ (p : ℕ × ℕ). p.0 == k) ps n (0, 0) within (eq-eqb _ k e)

pub at_key_no : (k n : ℕ) (ps : List (ℕ × ℕ)) → n < length ps → (get_or ps n (0, 0)).0 ≢ k → at_key k (take (n + 1) ps) ≡ at_key k (take n ps)
at_key_no k n ps within e = count_by_more_no (λ (p : ℕ × ℕ). p.0 == k) ps n (0, 0) within (ne_eqb _ k e)

-- among the first n pairs there are at most n with a key
pub at_key_first : (k n : ℕ) (ps : List (ℕ × ℕ)) → at_key k (take n ps) ≤ n
at_key_first k n ps =
    let most : at_key k (take n ps) ≤ length (take n ps) = at_key_most k (take n ps) in
    let long : length (take n ps) ≡ min n (length ps) = length-take n ps in
    omega arith

-- the count of a key, one pair on
pub counted_more : (counts : List ℕ) (ps : List (ℕ × ℕ)) (n count : ℕ) → n < length ps → (get_or ps n (0, 0)).0 < length counts → ((k : ℕ) → k < length counts → get_or counts k 0 ≡ at_key k (take n ps)) → count ≡ get_or counts (get_or ps n (0, 0)).0 0
    → (k : ℕ) → k < length counts → get_or (set counts (get_or ps n (0, 0)).0 (count + 1)) k 0 ≡ at_key k (take (n + 1) ps)
counted_more counts ps n count within below counted read k less = elim (cases_eq (get_or ps n (0, 0)).0 k) [
  | inl same ↦
      let written : get_or (set counts (get_or ps n (0, 0)).0 (count + 1)) (get_or ps n (0, 0)).0 0 ≡ count + 1 = get_or-set_same counts (get_or ps n (0, 0)).0 (count + 1) 0 below in
      let was : count ≡ at_key k (take n ps) = read ∙ (ap (λ m. get_or counts m 0) same ∙ counted k less) in
      ap (λ m. get_or (set counts (get_or ps n (0, 0)).0 (count + 1)) m 0) (sym same) ∙ (written ∙ (ap (λ m. m + 1) was ∙ sym (at_key_yes k n ps within same)))
  | inr other ↦ get_or-set_other counts (get_or ps n (0, 0)).0 k (count + 1) 0 (λ e. other (sym e)) ∙ (counted k less ∙ sym (at_key_no k n ps within other))
]

-- one empty row more
pub empty_more : (ps parts written : List (ℕ × ℕ)) (n from : ℕ) → length parts ≡ n → written ≡ parts ++ (from, from) ∷ [] → from ≡ below_key n ps → AreParts ps [] parts → AreParts ps [] written
empty_more ps parts written n from count write here are = subst (AreParts ps []) (sym write) (λ k less. elim (cases_lt k (length parts)) [
  | inl before ↦ get_or_append_left parts ((from, from) ∷ []) (0, 0) k before ∙ are k before
  | inr after ↦
      let last : n ≡ k = omega (arith, less, length_push parts (from, from)) in
      let is : from ≡ below_key k ps = here ∙ ap (λ m. below_key m ps) last in
      get_or_at parts (from, from) [] (0, 0) k (count ∙ last) ∙ (ap (λ m. (m, m)) is ∙ ap (λ m. (below_key k ps, m)) (omega arith))
])

-- the next of a key goes to a place with room, within the key's row
place_within : (ps : List (ℕ × ℕ)) (n : ℕ) → n < length ps → below_key (get_or ps n (0, 0)).0 ps + at_key (get_or ps n (0, 0)).0 (take n ps) < below_key ((get_or ps n (0, 0)).0 + 1) ps
place_within ps n within =
    let key = (get_or ps n (0, 0)).0 in
    let more : at_key key (take (n + 1) ps) ≡ at_key key (take n ps) + 1 = at_key_yes key n ps within refl in
    let most : at_key key (take (n + 1) ps) ≤ at_key key ps = at_key-take key (n + 1) ps in
    let next : below_key (key + 1) ps ≡ below_key key ps + at_key key ps = below_key_next key ps in
    omega arith

-- the place for the number of the next pair: after those before it with its key, in the list
pub next_place : (ps parts : List (ℕ × ℕ)) (n from place : ℕ) → n < length ps → (get_or ps n (0, 0)).0 < length parts → (from, place) ≡ get_or parts (get_or ps n (0, 0)).0 (0, 0) → AreParts ps (take n ps) parts
    → (place ≡ below_key (get_or ps n (0, 0)).0 ps + at_key (get_or ps n (0, 0)).0 (take n ps)) × (place < length ps)
next_place ps parts n from place within below read are =
    let key = (get_or ps n (0, 0)).0 in
    let is : place ≡ below_key key ps + at_key key (take n ps) = ap (λ (p : ℕ × ℕ). p.1) (read ∙ are key below) in
    let room = place_within ps n within in
    let most : below_key (key + 1) ps ≤ length ps = below_key_most (key + 1) ps in
    (is, omega arith)

-- two keys have their rows apart
rows_apart : (ps : List (ℕ × ℕ)) (k key j place : ℕ) → k ≢ key → j < at_key k ps → below_key key ps ≤ place → place < below_key (key + 1) ps → below_key k ps + j ≢ place
rows_apart ps k key j place other less from below same =
    let next : below_key (k + 1) ps ≡ below_key k ps + at_key k ps = below_key_next k ps in
    elim (cases_lt k key) [
      | inl lower ↦ let le : below_key (k + 1) ps ≤ below_key key ps = below_key_le (k + 1) key ps (omega arith) in omega arith
      | inr upper ↦ let le : below_key (key + 1) ps ≤ below_key k ps = below_key_le (key + 1) k ps (omega arith) in omega arith
    ]

-- the rows, one pair on
pub rows_more : (ps : List (ℕ × ℕ)) (flat : List ℕ) (n place : ℕ) → length flat ≡ length ps → n < length ps → place ≡ below_key (get_or ps n (0, 0)).0 ps + at_key (get_or ps n (0, 0)).0 (take n ps) → AreRowsOf ps (take n ps) flat → AreRowsOf ps (take (n + 1) ps) (set flat place (get_or ps n (0, 0)).1)
rows_more ps flat n place room within placed rows k j less = elim (cases_eq (get_or ps n (0, 0)).0 k) [
  | inl same ↦ own same
  | inr other ↦ (
      let grown : of_key k (take (n + 1) ps) ≡ of_key k (take n ps) = ap (of_key k) (take_more ps n (0, 0) within) ∙ of_key_no k (take n ps) (get_or ps n (0, 0)) other in
      let j_in : j < length (of_key k (take n ps)) = subst (λ (xs : List ℕ). j < length xs) grown less in
      let count : length (of_key k (take n ps)) ≡ at_key k (take n ps) = length-of_key k (take n ps) in
      let most : at_key k (take n ps) ≤ at_key k ps = at_key-take k n ps in
      let below = place_within ps n within in
      get_or-set_other flat place (below_key k ps + j) (get_or ps n (0, 0)).1 0 (rows_apart ps k (get_or ps n (0, 0)).0 j place (λ e. other (sym e)) (omega arith) (omega arith) (omega arith))
      ∙ (rows k j j_in ∙ ap (λ (xs : List ℕ). get_or xs j 0) (sym grown)))
]
  where
    own : (get_or ps n (0, 0)).0 ≡ k → get_or (set flat place (get_or ps n (0, 0)).1) (below_key k ps + j) 0 ≡ get_or (of_key k (take (n + 1) ps)) j 0
    own same =
        let grown : of_key k (take (n + 1) ps) ≡ of_key k (take n ps) ++ (get_or ps n (0, 0)).1 ∷ [] = ap (of_key k) (take_more ps n (0, 0) within) ∙ of_key_yes k (take n ps) (get_or ps n (0, 0)) same in
        let longer : length (of_key k (take n ps) ++ (get_or ps n (0, 0)).1 ∷ []) ≡ length (of_key k (take n ps)) + 1 = length_push (of_key k (take n ps)) (get_or ps n (0, 0)).1 in
        let j_in : j < length (of_key k (take n ps) ++ (get_or ps n (0, 0)).1 ∷ []) = subst (λ (xs : List ℕ). j < length xs) grown less in
        let count : length (of_key k (take n ps)) ≡ at_key k (take n ps) = length-of_key k (take n ps) in
        let at : place ≡ below_key k ps + at_key k (take n ps) = placed ∙ ap (λ m. below_key m ps + at_key m (take n ps)) same in
        let below = place_within ps n within in
        let most = below_key_most ((get_or ps n (0, 0)).0 + 1) ps in
        elim (cases_eq j (length (of_key k (take n ps)))) [
          | inl last ↦ (
              let here : below_key k ps + j ≡ place = omega arith in
              ap (λ m. get_or (set flat place (get_or ps n (0, 0)).1) m 0) here ∙ (get_or-set_same flat place (get_or ps n (0, 0)).1 0 (omega arith)
              ∙ sym (ap (λ (xs : List ℕ). get_or xs j 0) grown ∙ get_or_push (of_key k (take n ps)) (get_or ps n (0, 0)).1 0 j (sym last))))
          | inr former ↦ (
              let j_less : j < length (of_key k (take n ps)) = omega arith in
              get_or-set_other flat place (below_key k ps + j) (get_or ps n (0, 0)).1 0 (omega arith)
              ∙ (rows k j j_less
              ∙ sym (ap (λ (xs : List ℕ). get_or xs j 0) grown ∙ get_or_append_left (of_key k (take n ps)) ((get_or ps n (0, 0)).1 ∷ []) 0 j j_less)))
        ]

-- where the rows begin and end, one pair on
pub parts_more : (ps parts : List (ℕ × ℕ)) (n from place : ℕ) → n < length ps → (get_or ps n (0, 0)).0 < length parts → (from, place) ≡ get_or parts (get_or ps n (0, 0)).0 (0, 0) → AreParts ps (take n ps) parts → AreParts ps (take (n + 1) ps) (set parts (get_or ps n (0, 0)).0 (from, place + 1))
parts_more ps parts n from place within below read are k less = elim (cases_eq (get_or ps n (0, 0)).0 k) [
  | inl same ↦
      let was : (from, place) ≡ (below_key k ps, below_key k ps + at_key k (take n ps)) = read ∙ (ap (λ m. get_or parts m (0, 0)) same ∙ are k inside) in
      let more : at_key k (take (n + 1) ps) ≡ at_key k (take n ps) + 1 = at_key_yes k n ps within same in
      let ends : place ≡ below_key k ps + at_key k (take n ps) = ap (λ (p : ℕ × ℕ). p.1) was in
      let more_ends : place + 1 ≡ below_key k ps + at_key k (take (n + 1) ps) = omega arith in
      ap (λ m. get_or (set parts (get_or ps n (0, 0)).0 (from, place + 1)) m (0, 0)) (sym same) ∙ (get_or-set_same parts (get_or ps n (0, 0)).0 (from, place + 1) (0, 0) below
      ∙ (ap (λ (p : ℕ × ℕ). (p.0, place + 1)) was ∙ ap (λ (m : ℕ). (below_key k ps, m)) more_ends))
  | inr other ↦ get_or-set_other parts (get_or ps n (0, 0)).0 k (from, place + 1) (0, 0) (λ e. other (sym e)) ∙ (are k inside ∙ ap (λ m. (below_key k ps, below_key k ps + m)) (sym (at_key_no k n ps within other)))
]
  where
    inside : k < length parts
    inside = omega (arith, less, length-set parts (get_or ps n (0, 0)).0 (from, place + 1))

-- the rows lie in the flat list
pub parts_within : (ps parts : List (ℕ × ℕ)) (flat : List ℕ) → AreParts ps ps parts → length flat ≡ length ps → HasParts flat parts
parts_within ps parts flat are long k d less =
    let next : below_key (k + 1) ps ≡ below_key k ps + at_key k ps = below_key_next k ps in
    let most : below_key (k + 1) ps ≤ length ps = below_key_most (k + 1) ps in
    subst (IsPart (length flat)) (sym (get_or_default parts k d (0, 0) less ∙ are k less)) (omega arith, omega arith)

-- each key has its numbers in its row
pub row_is : (ps parts : List (ℕ × ℕ)) (flat : List ℕ) (k : ℕ) → AreParts ps ps parts → length flat ≡ length ps → AreRowsOf ps ps flat → k < length parts → get_or (rows_of flat parts) k [] ≡ of_key k ps
row_is ps parts flat k are long rows within =
    let from = below_key k ps in
    let count = at_key k ps in
    let next : below_key (k + 1) ps ≡ from + count = below_key_next k ps in
    let most : below_key (k + 1) ps ≤ length ps = below_key_most (k + 1) ps in
    let many : length (of_key k ps) ≡ count = length-of_key k ps in
    let cut : length (take (from + count - from) (drop from flat)) ≡ min (from + count - from) (length (drop from flat)) = length-take (from + count - from) (drop from flat) in
    let rest : length (drop from flat) ≡ length flat - from = length-drop from flat in
    get_or-map (part_of flat) parts k (0, 0) [] within ∙ (ap (part_of flat) (are k within)
    ∙ ext_get_or 0 (part_of flat (from, from + count)) (of_key k ps) (omega arith) (λ j less.
    get_or-take (from + count - from) (drop from flat) j 0 (omega arith)
    ∙ (get_or-drop from flat j 0 ∙ rows k j (omega arith))))
