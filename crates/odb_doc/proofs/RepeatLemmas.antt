-- Texts that rise once they are sorted are distinct, and distinct names stay as they are.
use Rattle.std.proofs.Common.{◌≡◌, ◌∙◌, ◌+◌, ◌<◌, ◌≤◌, ℕ, Bool, true, false, List, [], ◌∷◌, ◌++◌, length, get_or, take, fold, bytes_eq, refl, ap, ap₂, inl, inr, subst, sym, append_assoc, append-nil, arith, Bor, IsPermutation}
use Rattle.std.specs.declared.cmp.Ordering.{Ordering}
use Rattle.std.specs.declared.cmp.Ordering.TheVariants.{Less, Equal, Greater}
use Rattle.std.specs.BTreeSet.{insert_key}
use Rattle.std.specs.Cmp.{IsTotalOrder}
use Rattle.std.specs.Cmp.Lexicographic.{slice_cmp}
use Rattle.std.specs.List.{AllByRecursion, IsAllAdjacentAnswer, IsDistinct, list_any}
use Rattle.std.specs.List.Sorted.{IsStrictlySortedBy}
use Rattle.std.specs.Ordering.{is_eq, is_lt, nat_cmp, eq_by_cmp}
use Rattle.std.proofs.lemmas.Bool.{cases_order}
use Rattle.std.proofs.Math.Seq.{get_or-append_seam, take-append_seam}
use Rattle.std.proofs.lemmas.Cmp.{nat_list_cmp_total, nat_list_eq_equiv}
use Rattle.std.proofs.lemmas.List.{get_or-map, length-append, map-append, take-map, take_more}
use Rattle.std.proofs.lemmas.List.Sorted.{IsPermutation-sym}
use Rattle.std.proofs.lemmas.Map.Keys.{sorted_from_all_adjacent, IsDistinct-from_sorted, IsDistinct-IsPermutation, IsDistinct-push}
use Rattle.std.proofs.lemmas.Map.Text.{is_eq-slice_cmp}
use Rattle.odb_doc.specs.Names.{distinct, texts_in, with_name}
use Rattle.odb_doc.proofs.NameLemmas.{fold-with_name-nil, list_any-texts_in, list_any-comm}
use Rattle.odb_doc.specs.SameTexts.{AreSameTexts, IsFirstRepeat, RepeatNoneBefore}
use Rattle.odb_doc.proofs.SetLemmas.{none_when_new, same_texts_more}
use Rattle.odb_doc.proofs.DistinctLemmas.{distinct_new}

-- what a place past the end has
abbrev pub no_text : Bor (List ℕ)
no_text = record { ref_ptr = (0, 0); now = [] }

-- the order of texts, at references
by_text : Bor (List ℕ) → Bor (List ℕ) → Ordering
by_text x y = slice_cmp nat_cmp x.now y.now

by_text_total : IsTotalOrder by_text
unfolding by_text
by_text_total = record {
  antisymm = λ x y. nat_list_cmp_total.antisymm x.now y.now;
  trans = λ x y z. nat_list_cmp_total.trans x.now y.now z.now;
  congr = λ x y z. nat_list_cmp_total.congr x.now y.now z.now;
}

pub less_from : (o : Ordering) → true ≡ is_lt o → o ≡ Less
less_from Less is = refl
less_from Equal is = cc
less_from Greater is = cc

rising : (r : Bool) (xs : List (Bor (List ℕ))) → r ≡ true → IsAllAdjacentAnswer (λ x y b. b ≡ is_lt (slice_cmp nat_cmp x.now y.now)) xs r → IsStrictlySortedBy by_text xs
unfolding by_text
rising true xs all answer = sorted_from_all_adjacent by_text_total xs no_text (λ k h. less_from _ (answer k no_text h))
rising false xs all answer = absurd (cc (all))

all_apart : (x : Bor (List ℕ)) (xs : List (Bor (List ℕ))) → AllByRecursion (λ y. is_eq (slice_cmp nat_cmp x.now y.now) ≡ false) xs → AllByRecursion (λ y. bytes_eq x.now y ≡ false) (texts_in xs)
all_apart x [] all = tt
all_apart x (y ∷ ys) all = (sym (is_eq-slice_cmp x.now y.now) ∙ all.0, all_apart x ys all.1)

distinct_references : (xs : List (Bor (List ℕ))) → IsDistinct (eq_by_cmp by_text) xs → IsDistinct bytes_eq (texts_in xs)
unfolding IsDistinct by_text
distinct_references [] apart = tt
distinct_references (x ∷ xs) apart = (all_apart x xs apart.0, distinct_references xs apart.1)

-- texts that rise are distinct
pub distinct_from_rising : (r : Bool) (xs : List (Bor (List ℕ))) → r ≡ true → IsAllAdjacentAnswer (λ x y b. b ≡ is_lt (slice_cmp nat_cmp x.now y.now)) xs r → IsDistinct bytes_eq (texts_in xs)
distinct_from_rising r xs all answer = distinct_references xs (IsDistinct-from_sorted by_text xs (rising r xs all answer))

all_others : (x : Bor (List ℕ)) (xs : List (Bor (List ℕ))) → AllByRecursion (λ y. bytes_eq x.now y ≡ false) (texts_in xs) → AllByRecursion (λ y. is_eq (slice_cmp nat_cmp x.now y.now) ≡ false) xs
all_others x [] all = tt
all_others x (y ∷ ys) all = (is_eq-slice_cmp x.now y.now ∙ all.0, all_others x ys all.1)

references_distinct : (xs : List (Bor (List ℕ))) → IsDistinct bytes_eq (texts_in xs) → IsDistinct (eq_by_cmp by_text) xs
unfolding IsDistinct by_text
references_distinct [] apart = tt
references_distinct (x ∷ xs) apart = (all_others x xs apart.0, references_distinct xs apart.1)

flips : (x y : Bor (List ℕ)) → eq_by_cmp by_text x y ≡ eq_by_cmp by_text y x
unfolding by_text
flips x y = is_eq-slice_cmp x.now y.now ∙ nat_list_eq_equiv.symm x.now y.now ∙ sym (is_eq-slice_cmp y.now x.now)

-- texts are distinct if they are so in another order
pub distinct_as_sorted : (xs sorted : List (Bor (List ℕ))) → IsPermutation xs sorted → IsDistinct bytes_eq (texts_in sorted) → IsDistinct bytes_eq (texts_in xs)
distinct_as_sorted xs sorted same apart =
    distinct_references xs (IsDistinct-IsPermutation (eq_by_cmp by_text) flips sorted xs (IsPermutation-sym xs sorted same) (references_distinct sorted apart))

-- ---- texts that are compared one by one

texts_more : (xs : List (Bor (List ℕ))) (k : ℕ) (x : Bor (List ℕ)) → k < length xs → get_or xs k no_text ≡ x → texts_in (take (k + 1) xs) ≡ texts_in (take k xs) ++ x.now ∷ []
texts_more xs k x within is =
    ap texts_in (take_more xs k no_text within ∙ ap (λ (y : Bor (List ℕ)). take k xs ++ y ∷ []) is) ∙ map-append (λ (t : Bor (List ℕ)). t.now) (take k xs) (x ∷ [])

-- one text more, which none before is
pub distinct_more : (xs : List (Bor (List ℕ))) (k : ℕ) (x : Bor (List ℕ)) → k < length xs → get_or xs k no_text ≡ x → IsDistinct bytes_eq (texts_in (take k xs))
    → list_any (λ key. bytes_eq key.now x.now) (take k xs) ≡ false → IsDistinct bytes_eq (texts_in (take (k + 1) xs))
distinct_more xs k x within is before none =
    rw (texts_more xs k x within is) (IsDistinct-push nat_list_eq_equiv (texts_in (take k xs)) x.now before (list_any-texts_in x.now (take k xs) ∙ sym (list_any-comm x.now (take k xs)) ∙ none))

-- ---- the first text that repeats

-- a set of the texts so far has one more
pub seen_more : (xs keys : List (Bor (List ℕ))) (k : ℕ) (x : Bor (List ℕ)) → k < length xs → get_or xs k no_text ≡ x → AreSameTexts (texts_in keys) (texts_in (take k xs))
    → AreSameTexts (texts_in (insert_key (λ y z. slice_cmp nat_cmp y.now z.now) keys x)) (texts_in (take (k + 1) xs))
seen_more xs keys k x within is same = rw (texts_more xs k x within is) (same_texts_more (λ (t : Bor (List ℕ)). t.now) keys x (texts_in (take k xs)) same)

-- what is found of the text at a position, of a name there
pub at_split : (xs : List (Bor (List ℕ))) (k : ℕ) (x : Bor (List ℕ)) (b : Bool) → k < length xs → get_or xs k no_text ≡ x → list_any (bytes_eq x.now) (texts_in (take k xs)) ≡ b
    → (before rest : List (List ℕ)) (name : List ℕ) → texts_in xs ≡ before ++ name ∷ rest → length before ≡ k → list_any (bytes_eq name) before ≡ b
at_split xs k x b within there found before rest name is long =
    let front : texts_in (take k xs) ≡ before =
    sym (take-map (λ (t : Bor (List ℕ)). t.now) k xs) ∙ ap (take k) is ∙ ap (λ n. take n (before ++ name ∷ rest)) (sym long) ∙ take-append_seam before (name ∷ rest) in
    let text : x.now ≡ name =
    ap (λ (t : Bor (List ℕ)). t.now) (sym there) ∙ sym (get_or-map (λ (t : Bor (List ℕ)). t.now) xs k no_text [] within) ∙ ap (λ ns. get_or ns k []) is
    ∙ ap (λ n. get_or (before ++ name ∷ rest) n []) (sym long) ∙ get_or-append_seam before name rest [] in
    ap₂ (λ n bs. list_any (bytes_eq n) bs) (sym text) (sym front) ∙ found

-- one more name that is none before it
pub apart_more : (names : List (List ℕ)) (k : ℕ) → RepeatNoneBefore names k
    → ((before rest : List (List ℕ)) (name : List ℕ) → names ≡ before ++ name ∷ rest → length before ≡ k → list_any (bytes_eq name) before ≡ false) → RepeatNoneBefore names (k + 1)
apart_more names k apart here = λ before rest name is less.
    elim (cases_order (length before) k) [
      | inl same ↦ here before rest name is same
      | inr other ↦ elim other [
        | inl within ↦ apart before rest name is within
        | inr past ↦ absurd (omega (arith, past, less))
      ]
    ]

-- no name is past the end
pub none_repeats : (names : List (List ℕ)) (k : ℕ) → k ≡ length names → RepeatNoneBefore names k → IsFirstRepeat names k
none_repeats names k end apart = record {
  apart = apart;
  again = λ before rest name is long. absurd (omega (arith, ap length is, length-append before (name ∷ rest), end, long));
}

pub apart_distinct : (names : List (List ℕ)) (k : ℕ) → IsDistinct bytes_eq names → RepeatNoneBefore names k
apart_distinct names k apart = λ before rest name is less. none_when_new true _ (distinct_new before name rest (subst (IsDistinct bytes_eq) is apart)) refl

-- ---- distinct names stay as they are

fold-distinct : (names added : List (List ℕ)) → IsDistinct bytes_eq (names ++ added) → fold with_name names added ≡ names ++ added
fold-distinct names [] apart = sym (append-nil names)
fold-distinct names (name ∷ added) apart =
    let none = none_when_new true _ (distinct_new names name added apart) refl in
    let regrouped = append_assoc names (name ∷ []) added in
    rw none (fold-distinct (names ++ name ∷ []) added (subst (IsDistinct bytes_eq) (sym regrouped) apart) ∙ regrouped)

pub distinct_same : (names : List (List ℕ)) → IsDistinct bytes_eq names → distinct names ≡ names
distinct_same names apart = sym (fold-with_name-nil names) ∙ fold-distinct [] names apart

-- a text alone repeats nothing
pub distinct_short : (texts : List (Bor (List ℕ))) → length texts ≤ 1 → texts_in texts ≡ distinct (texts_in texts)
distinct_short [] short = refl
distinct_short (x ∷ []) short = refl
distinct_short (x ∷ y ∷ texts) short = absurd (omega (arith, short))
