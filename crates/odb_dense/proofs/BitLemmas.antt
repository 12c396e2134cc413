-- The bits of the words of a set, and those of their summary, through its steps.
use Rattle.std.proofs.Common.{◌≡◌, ◌≢◌, ℕ, zero, suc, ◌<◌, ◌≤◌, ◌-◌, ◌*◌, ◌/◌, ◌%◌, ◌^◌, ◌∙◌, ap, sym, refl, subst, arith, inl, inr, Bool, true, false, ◌==◌, nat_lt, List, length, get_or, set, replicate, w64, bit_and, bit_or}
use Rattle.std.proofs.Math.Nat.{two-pow-succ}
use Rattle.std.specs.Int.{bit_at}
use Rattle.std.proofs.lemmas.Bool.{cases_eq, cases_lt, lt-ltb, false≢true}
use Rattle.std.proofs.lemmas.Nat.{and_le_l}
use Rattle.std.proofs.lemmas.Nat.Bits.{bit_at-zero, bit_at_above, bit_at_set_same, bit_at_set_other, bit_at_clear_same, bit_at_clear_other}
use Rattle.std.proofs.lemmas.List.{get_or_past, get_or_read, get_or-set_same, get_or-set_other, length-set, length-replicate, ext_get_or}
use Rattle.std.proofs.lemmas.List.FromFn.{length-map-range_with_len, get_or-map-range_with_len}
use Rattle.odb_dense.specs.Bits.{has, below, IsFirst, IsLast, HaveRoom, AreBits}
use Rattle.odb_dense.specs.Extremes.{IsLeastOf, IsGreatestOf}

-- a word has no bit above its highest
pub none_above : (word k i : ℕ) → word < 2 * 2 ^ k → k < i → bit_at word i ≡ 0
none_above word k i less above = bit_at_above word (suc k) i (omega (arith, two-pow-succ k)) (omega arith)

-- a word with a bit is not 0
some_bit : (word k : ℕ) → bit_at word k ≡ 1 → 0 < word
some_bit word k bit = elim (cases_lt 0 word) [
  | inl some ↦ some
  | inr none ↦ (let is : word ≡ 0 = omega arith in let zeros : bit_at word k ≡ 0 = ap (λ w. bit_at w k) is ∙ bit_at-zero k in absurd (omega arith))
]

-- a word after one of its bits was set, and after it was cleared
abbrev with_bit : ℕ → ℕ → ℕ
with_bit word k = bit_or word (1 * 2 ^ k % 2 ^ 64)

abbrev without_bit : ℕ → ℕ → ℕ
without_bit word k = bit_and word (2 ^ 64 - 1 - 1 * 2 ^ k % 2 ^ 64)

-- one bit of a word is this now, and the others are as they were
record IsChanged (before after k : ℕ) (bit : Bool) : Type 0 where
  here : (bit_at after k == 1) ≡ bit
  others : (j : ℕ) → j < 64 → j ≢ k → bit_at after j ≡ bit_at before j

with_is : (word k : ℕ) → k < 64 → IsChanged word (with_bit word k) k true
with_is word k less = record { here = ap (λ d. d == 1) (bit_at_set_same w64 word k less); others = λ j below apart. bit_at_set_other w64 word k less j apart }

without_is : (word k : ℕ) → k < 64 → IsChanged word (without_bit word k) k false
without_is word k less = record { here = ap (λ d. d == 1) (bit_at_clear_same w64 word k less); others = λ j below apart. bit_at_clear_other w64 word k less j below apart }

module _ (words : List ℕ) (i before after : ℕ) (bit : Bool) (within : i / 64 < length words) (read : before ≡ get_or words (i / 64) before) (changed : IsChanged before after (i % 64) bit) where
  -- whether a number is among the bits, after the word with its bit was changed
  has_here : has (set words (i / 64) after) i ≡ bit
  has_here = ap (λ word. bit_at word (i % 64) == 1) (get_or-set_same words (i / 64) after 0 within) ∙ changed.here

  has_other : (j : ℕ) → j ≢ i → has (set words (i / 64) after) j ≡ has words j
  has_other j apart = elim (cases_eq (j / 64) (i / 64)) [
    | inl same ↦ ap (λ at. bit_at (get_or (set words (i / 64) after) at 0) (j % 64) == 1) same ∙ (ap (λ word. bit_at word (j % 64) == 1) (get_or-set_same words (i / 64) after 0 within) ∙ (ap (λ d. d == 1) (changed.others (j % 64) (omega arith) (omega arith)) ∙ (ap (λ word. bit_at word (j % 64) == 1) (get_or_read words (i / 64) before within read 0) ∙ ap (λ at. bit_at (get_or words at 0) (j % 64) == 1) (sym same))))
    | inr other ↦ ap (λ word. bit_at word (j % 64) == 1) (get_or-set_other words (i / 64) (j / 64) after 0 other)
  ]

  -- the numbers of the set are still the bits
  exact_after : (members : List Bool) → i < length members → ((j : ℕ) → has words j ≡ get_or members j false) → (j : ℕ) → has (set words (i / 64) after) j ≡ get_or (set members i bit) j false
  exact_after members below exact j = elim (cases_eq j i) [
    | inl same ↦ subst (λ n. has (set words (i / 64) after) n ≡ get_or (set members i bit) n false) (sym same) (has_here ∙ sym (get_or-set_same members i bit false below))
    | inr other ↦ has_other j other ∙ (exact j ∙ sym (get_or-set_other members i j bit false other))
  ]

-- the summary has still the words that are not 0, after one was written and its bit with it
summed_after : (words summary : List ℕ) (at word before after : ℕ) (bit : Bool) → at < length words → at / 64 < length summary → before ≡ get_or summary (at / 64) before → IsChanged before after (at % 64) bit → nat_lt 0 word ≡ bit
    → ((k : ℕ) → has summary k ≡ nat_lt 0 (get_or words k 0)) → (k : ℕ) → has (set summary (at / 64) after) k ≡ nat_lt 0 (get_or (set words at word) k 0)
summed_after words summary at word before after bit below within read changed is summed k = elim (cases_eq k at) [
  | inl same ↦ subst (λ n. has (set summary (at / 64) after) n ≡ nat_lt 0 (get_or (set words at word) n 0)) (sym same) (has_here summary at before after bit within read changed ∙ (sym is ∙ ap (nat_lt 0) (sym (get_or-set_same words at word 0 below))))
  | inr other ↦ has_other summary at before after bit within read changed k other ∙ (summed k ∙ ap (nat_lt 0) (sym (get_or-set_other words at k word 0 other)))
]

-- and after one was written that is as little 0 as before
summed_same : (words summary : List ℕ) (at word : ℕ) → at < length words → nat_lt 0 word ≡ nat_lt 0 (get_or words at 0)
    → ((k : ℕ) → has summary k ≡ nat_lt 0 (get_or words k 0)) → (k : ℕ) → has summary k ≡ nat_lt 0 (get_or (set words at word) k 0)
summed_same words summary at word below is summed k = elim (cases_eq k at) [
  | inl same ↦ subst (λ n. has summary n ≡ nat_lt 0 (get_or (set words at word) n 0)) (sym same) (summed at ∙ (sym is ∙ ap (nat_lt 0) (sym (get_or-set_same words at word 0 below))))
  | inr other ↦ summed k ∙ ap (nat_lt 0) (sym (get_or-set_other words at k word 0 other))
]

module _ (members : List Bool) (words summary : List ℕ) (kept : AreBits members words summary) where
  within_set : (i : ℕ) → get_or members i false ≡ true → i < length members
  within_set i among = elim (cases_lt i (length members)) [
    | inl less ↦ less
    | inr past ↦ absurd (false≢true (sym (get_or_past members i false past) ∙ among))
  ]

  -- the first of the bits is the least of the set, and the last the greatest
  pub is_least : (i : ℕ) → IsFirst words i → IsLeastOf members i
  is_least i first = let among : get_or members i false ≡ true = sym (kept.exact i) ∙ first.0 in record { within = within_set i among; among = among; least = λ j less. sym (kept.exact j) ∙ first.1 j less }

  pub is_greatest : (i : ℕ) → IsLast words i → IsGreatestOf members i
  is_greatest i last = let among : get_or members i false ≡ true = sym (kept.exact i) ∙ last.0 in record { within = within_set i among; among = among; greatest = λ j more. sym (kept.exact j) ∙ last.1 j more }

  module _ (i : ℕ) (below : i < length members) where
    place : i / 64 < length words
    place = let room = kept.room.words_do in omega arith

    block : i / 64 / 64 < length summary
    block = let less = place in let room = kept.room.blocks_do in omega arith

    -- a number is put into the set
    pub bits_more : (word over : ℕ) → word ≡ get_or words (i / 64) word → over ≡ get_or summary (i / 64 / 64) over → AreBits (set members i true) (set words (i / 64) (with_bit word (i % 64))) (set summary (i / 64 / 64) (with_bit over (i / 64 % 64)))
    bits_more word over word_is over_is =
        let some : 0 < with_bit word (i % 64) = some_bit _ (i % 64) (bit_at_set_same w64 word (i % 64) (omega arith)) in
        record {
          room = rw (length-set members i true, length-set words (i / 64) (with_bit word (i % 64)), length-set summary (i / 64 / 64) (with_bit over (i / 64 % 64))) kept.room;
          exact = exact_after words i word (with_bit word (i % 64)) true place word_is (with_is word (i % 64) (omega arith)) members below kept.exact;
          summed = summed_after words summary (i / 64) (with_bit word (i % 64)) over (with_bit over (i / 64 % 64)) true place block over_is (with_is over (i / 64 % 64) (omega arith)) (lt-ltb _ _ some) kept.summed;
        }

    -- the word that is read after it was written
    written : (word read : ℕ) → read ≡ get_or (set words (i / 64) word) (i / 64) read → read ≡ word
    written word read is = is ∙ get_or-set_same words (i / 64) word read place

    -- a number is taken out of the set, and its word is not 0
    pub bits_less : (word read : ℕ) → word ≡ get_or words (i / 64) word → read ≡ get_or (set words (i / 64) (without_bit word (i % 64))) (i / 64) read → read ≢ 0 → AreBits (set members i false) (set words (i / 64) (without_bit word (i % 64))) summary
    bits_less word read word_is read_is some_read =
        let same : read ≡ without_bit word (i % 64) = written _ read read_is in
        let some : 0 < without_bit word (i % 64) = elim (cases_lt 0 (without_bit word (i % 64))) [ inl is ↦ is | inr none ↦ absurd (some_read (omega arith)) ] in
        let word_at : word ≡ get_or words (i / 64) 0 = get_or_read words (i / 64) word place word_is 0 in
        let less : without_bit word (i % 64) ≤ word = and_le_l _ _ in
        let before : 0 < get_or words (i / 64) 0 = omega arith in
        record {
          room = rw (length-set members i false, length-set words (i / 64) (without_bit word (i % 64))) kept.room;
          exact = exact_after words i word (without_bit word (i % 64)) false place word_is (without_is word (i % 64) (omega arith)) members below kept.exact;
          summed = summed_same words summary (i / 64) (without_bit word (i % 64)) place (lt-ltb _ _ some ∙ sym (lt-ltb _ _ before)) kept.summed;
        }

    -- a number is taken out of the set, and its word is 0
    pub bits_none : (word over read : ℕ) → word ≡ get_or words (i / 64) word → over ≡ get_or summary (i / 64 / 64) over → read ≡ get_or (set words (i / 64) (without_bit word (i % 64))) (i / 64) read → read ≡ 0 → AreBits (set members i false) (set words (i / 64) (without_bit word (i % 64))) (set summary (i / 64 / 64) (without_bit over (i / 64 % 64)))
    bits_none word over read word_is over_is read_is none_read =
        let zeros : without_bit word (i % 64) ≡ 0 = sym (written _ read read_is) ∙ none_read in
        record {
          room = rw (length-set members i false, length-set words (i / 64) (without_bit word (i % 64)), length-set summary (i / 64 / 64) (without_bit over (i / 64 % 64))) kept.room;
          exact = exact_after words i word (without_bit word (i % 64)) false place word_is (without_is word (i % 64) (omega arith)) members below kept.exact;
          summed = summed_after words summary (i / 64) (without_bit word (i % 64)) over (without_bit over (i / 64 % 64)) false place block over_is (without_is over (i / 64 % 64) (omega arith)) (ap (nat_lt 0) zeros) kept.summed;
        }

-- the bits below the bound are the numbers of the set
pub members_of : (members : List Bool) (words summary : List ℕ) (bound : ℕ) → length members ≡ bound → AreBits members words summary → below bound words ≡ members
members_of members words summary bound long kept =
    ext_get_or false (below bound words) members (length-map-range_with_len (has words) 0 bound ∙ sym long) (λ i less.
    get_or-map-range_with_len (has words) 0 bound i i false (omega (arith, less, length-map-range_with_len (has words) 0 bound)) (omega arith) ∙ kept.exact i)

-- and so it keeps them
pub bits_of : (members : List Bool) (words summary : List ℕ) (bound : ℕ) → length members ≡ bound → AreBits members words summary → AreBits (below bound words) words summary
bits_of members words summary bound long kept = subst (λ ms. AreBits ms words summary) (sym (members_of members words summary bound long kept)) kept

-- before the first number is put in, all words are 0
pub bits_zero : (bound words blocks : ℕ) → HaveRoom bound words blocks → AreBits (replicate bound false) (replicate words 0) (replicate blocks 0)
bits_zero bound words blocks room = record {
  room = rw (length-replicate {A = Bool} bound false, length-replicate {A = ℕ} words 0, length-replicate {A = ℕ} blocks 0) room;
  exact = λ i. ap (λ word. bit_at word (i % 64) == 1) (read_same words (i / 64)) ∙ (ap (λ d. d == 1) (bit_at-zero (i % 64)) ∙ sym (read_same bound i));
  summed = λ k. ap (λ word. bit_at word (k % 64) == 1) (read_same blocks (k / 64)) ∙ (ap (λ d. d == 1) (bit_at-zero (k % 64)) ∙ ap (nat_lt 0) (sym (read_same words k)));
}
  where
    read_same : {X : Type 0} {x : X} (n i : ℕ) → get_or (replicate n x) i x ≡ x
    read_same zero i = refl
    read_same (suc n) zero = refl
    read_same (suc n) (suc i) = read_same n i
