-- What a set keeps that returns its least and its greatest number: for its invariant, nothing to believe.
use Rattle.std.specs.Prelude.{◌≡◌, ℕ, ◌<◌, ◌≤◌, ◌*◌, ◌/◌, ◌%◌, ◌==◌, Bool, true, false, nat_lt, List, length, map, slice_index_or}
use Rattle.std.specs.Int.{bit_at}
use Rattle.std.specs.List.{range_with_len}
use Rattle.odb_dense.specs.declared.bit_set.BitSet.TheInside.{Inside}

-- whether a number is among the bits of words, 64 to a word
abbrev pub has : List ℕ → ℕ → Bool
has words i = bit_at (slice_index_or words (i / 64) 0) (i % 64) == 1

-- the first or the last number among the bits of words
abbrev pub IsFirst : List ℕ → ℕ → Type 0
IsFirst words i = (has words i ≡ true) × ((j : ℕ) → j < i → has words j ≡ false)

abbrev pub IsLast : List ℕ → ℕ → Type 0
IsLast words i = (has words i ≡ true) × ((j : ℕ) → i < j → has words j ≡ false)

-- how many numbers, words, and words of the summary there may be
pub record HaveRoom (numbers words blocks : ℕ) : Type 0 where
  pub few : words ≤ 67108864
  pub words_do : numbers ≤ words * 64
  pub fewer : blocks ≤ words
  pub blocks_do : words ≤ blocks * 64

-- the bits of the words are the numbers of the set, and those of the summary are the words that are not 0
pub record AreBits (members : List Bool) (words summary : List ℕ) : Type 0 where
  pub room : HaveRoom (length members) (length words) (length summary)
  pub exact : (i : ℕ) → has words i ≡ slice_index_or members i false
  pub summed : (k : ℕ) → has summary k ≡ nat_lt 0 (slice_index_or words k 0)

-- the numbers below a bound that are among the bits
abbrev pub below : ℕ → List ℕ → List Bool
below bound words = map (has words) (range_with_len 0 bound)

-- which numbers are in a set
abbrev pub members : Inside → List Bool
members s = below s.bound s.words.items

-- what a set keeps
abbrev pub HasBits : Inside → Type 0
HasBits s = AreBits (members s) s.words.items s.summary.items
