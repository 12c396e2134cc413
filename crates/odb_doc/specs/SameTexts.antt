-- Lists of the same texts, and an order of texts: for private clauses, nothing to believe.
use Rattle.std.specs.Prelude.{◌≡◌, ◌==◌, ◌&&◌, ◌||◌, ◌<◌, ◌++◌, ◌∷◌, ℕ, Bool, true, false, nat_lt, List, length, bytes_eq}
use Rattle.std.specs.Cmp.Lexicographic.{slice_cmp}
use Rattle.std.specs.List.{list_any}
use Rattle.std.specs.Ordering.{is_lt, nat_cmp}

-- the same texts, whatever their order and however often each is listed
abbrev pub AreSameTexts : List (List ℕ) → List (List ℕ) → Type 0
AreSameTexts xs ys = (q : List ℕ) → list_any (bytes_eq q) xs ≡ list_any (bytes_eq q) ys

-- the first text is the shorter one, or as long as the second and before it in byte order
abbrev pub rises_by_length : List ℕ → List ℕ → Bool
rises_by_length x y = nat_lt (length x) (length y) || ((length x == length y) && is_lt (slice_cmp nat_cmp x y))

-- no name before this position is among those before it
abbrev pub RepeatNoneBefore : List (List ℕ) → ℕ → Type 0
RepeatNoneBefore names k =
    (before rest : List (List ℕ)) (name : List ℕ) → names ≡ before ++ name ∷ rest → length before < k → list_any (bytes_eq name) before ≡ false

-- nor is one, but the name at this position is, if there is one
pub record IsFirstRepeat (names : List (List ℕ)) (k : ℕ) : Type 0 where
  pub apart : RepeatNoneBefore names k
  pub again : (before rest : List (List ℕ)) (name : List ℕ) → names ≡ before ++ name ∷ rest → length before ≡ k → list_any (bytes_eq name) before ≡ true
