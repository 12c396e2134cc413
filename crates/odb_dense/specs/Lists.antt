-- Lists of the numbers below a bound that pass a test.
use Rattle.std.specs.Prelude.{◌≡◌, ℕ, ◌==◌, ◌&&◌, nat_lt, Bool, List, count_by, if◌then◌else◌}

-- the list has the numbers below n that pass, each once, and no others
abbrev pub ListsOnce : ℕ → (ℕ → Bool) → List ℕ → Type 0
ListsOnce n test xs = (i : ℕ) → count_by (λ x. x == i) xs ≡ (if nat_lt i n && test i then 1 else 0)
