-- The numbers below a bound: whether some or all pass a test, which do, the first, how many, and what functions give there.
use Rattle.std.specs.Prelude.{ℕ, zero, suc, Bool, true, false, ◌&&◌, ◌||◌, cond, if◌then◌else◌, List, [], ◌∷◌, ◌++◌, Option, Some, None, bytes_eq}

-- whether some number below n passes
abbrev pub any_below : ℕ → (ℕ → Bool) → Bool
any_below zero test = false
any_below (suc n) test = test n || any_below n test

-- whether each number below n passes
abbrev pub all_below : ℕ → (ℕ → Bool) → Bool
all_below zero test = true
all_below (suc n) test = test n && all_below n test

-- the numbers below n that pass, from the greatest down
abbrev pub passing_below : ℕ → (ℕ → Bool) → List ℕ
passing_below zero test = []
passing_below (suc n) test = if test n then n ∷ passing_below n test else passing_below n test

-- one, or else the other
abbrev pub or_else : {X : Type 0} → Option X → Option X → Option X
or_else None other = other
or_else (Some x) other = Some x

-- the first number below n that passes
abbrev pub first_below : ℕ → (ℕ → Bool) → Option ℕ
first_below zero test = None
first_below (suc n) test = or_else (first_below n test) (cond (test n) (Some n) None)

-- how many numbers below n pass
abbrev pub count_below : ℕ → (ℕ → Bool) → ℕ
count_below zero test = 0
count_below (suc n) test = cond (test n) (suc (count_below n test)) (count_below n test)

-- what a function gives at each number below n
abbrev pub list_below : {X : Type 0} → ℕ → (ℕ → X) → List X
list_below zero value = []
list_below (suc n) value = list_below n value ++ value n ∷ []

-- the lists at the numbers below n, one after another
abbrev pub joined_below : {X : Type 0} → ℕ → (ℕ → List X) → List X
joined_below zero lists = []
joined_below (suc n) lists = joined_below n lists ++ lists n

-- whether this text is there
abbrev pub is_text : List ℕ → Option (List ℕ) → Bool
is_text text None = false
is_text text (Some other) = bytes_eq text other
