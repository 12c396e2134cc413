-- The elements at the positions that pass, and where each of them comes from.
use Rattle.std.proofs.Common.{◌≡◌, ◌∙◌, ◌+◌, ◌<◌, ◌≤◌, ℕ, zero, suc, Bool, true, false, cond, List, [], ◌∷◌, length, Some, slice_get, refl, ap, sym, subst, arith}
use Rattle.std.proofs.lemmas.Bool.{true≢false}
use Rattle.odb_send.specs.Rests.{select}

-- the first position, or one of those after it
abbrev first_or : ℕ → (ℕ → ℕ) → ℕ → ℕ
first_or i later zero = i
first_or i later (suc k) = later k

-- where the element at k of the selection comes from
abbrev pub place : {X : Type 0} → (ℕ → Bool) → ℕ → List X → ℕ → ℕ
place passes i [] k = i
place passes i (x ∷ xs) k = cond (passes i) (first_or i (place passes (i + 1) xs) k) (place passes (i + 1) xs k)

-- the element at k of the selection is made of the element at its place, which passes
pub record Comes {X Y : Type 0} (passes : ℕ → Bool) (make : ℕ → X → Y) (i : ℕ) (xs : List X) (at : ℕ) (y : Y) : Type 0 where
  pub offset : ℕ
  pub at_is : at ≡ i + offset
  pub element : X
  pub is : slice_get xs offset ≡ Some element
  pub made : y ≡ make at element
  pub passed : passes at ≡ true

later : {X Y : Type 0} (passes : ℕ → Bool) (make : ℕ → X → Y) (i : ℕ) (x : X) (xs : List X) (at : ℕ) (y : Y) → Comes passes make (i + 1) xs at y → Comes passes make i (x ∷ xs) at y
later passes make i x xs at y comes = record {
  offset = suc comes.offset;
  at_is = omega (arith, comes.at_is);
  element = comes.element;
  is = comes.is;
  made = comes.made;
  passed = comes.passed;
}

pub comes : {X Y : Type 0} (passes : ℕ → Bool) (make : ℕ → X → Y) (i : ℕ) (xs : List X) (k : ℕ) (y : Y) → slice_get (select passes make i xs) k ≡ Some y → Comes passes make i xs (place passes i xs k) y
comes passes make i [] k y is = absurd (cc (is))
comes {X} {Y} passes make i (x ∷ xs) k y is = by_first (λ m z. comes passes make (i + 1) xs m z) (passes i) refl k is
  where
    by_first : ((m : ℕ) (z : Y) → slice_get (select passes make (i + 1) xs) m ≡ Some z → Comes passes make (i + 1) xs (place passes (i + 1) xs m) z) → (b : Bool) → passes i ≡ b → (k : ℕ) → slice_get (cond b (make i x ∷ select passes make (i + 1) xs) (select passes make (i + 1) xs)) k ≡ Some y
        → Comes passes make i (x ∷ xs) (cond b (first_or i (place passes (i + 1) xs) k) (place passes (i + 1) xs k)) y
    by_first more true passed zero is = record { offset = zero; at_is = omega arith; element = x; is = refl; made = cc (is); passed = passed }
    by_first more true passed (suc k) is = later passes make i x xs (place passes (i + 1) xs k) y (more k y is)
    by_first more false passed k is = later passes make i x xs (place passes (i + 1) xs k) y (more k y is)

pub place_from : {X : Type 0} (passes : ℕ → Bool) (i : ℕ) (xs : List X) (k : ℕ) → i ≤ place passes i xs k
place_from passes i [] k = omega arith
place_from passes i (x ∷ xs) k = by_first (λ m. place_from passes (i + 1) xs m) (passes i) k
  where
    by_first : ((m : ℕ) → i + 1 ≤ place passes (i + 1) xs m) → (b : Bool) (k : ℕ) → i ≤ cond b (first_or i (place passes (i + 1) xs) k) (place passes (i + 1) xs k)
    by_first more true zero = omega arith
    by_first more true (suc k) = omega (arith, more k)
    by_first more false k = omega (arith, more k)

-- the selection keeps the order
pub place_order : {X Y : Type 0} (passes : ℕ → Bool) (make : ℕ → X → Y) (i : ℕ) (xs : List X) (k m : ℕ) → k < m → m < length (select passes make i xs) → place passes i xs k < place passes i xs m
place_order passes make i [] k m less within = absurd (omega arith)
place_order passes make i (x ∷ xs) k m less within = by_first (λ a b. place_order passes make (i + 1) xs a b) (passes i) k m less within
  where
    by_first : ((a b : ℕ) → a < b → b < length (select passes make (i + 1) xs) → place passes (i + 1) xs a < place passes (i + 1) xs b) → (b : Bool) (k m : ℕ) → k < m → m < length (cond b (make i x ∷ select passes make (i + 1) xs) (select passes make (i + 1) xs))
        → cond b (first_or i (place passes (i + 1) xs) k) (place passes (i + 1) xs k) < cond b (first_or i (place passes (i + 1) xs) m) (place passes (i + 1) xs m)
    by_first more true zero zero less within = absurd (omega arith)
    by_first more true zero (suc m) less within = omega (arith, place_from passes (i + 1) xs m)
    by_first more true (suc k) zero less within = absurd (omega arith)
    by_first more true (suc k) (suc m) less within = more k m (omega arith) (omega arith)
    by_first more false k m less within = more k m less within

-- an element that passes is in the selection
pub selected : {X Y : Type 0} (passes : ℕ → Bool) (make : ℕ → X → Y) (i : ℕ) (xs : List X) (offset : ℕ) → offset < length xs → passes (i + offset) ≡ true
    → (k : ℕ) × (k < length (select passes make i xs)) × (place passes i xs k ≡ i + offset)
selected passes make i [] offset within passed = absurd (omega arith)
selected {X} {Y} passes make i (x ∷ xs) zero within passed = by_first (passes i) (ap passes (omega arith) ∙ passed)
  where
    by_first : (b : Bool) → b ≡ true → (k : ℕ) × (k < length (cond b (make i x ∷ select passes make (i + 1) xs) (select passes make (i + 1) xs))) × (cond b (first_or i (place passes (i + 1) xs) k) (place passes (i + 1) xs k) ≡ i + zero)
    by_first true passed = (zero, omega arith, omega arith)
    by_first false passed = absurd (true≢false (sym passed))
selected passes make i (x ∷ xs) (suc offset) within passed =
    let same : i + suc offset ≡ (i + 1) + offset = omega arith in
    by_first (selected passes make (i + 1) xs offset (omega arith) (subst (λ j. passes j ≡ true) same passed)) (passes i)
  where
    by_first : (k : ℕ) × (k < length (select passes make (i + 1) xs)) × (place passes (i + 1) xs k ≡ (i + 1) + offset)
        → (b : Bool) → (k : ℕ) × (k < length (cond b (make i x ∷ select passes make (i + 1) xs) (select passes make (i + 1) xs))) × (cond b (first_or i (place passes (i + 1) xs) k) (place passes (i + 1) xs k) ≡ i + suc offset)
    by_first more true = (suc more.0, omega (arith, more.1), omega (arith, more.2))
    by_first more false = (more.0, more.1, omega (arith, more.2))
