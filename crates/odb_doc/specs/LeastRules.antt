-- Which of the broken rules is reported: of one value the one with the least number, of a list the one at the least position,
-- and there with the least number. Where rules have phases, the least phase comes first.
use Rattle.std.specs.Prelude.{◌≡◌, ◌<◌, ℕ, List, take, slice_get, IsSomeAnd}

-- the rule is broken, and none with a smaller number is
pub record IsLeast {R : Type 0} (number : R → ℕ) (Breaks : R → Type 0) (rule : R) : Type 0 where
  pub broken : Breaks rule
  pub least : (other : R) → number other < number rule → ¬ Breaks other

-- the rule is broken by the element at the position, which may be judged by those before it
abbrev pub BreaksAt : {R X : Type 0} → (R → List X → X → Type 0) → List X → R → ℕ → Type 0
BreaksAt Breaks xs rule i = IsSomeAnd (slice_get xs i) (Breaks rule (take i xs))

-- no rule is broken at any position
abbrev pub NoneBroken : {R : Type 0} → (R → ℕ → Type 0) → Type 0
NoneBroken {R} Breaks = (rule : R) (i : ℕ) → ¬ Breaks rule i

-- the rule is broken at the position, none with a smaller number is, and none at all before
pub record IsFirst {R : Type 0} (number : R → ℕ) (Breaks : R → ℕ → Type 0) (at : ℕ) (rule : R) : Type 0 where
  pub here : IsLeast number (λ other. Breaks other at) rule
  pub before : (other : R) (i : ℕ) → i < at → ¬ Breaks other i

-- the rule belongs to the phase, and is broken at the position
abbrev pub BreaksIn : {R : Type 0} → (R → ℕ) → (R → ℕ → Type 0) → ℕ → R → ℕ → Type 0
BreaksIn phase Breaks ph rule i = (phase rule ≡ ph) × Breaks rule i

-- the rule is the first of its phase by position and number, and no rule of an earlier phase is broken
pub record IsFirstByPhase {R : Type 0} (phase number : R → ℕ) (Breaks : R → ℕ → Type 0) (at : ℕ) (rule : R) : Type 0 where
  pub earlier : (ph : ℕ) → ph < phase rule → NoneBroken (BreaksIn phase Breaks ph)
  pub first : IsFirst number (BreaksIn phase Breaks (phase rule)) at rule
