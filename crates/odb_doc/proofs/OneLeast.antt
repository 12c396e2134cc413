-- The rule that is reported is one, and what elements read as is one list: proved of all rules with numbers of their own and
-- of all readings, for the laws of this crate and of those above, since no clause can speak of all of them.
use Rattle.std.proofs.Common.{◌≡◌, ◌<◌, inl, inr, ℕ, List, [], ◌∷◌, refl, sym, subst, arith}
use Rattle.std.specs.List.{AllZip}
use Rattle.std.proofs.lemmas.Bool.{cases_order}
use Rattle.odb_doc.specs.LeastRules.{IsLeast, IsFirst, IsFirstByPhase, NoneBroken, BreaksIn}

-- two least rules of one value are equal
pub one_least : {R : Type 0} (number : R → ℕ) (Breaks : R → Type 0) → ((a b : R) → number a ≡ number b → a ≡ b) → (rule other : R) → IsLeast number Breaks rule → IsLeast number Breaks other
    → rule ≡ other
one_least number Breaks apart rule other one two =
    elim (cases_order (number rule) (number other)) [
      | inl same ↦ apart rule other same
      | inr (inl less) ↦ absurd (two.least rule less one.broken)
      | inr (inr more) ↦ absurd (one.least other more two.broken)
    ]

-- two first rules of one list are equal, and at one position
pub one_first : {R : Type 0} (number : R → ℕ) (Breaks : R → ℕ → Type 0) → ((a b : R) → number a ≡ number b → a ≡ b) → (at other_at : ℕ) (rule other : R)
    → IsFirst number Breaks at rule → IsFirst number Breaks other_at other → (at ≡ other_at) × (rule ≡ other)
one_first number Breaks apart at other_at rule other one two =
    elim (cases_order at other_at) [
      | inl same ↦ (same, one_least number (λ r. Breaks r other_at) apart rule other (subst (λ (i : ℕ). IsLeast number (λ r. Breaks r i) rule) same one.here) two.here)
      | inr (inl less) ↦ absurd (two.before rule at less one.here.broken)
      | inr (inr more) ↦ absurd (one.before other other_at more two.here.broken)
    ]

-- two rules that are first by phase are equal, and at one position
pub one_by_phase : {R : Type 0} (phase number : R → ℕ) (Breaks : R → ℕ → Type 0) → ((a b : R) → number a ≡ number b → a ≡ b) → (at other_at : ℕ) (rule other : R)
    → IsFirstByPhase phase number Breaks at rule → IsFirstByPhase phase number Breaks other_at other → (at ≡ other_at) × (rule ≡ other)
one_by_phase phase number Breaks apart at other_at rule other one two =
    elim (cases_order (phase rule) (phase other)) [
      | inl same ↦ one_first number (BreaksIn phase Breaks (phase other)) apart at other_at rule other (subst (λ ph. IsFirst number (BreaksIn phase Breaks ph) at rule) same one.first) two.first
      | inr (inl less) ↦ absurd (two.earlier (phase rule) less rule at one.first.here.broken)
      | inr (inr more) ↦ absurd (one.earlier (phase other) more other other_at two.first.here.broken)
    ]

-- the first rule of a phase comes first if no rule of an earlier phase is broken
pub by_phase : {R : Type 0} (phase number : R → ℕ) (Breaks : R → ℕ → Type 0) (ph at : ℕ) (rule : R) → ((p : ℕ) → p < ph → NoneBroken (BreaksIn phase Breaks p)) → IsFirst number (BreaksIn phase Breaks ph) at rule
    → IsFirstByPhase phase number Breaks at rule
by_phase phase number Breaks ph at rule before first =
    let own : phase rule ≡ ph = first.here.broken.0 in
    record { earlier = λ p less. before p (omega (arith, less, own)); first = subst (λ p. IsFirst number (BreaksIn phase Breaks p) at rule) (sym own) first }

-- if each element reads as one value at most, elements read as one list
pub one_list : {X Y : Type 0} (ReadsAs : X → Y → Type 0) → ((x : X) (y z : Y) → ReadsAs x y → ReadsAs x z → y ≡ z) → (xs : List X) (ys zs : List Y) → AllZip ReadsAs xs ys → AllZip ReadsAs xs zs → ys ≡ zs
one_list ReadsAs same [] [] [] one two = refl
one_list ReadsAs same [] [] (z ∷ zs) one two = absurd two
one_list ReadsAs same [] (y ∷ ys) zs one two = absurd one
one_list ReadsAs same (x ∷ xs) [] zs one two = absurd one
one_list ReadsAs same (x ∷ xs) (y ∷ ys) [] one two = absurd two
one_list ReadsAs same (x ∷ xs) (y ∷ ys) (z ∷ zs) one two =
    let first = same x y z one.0 two.0 in
    let rest = one_list ReadsAs same xs ys zs one.1 two.1 in
    cc (first, rest)
