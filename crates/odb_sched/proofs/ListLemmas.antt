-- Elements of a list by position, and lists that a walk over positions makes.
use Rattle.std.proofs.Common.{Option, Some, None, is_none, find, not, ◌≡◌, ℕ, zero, suc, ◌<◌, ◌≤◌, ◌∙◌, sym, refl, subst, arith, Bool, true, false, ◌&&◌, if◌then◌else◌, lt-ltb, le-ltb, List, [], ◌∷◌, length, get_or, take, inl, inr, slice_get, ap, ◌++◌, drop}
use Rattle.std.specs.List.{list_all}
use Rattle.std.proofs.lemmas.Bool.{cases_lt, and_parts, true≢false}
use Rattle.std.proofs.lemmas.List.{take_all}
use Rattle.std.proofs.Math.Seq.{take-append_seam}
use Rattle.odb_dense.specs.Lists.{ListsOnce}
use Rattle.odb_sched.proofs.BelowLemmas.{find-all}

-- if the tests agree, so do the lists
pub lists_alike : (n : ℕ) (test other : ℕ → Bool) (xs : List ℕ) → ((i : ℕ) → i < n → test i ≡ other i) → ListsOnce n test xs → ListsOnce n other xs
lists_alike n test other xs same listed i = listed i ∙ elim (cases_lt i n) [
  | inl within ↦ rw (same i within) refl
  | inr past ↦ rw (le-ltb i n past) refl
]

-- nothing passes if nothing is listed
pub none_listed : (n : ℕ) (test : ℕ → Bool) (i : ℕ) → ListsOnce n test [] → i < n → test i ≡ false
none_listed n test i listed within = at (test i) (subst (λ b. ◌≡◌ {A = ℕ} 0 (if b && test i then 1 else 0)) (lt-ltb i n within) (listed i))
  where
    at : (passes : Bool) → ◌≡◌ {A = ℕ} 0 (if true && passes then 1 else 0) → passes ≡ false
    at true e = absurd (omega arith)
    at false e = refl

-- the first element that does not pass, after a prefix that does
pub find_first : {X : Type 0} (test : X → Bool) (xs : List X) (k : ℕ) (d : X) → k < length xs → list_all test (take k xs) ≡ true → test (get_or xs k d) ≡ false → find (λ x. not (test x)) xs ≡ Some (get_or xs k d)
find_first test [] k d within before here = absurd (omega arith)
find_first test (x ∷ xs) zero d within before here = rw here refl
find_first test (x ∷ xs) (suc k) d within before here =
    let parts = and_parts (test x) (list_all test (take k xs)) before in
    rw parts.0 (find_first test xs k d (omega arith) parts.1 here)

none_from : {X : Type 0} (found : Option X) → is_none found ≡ true → None ≡ found
none_from None e = refl
none_from (Some x) e = absurd (true≢false (sym e))

-- all elements pass
pub find_none : {X : Type 0} (test : X → Bool) (xs : List X) → list_all test xs ≡ true → None ≡ find (λ x. not (test x)) xs
find_none test xs all = none_from _ (find-all test xs ∙ all)

pub find_nothing : {X : Type 0} (test : X → Bool) (xs : List X) (k : ℕ) → length xs ≤ k → list_all test (take k xs) ≡ true → None ≡ find (λ x. not (test x)) xs
find_nothing test xs k done before = none_from _ (find-all test xs ∙ subst (λ ys. list_all test ys ≡ true) (take_all k xs done) before)

-- each position of a list has an element
pub slice_get-some : {X : Type 0} (xs : List X) (k : ℕ) → k < length xs → (x : X) × (slice_get xs k ≡ Some x)
slice_get-some [] k within = absurd (omega arith)
slice_get-some (x ∷ xs) zero within = (x, refl)
slice_get-some (x ∷ xs) (suc k) within = slice_get-some xs k (omega arith)

-- a list that is overwritten as a whole
pub written_over : {X : Type 0} (old new : List X) (n : ℕ) → length new ≡ length old → n ≡ length old → take n (new ++ drop (length new) old) ≡ new
written_over old new n same all = ap (λ k. take k (new ++ drop (length new) old)) (all ∙ sym same) ∙ take-append_seam new (drop (length new) old)
