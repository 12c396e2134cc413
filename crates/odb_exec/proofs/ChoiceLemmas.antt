-- The places of the ready and the running positions in their slices.
use Rattle.std.proofs.Common.{◌≡◌, ℕ, ◌<◌, ◌≤◌, ◌+◌, ◌==◌, ◌∙◌, sym, refl, arith, Bool, true, false, nat_eq, eq-eqb, eqb-true, List, [], ◌∷◌, length, get_or, IsTrue, ◌↔◌}
use Rattle.std.specs.FinSet.{contains, contains-from_list_nat}
use Rattle.std.proofs.lemmas.Bool.{both_ways}
use Rattle.std.proofs.lemmas.List.{get_or_default}
use Rattle.std.proofs.lemmas.List.Folds.{list_any_at, Any-from_list_any}
use Rattle.odb_dense.specs.Lists.{ListsOnce}
use Rattle.odb_sched.proofs.ListLemmas.{none_listed}
use Rattle.odb_sched.specs.run.Choosing.{positions_of, IsLeast, IsGreatest, IsNone}

-- an element of a list is in its set
contains-at : (xs : List ℕ) (place : ℕ) → place < length xs → contains (positions_of xs) (get_or xs place 0) ≡ true
contains-at xs place within = contains-from_list_nat xs (get_or xs place 0) ∙ list_any_at (λ x. nat_eq x (get_or xs place 0)) xs place 0 within (eq-eqb (get_or xs place 0) (get_or xs place 0) refl)

-- if a run is not finished, some position may start or runs
pub some_listed : (n : ℕ) (starts runs : ℕ → Bool) (ready running : List ℕ) (finished : Bool) → ListsOnce n starts ready → ListsOnce n runs running
    → (IsTrue finished ↔ ((i : ℕ) → i < n → (starts i ≡ false) × (runs i ≡ false))) → finished ≡ false → 0 < length ready + length running
some_listed n starts runs [] [] finished ready running idle unfinished = absurd (both_ways finished unfinished (idle.1 (λ i within. (none_listed n starts i ready within, none_listed n runs i running within))))
some_listed n starts runs [] (y ∷ ys) finished ready running idle unfinished = omega arith
some_listed n starts runs (x ∷ xs) ys finished ready running idle unfinished = omega arith

-- an empty list has no positions
pub none-empty : (xs : List ℕ) → (length xs == 0) ≡ true → IsNone (positions_of xs)
none-empty [] e i = contains-from_list_nat [] i
none-empty (x ∷ xs) e i = absurd (let none : length (x ∷ xs) ≡ 0 = eqb-true _ 0 e in omega arith)

-- what is in the set of a list is at some place of it
place-of : (xs : List ℕ) (i : ℕ) → contains (positions_of xs) i ≡ true → (place : ℕ) × (place < length xs) × (get_or xs place 0 ≡ i)
place-of xs i among =
    let (k, x, within, at, passes) = Any-from_list_any (λ y. nat_eq y i) xs (sym (contains-from_list_nat xs i) ∙ among) in
    (k, within, get_or_default xs k 0 x within ∙ at ∙ eqb-true x i passes)

-- an element that is not above any other is the least
pub least-from : (xs : List ℕ) (place : ℕ) → place < length xs → ((k : ℕ) → k < length xs → get_or xs place 0 ≤ get_or xs k 0) → IsLeast (positions_of xs) (get_or xs place 0)
least-from xs place within each = record {
  among = contains-at xs place within;
  least = λ j among. let (k, inside, at) = place-of xs j among in rw (← at) (each k inside);
}

-- an element that is not below any other is the greatest
pub greatest-from : (xs : List ℕ) (place : ℕ) → place < length xs → ((k : ℕ) → k < length xs → get_or xs k 0 ≤ get_or xs place 0) → IsGreatest (positions_of xs) (get_or xs place 0)
greatest-from xs place within each = record {
  among = contains-at xs place within;
  greatest = λ j among. let (k, inside, at) = place-of xs j among in rw (← at) (each k inside);
}
