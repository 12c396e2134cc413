-- What the members of a unit need of other units.
use Rattle.std.proofs.Common.{◌≡◌, ◌≢◌, ℕ, zero, suc, ◌<◌, ◌≤◌, ◌+◌, ◌==◌, ◌∙◌, sym, ap, refl, subst, arith, Bool, true, false, not, cond, ◌&&◌, ◌||◌, if◌then◌else◌, eq-eqb, eqb-true, ne_eqb, List, [], ◌∷◌, length, inl, inr, Contains, filter, append-nil, find, Some, None}
use Rattle.std.specs.List.{list_all}
use Rattle.std.proofs.lemmas.Bool.{cases_eq, cases_lt, or_right, true≢false}
use Rattle.std.proofs.lemmas.List.Folds.{list_all-append, find-append}
use Rattle.odb_check.specs.declared.need.Need.{Need}
use Rattle.odb_check.specs.Firsts.{all_below, joined_below}
use Rattle.odb_check.specs.PlanGraph.{PlanGraph, IsSpan, unit_of, needs_of, unit_needed}
use Rattle.odb_sched.specs.run.Units.{is_outer, outer_needs_at, outer_needs}
use Rattle.odb_sched.proofs.BelowLemmas.{all_below-Decides, list_all-each, list_all-from}

-- each element of joined lists passes exactly when those of each list do
list_all-joined : {X : Type 0} (test : X → Bool) (n : ℕ) (lists : ℕ → List X) → list_all test (joined_below n lists) ≡ all_below n (λ i. list_all test (lists i))
list_all-joined test zero lists = refl
list_all-joined test (suc n) lists = list_all-append test (joined_below n lists) (lists n) ∙ rw (list_all-joined test n lists) (turned (all_below n (λ i. list_all test (lists i))) (list_all test (lists n)))
  where
    turned : (a b : Bool) → (a && b) ≡ (b && a)
    turned true true = refl
    turned true false = refl
    turned false true = refl
    turned false false = refl

-- each element that is kept passes exactly when each passes or is not kept
list_all-filter : {X : Type 0} (test kept : X → Bool) (xs : List X) → list_all test (filter kept xs) ≡ list_all (λ x. not (kept x) || test x) xs
list_all-filter test kept [] = refl
list_all-filter test kept (x ∷ xs) = at (kept x) (list_all-filter test kept xs)
  where
    at : (b : Bool) → list_all test (filter kept xs) ≡ list_all (λ y. not (kept y) || test y) xs
        → list_all test (if b then x ∷ filter kept xs else filter kept xs) ≡ ((not b || test x) && list_all (λ y. not (kept y) || test y) xs)
    at true rest = ap (λ b. test x && b) rest
    at false rest = rest

-- each need of a unit on other units passes if that of each member does
pub outer-from : (plan : PlanGraph) (u : ℕ) (test : Need → Bool) → ((i : ℕ) (need : Need) → i < length plan.units → unit_of plan i ≡ u → Contains (needs_of plan i) need → unit_needed (unit_of plan) need ≢ u → test need ≡ true)
    → list_all test (outer_needs plan u) ≡ true
outer-from plan u test each = list_all-joined test (length plan.units) (outer_needs_at plan u)
    ∙ (all_below-Decides (length plan.units) (λ i. list_all test (outer_needs_at plan u i))).1 (λ i within. at i within (unit_of plan i == u) refl)
  where
    at : (i : ℕ) → i < length plan.units → (b : Bool) → (unit_of plan i == u) ≡ b → list_all test (if b then filter (is_outer plan u) (needs_of plan i) else []) ≡ true
    at i within false e = refl
    at i within true e = list_all-filter test (is_outer plan u) (needs_of plan i)
        ∙ list_all-from (λ need. not (is_outer plan u need) || test need) (needs_of plan i) (λ need has. elim (cases_eq (unit_needed (unit_of plan) need) u) [
          | inl same ↦ rw (same, eq-eqb u u refl) refl
          | inr other ↦ or_right _ _ (each i need within (eqb-true _ _ e) has other)
        ])

-- and of each member does if that of the unit does
pub outer-each : (plan : PlanGraph) (u i : ℕ) (need : Need) (test : Need → Bool) → list_all test (outer_needs plan u) ≡ true → i < length plan.units → unit_of plan i ≡ u → Contains (needs_of plan i) need → unit_needed (unit_of plan) need ≢ u → test need ≡ true
outer-each plan u i need test all within here has other =
    let own : list_all test (outer_needs_at plan u i) ≡ true = (all_below-Decides (length plan.units) (λ j. list_all test (outer_needs_at plan u j))).0 (sym (list_all-joined test (length plan.units) (outer_needs_at plan u)) ∙ all) i within in
    let kept : list_all test (filter (is_outer plan u) (needs_of plan i)) ≡ true = subst (λ b. list_all test (if b then filter (is_outer plan u) (needs_of plan i) else []) ≡ true) (eq-eqb (unit_of plan i) u here) own in
    let passes : (not (is_outer plan u need) || test need) ≡ true = list_all-each (λ n. not (is_outer plan u n) || test n) (needs_of plan i) need (sym (list_all-filter test (is_outer plan u) (needs_of plan i)) ∙ kept) has in
    at (unit_needed (unit_of plan) need == u) (ne_eqb (unit_needed (unit_of plan) need) u other) passes
  where
    at : (b : Bool) → b ≡ false → (not (not b) || test need) ≡ true → test need ≡ true
    at true e passes = absurd (true≢false e)
    at false e passes = passes

-- lists that are empty add nothing
joined_past : {X : Type 0} (n m : ℕ) (lists : ℕ → List X) → n ≤ m → ((i : ℕ) → n ≤ i → i < m → lists i ≡ []) → joined_below m lists ≡ joined_below n lists
joined_past n zero lists least none = ap (λ k. joined_below k lists) (let same : 0 ≡ n = omega arith in same)
joined_past n (suc m) lists least none = elim (cases_lt m n) [
  | inl last ↦ ap (λ k. joined_below k lists) (let same : suc m ≡ n = omega arith in same)
  | inr before ↦ rw (none m before (omega arith)) (append-nil (joined_below m lists) ∙ joined_past n m lists before (λ i after below. none i after (omega arith)))
]

-- a request of another unit has none of the needs of the unit
outer_elsewhere : (plan : PlanGraph) (u i : ℕ) → unit_of plan i ≢ u → outer_needs_at plan u i ≡ []
outer_elsewhere plan u i elsewhere = rw (ne_eqb (unit_of plan i) u elsewhere) refl

-- no request before the first member has needs of the unit
pub outer_before_span : (plan : PlanGraph) (u from to : ℕ) (list : List Need) → IsSpan plan u from to → list ≡ [] → list ≡ joined_below from (outer_needs_at plan u)
outer_before_span plan u from to list span none = let begins = span.begins in let within = span.within in
    none ∙ sym (joined_past 0 from (outer_needs_at plan u) (omega arith) (λ i after before.
    outer_elsewhere plan u i (λ here. let inside = (span.exact i (omega arith)).0 here in omega (arith, inside.0))))

-- and none after the last
pub outer_to_span : (plan : PlanGraph) (u from to end : ℕ) (list : List Need) → IsSpan plan u from to → from ≤ end → end ≤ to → to ≤ end → list ≡ joined_below end (outer_needs_at plan u) → list ≡ outer_needs plan u
outer_to_span plan u from to end list span begun most least are = let within = span.within in
    are ∙ sym (joined_past end (length plan.units) (outer_needs_at plan u) (omega arith) (λ i after below.
    outer_elsewhere plan u i (λ here. let inside = (span.exact i below).0 here in omega (arith, inside.1))))

-- one need more is on another unit, or not
pub outer_more : (plan : PlanGraph) (u i : ℕ) → unit_of plan i ≡ u → filter (is_outer plan u) (needs_of plan i) ≡ outer_needs_at plan u i
outer_more plan u i here = rw (eq-eqb (unit_of plan i) u here) refl

-- the first that does not pass, of those that are kept
pub find_kept : {X : Type 0} (test kept : X → Bool) (xs : List X) → find (λ x. not (test x)) (filter kept xs) ≡ find (λ x. not (not (kept x) || test x)) xs
find_kept test kept [] = refl
find_kept test kept (x ∷ xs) = at (kept x) (test x) refl (find_kept test kept xs)
  where
    at : (b t : Bool) → test x ≡ t → find (λ y. not (test y)) (filter kept xs) ≡ find (λ y. not (not (kept y) || test y)) xs
        → find (λ y. not (test y)) (if b then x ∷ filter kept xs else filter kept xs) ≡ cond (not (not b || t)) (Some x) (find (λ y. not (not (kept y) || test y)) xs)
    at true true e rest = rw e rest
    at true false e rest = rw e refl
    at false t e rest = rest

-- what is found in the first lists is found in all
pub found_below : {X : Type 0} (test : X → Bool) (n m : ℕ) (lists : ℕ → List X) (x : X) → n ≤ m → find test (joined_below n lists) ≡ Some x → find test (joined_below m lists) ≡ Some x
found_below test n zero lists x least found = subst (λ k. find test (joined_below k lists) ≡ Some x) (let same : n ≡ 0 = omega arith in same) found
found_below test n (suc m) lists x least found = elim (cases_lt m n) [
  | inl last ↦ subst (λ k. find test (joined_below k lists) ≡ Some x) (let same : n ≡ suc m = omega arith in same) found
  | inr before ↦ find-append test (joined_below m lists) (lists m) ∙ rw (found_below test n m lists x before found) refl
]

-- nothing is found in one list more
pub none_more : {X : Type 0} (test : X → Bool) (n : ℕ) (lists : ℕ → List X) → find test (joined_below n lists) ≡ None → find test (lists n) ≡ None → find test (joined_below (n + 1) lists) ≡ None
none_more test n lists before here = subst (λ k. find test (joined_below k lists) ≡ None) (let same : suc n ≡ n + 1 = omega arith in same) (find-append test (joined_below n lists) (lists n) ∙ rw (before, here) refl)

-- what is found in the list after those is found in all
pub some_more : {X : Type 0} (test : X → Bool) (n m : ℕ) (lists : ℕ → List X) (x : X) → find test (joined_below n lists) ≡ None → find test (lists n) ≡ Some x → n < m → find test (joined_below m lists) ≡ Some x
some_more test n m lists x before here more = found_below test (suc n) m lists x (omega arith) (find-append test (joined_below n lists) (lists n) ∙ rw (before, here) refl)

-- the first need of a member on another unit that does not pass
pub outer_found : (plan : PlanGraph) (u i : ℕ) (test : Need → Bool) (xs : List Need) → unit_of plan i ≡ u → xs ≡ needs_of plan i
    → find (λ need. not (test need)) (outer_needs_at plan u i) ≡ find (λ need. not (not (is_outer plan u need) || test need)) xs
outer_found plan u i test xs here same =
    ap (find (λ need. not (test need))) (sym (outer_more plan u i here)) ∙ find_kept test (is_outer plan u) (needs_of plan i) ∙ ap (find (λ need. not (not (is_outer plan u need) || test need))) (sym same)
