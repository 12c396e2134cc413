-- The rows of dependents have the requests that depend on a unit or a member of it, and no others.
use Rattle.std.proofs.Common.{◌≡◌, ℕ, zero, suc, ◌<◌, ◌≤◌, ◌+◌, ◌∙◌, sym, ap, refl, subst, arith, Bool, true, false, cond, eqb, eqb-true, eq-eqb, List, [], ◌∷◌, length, get_or, inl, inr, Contains, count_by}
use Rattle.std.proofs.lemmas.Bool.{cases_Bool, cases_lt}
use Rattle.std.proofs.lemmas.List.Sums.{sum_by-cons}
use Rattle.std.proofs.lemmas.List.Elements.{Contains-get_or}
use Rattle.odb_check.specs.declared.need.Need.{Need}
use Rattle.odb_check.specs.declared.need.Need.TheVariants.{One, Group}
use Rattle.odb_check.specs.PlanGraph.{PlanGraph, IsPlan, unit_of, needs_of, IsSpan, unit_needed}
use Rattle.odb_dense.specs.declared.worklist.Mark.{Mark}
use Rattle.odb_dense.specs.declared.worklist.Mark.TheVariants.{Unvisited}
use Rattle.odb_dense.specs.Marks.{is_marked}
use Rattle.odb_sched.specs.invariants.Dependents.{AreDependents, key_of}
use Rattle.odb_sched.specs.invariants.Propagation.{NeedsUnit, HaveMarked}

-- what is counted is in the list
pub counted_some : {X : Type 0} (test : X → Bool) (xs : List X) (d : X) → 0 < count_by test xs → (k : ℕ) × (k < length xs) × (test (get_or xs k d) ≡ true)
counted_some test [] d some = absurd (omega arith)
counted_some test (x ∷ xs) d some = elim (cases_Bool (test x)) [
  | inl passes ↦ (zero, omega arith, passes)
  | inr fails ↦
      let rest : 0 < cond false 1 0 + count_by test xs = subst (λ b. 0 < cond b 1 0 + count_by test xs) fails (subst (λ n. 0 < n) (sum_by-cons (λ y. cond (test y) 1 0) x xs) some) in
      let later = counted_some test xs d (omega arith) in
      (suc later.0, omega (arith, later.1), later.2)
]

-- what is in the list is counted
pub some_counted : {X : Type 0} (test : X → Bool) (xs : List X) (k : ℕ) (d : X) → k < length xs → test (get_or xs k d) ≡ true → 0 < count_by test xs
some_counted test [] k d within passes = absurd (omega arith)
some_counted test (x ∷ xs) zero d within passes = rw (sum_by-cons (λ y. cond (test y) 1 0) x xs, passes) (omega arith)
some_counted test (x ∷ xs) (suc k) d within passes =
    let later : 0 < count_by test xs = some_counted test xs k d (omega arith) passes in
    rw (sum_by-cons (λ y. cond (test y) 1 0) x xs) (omega arith)

-- a request of a row needs what has the key
row_need : (plan : PlanGraph) (rows : List (List ℕ)) (key i k : ℕ) → AreDependents plan rows → key < length rows → k < length (get_or rows key []) → get_or (get_or rows key []) k 0 ≡ i
    → (i < length plan.units) × (need : Need) × Contains (needs_of plan i) need × (key_of plan need ≡ key)
row_need plan rows key i k are known within here =
    let inside : i < length plan.units = subst (λ j. j < length plan.units) here (are.within key known k 0 within) in
    let (m, below, passes) = counted_some (λ need. eqb (key_of plan need) key) (needs_of plan i) (One 0)
    (subst (λ n. 0 < n) (are.exact key i known inside) (some_counted (λ j. eqb j i) (get_or rows key []) k 0 within (eq-eqb _ _ here))) in
    (inside, get_or (needs_of plan i) m (One 0), Contains-get_or (needs_of plan i) m (One 0) below, eqb-true _ _ passes)

-- a request that needs what has the key is in the row
need_row : (plan : PlanGraph) (rows : List (List ℕ)) (key i : ℕ) (need : Need) → AreDependents plan rows → key < length rows → i < length plan.units → Contains (needs_of plan i) need → key_of plan need ≡ key
    → (k : ℕ) × (k < length (get_or rows key [])) × (get_or (get_or rows key []) k 0 ≡ i)
need_row plan rows key i need are known inside (m, below, at) same =
    let (k, within, passes) = counted_some (λ j. eqb j i) (get_or rows key []) 0
    (subst (λ n. 0 < n) (sym (are.exact key i known inside)) (some_counted (λ n. eqb (key_of plan n) key) (needs_of plan i) m need below (eq-eqb _ _ (ap (key_of plan) at ∙ same)))) in
    (k, within, eqb-true _ _ passes)

-- a need with the key of a member is of the unit, and so is one with the key of the unit
pub of_member : (plan : PlanGraph) (u r : ℕ) (need : Need) → r < length plan.units → unit_of plan r ≡ u → key_of plan need ≡ r → unit_needed (unit_of plan) need ≡ u
of_member plan u r (One s) within here same = ap (unit_of plan) same ∙ here
of_member plan u r (Group v) within here same = absurd (omega arith)

pub of_unit : (plan : PlanGraph) (u i : ℕ) (need : Need) → IsPlan plan → i < length plan.units → Contains (needs_of plan i) need → key_of plan need ≡ length plan.units + u → unit_needed (unit_of plan) need ≡ u
of_unit plan u i (One s) laws within has same = let earlier : s < i = laws.earlier i (One s) within has in absurd (omega arith)
of_unit plan u i (Group v) laws within has same = omega arith

-- this unit has a request of the list
abbrev pub IsOfSome : PlanGraph → List ℕ → ℕ → Type 0
IsOfSome plan list v = (k : ℕ) × (k < length list) × (unit_of plan (get_or list k 0) ≡ v)

-- a request in the row of a member needs something of the unit
pub member_needed : (plan : PlanGraph) (rows : List (List ℕ)) (row : List ℕ) (u r v : ℕ) → AreDependents plan rows → r < length plan.units → unit_of plan r ≡ u → row ≡ get_or rows r [] → IsOfSome plan row v → NeedsUnit plan v u
member_needed plan rows row u r v are known here read (k, within, own) =
    let (inside, need, has, same) = row_need plan rows r (get_or row k 0) k are (omega (arith, are.each)) (subst (λ xs. k < length xs) read within) (ap (λ xs. get_or xs k 0) (sym read)) in
    (get_or row k 0, need, inside, has, of_member plan u r need known here same, own)

-- a request in the row of the unit needs the unit
pub unit_is_needed : (plan : PlanGraph) (rows : List (List ℕ)) (row : List ℕ) (u key v : ℕ) → IsPlan plan → AreDependents plan rows → u < plan.unit_count → key ≡ length plan.units + u → row ≡ get_or rows key [] → IsOfSome plan row v → NeedsUnit plan v u
unit_is_needed plan rows row u key v laws are known keyed read (k, within, own) =
    let (inside, need, has, same) = row_need plan rows key (get_or row k 0) k are (omega (arith, are.each)) (subst (λ xs. k < length xs) read within) (ap (λ xs. get_or xs k 0) (sym read)) in
    (get_or row k 0, need, inside, has, of_unit plan u (get_or row k 0) need laws inside has (same ∙ keyed), own)

-- the units of the requests in a row are marked
abbrev pub IsMarkedRow : PlanGraph → List (List ℕ) → List Mark → ℕ → Type 0
IsMarkedRow plan rows units key = (k : ℕ) → k < length (get_or rows key []) → is_marked (get_or units (unit_of plan (get_or (get_or rows key []) k 0)) Unvisited) ≡ true

-- the row is this list
pub row_marked : (plan : PlanGraph) (rows : List (List ℕ)) (units : List Mark) (row : List ℕ) (key : ℕ) → row ≡ get_or rows key [] → ((k : ℕ) → k < length row → is_marked (get_or units (unit_of plan (get_or row k 0)) Unvisited) ≡ true) → IsMarkedRow plan rows units key
row_marked plan rows units row key read marked = subst (λ xs. (k : ℕ) → k < length xs → is_marked (get_or units (unit_of plan (get_or xs k 0)) Unvisited) ≡ true) read marked

-- one row more is marked
pub rows_marked : (plan : PlanGraph) (rows : List (List ℕ)) (before after : List Mark) (from r : ℕ) → HaveMarked before after → ((s : ℕ) → from ≤ s → s < r → IsMarkedRow plan rows before s) → IsMarkedRow plan rows after r
    → (s : ℕ) → from ≤ s → s < r + 1 → IsMarkedRow plan rows after s
rows_marked plan rows before after from r marks earlier now s inside below k within = elim (cases_lt s r) [
  | inl less ↦ marks.kept _ (earlier s inside less k within)
  | inr last ↦ let here : r ≡ s = omega arith in subst (IsMarkedRow plan rows after) here now k within
]

-- the unit of a request that needs what has the key of a row is marked with the row
marked_in_row : (plan : PlanGraph) (rows : List (List ℕ)) (units : List Mark) (key i : ℕ) (need : Need) → AreDependents plan rows → key < length rows → i < length plan.units → Contains (needs_of plan i) need → key_of plan need ≡ key → IsMarkedRow plan rows units key
    → is_marked (get_or units (unit_of plan i) Unvisited) ≡ true
marked_in_row plan rows units key i need are known inside has same marked =
    let (k, within, here) = need_row plan rows key i need are known inside has same in
    subst (λ j. is_marked (get_or units (unit_of plan j) Unvisited) ≡ true) here (marked k within)

-- the dependents of a unit are marked with the rows of the members and of the unit
pub dependents_marked : (plan : PlanGraph) (rows : List (List ℕ)) (u from to end : ℕ) (units after : List Mark) → IsPlan plan → AreDependents plan rows → u < plan.unit_count → IsSpan plan u from to → to ≤ end
    → ((r : ℕ) → from ≤ r → r < end → IsMarkedRow plan rows units r) → HaveMarked units after → IsMarkedRow plan rows after (length plan.units + u)
    → (w : ℕ) → NeedsUnit plan w u → is_marked (get_or after w Unvisited) ≡ true
dependents_marked plan rows u from to end units after laws are known span done members marks own w (i, One r, inside, has, about, here) =
    let earlier : r < i = laws.earlier i (One r) inside has in
    let within : r < length plan.units = omega arith in
    let member = (span.exact r within).0 about in
    let before : r < to = member.1 in
    marks.kept w (subst (λ v. is_marked (get_or units v Unvisited) ≡ true) here (marked_in_row plan rows units r i (One r) are (omega (arith, are.each)) inside has refl (members r member.0 (omega arith))))
dependents_marked plan rows u from to end units after laws are known span done members marks own w (i, Group v, inside, has, about, here) =
    subst (λ x. is_marked (get_or after x Unvisited) ≡ true) here (marked_in_row plan rows after (length plan.units + u) i (Group v) are (omega (arith, are.each)) inside has (omega (arith, about)) own)

-- marks on marks are marks
pub marks_trans : (before between after : List Mark) → HaveMarked before between → HaveMarked between after → HaveMarked before after
marks_trans before between after first next = record {
  each = next.each ∙ first.each;
  kept = λ v marked. next.kept v (first.kept v marked);
  same = λ v. next.same v ∙ first.same v;
}
