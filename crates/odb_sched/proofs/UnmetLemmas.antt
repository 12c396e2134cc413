-- The needs of a request and the members of a unit that are counted, before and after a request has succeeded.
use Rattle.std.proofs.Common.{◌≡◌, ◌≢◌, ℕ, zero, suc, ◌<◌, ◌+◌, ◌==◌, ◌∙◌, sym, ap, refl, arith, Bool, true, false, not, cond, ◌&&◌, ◌||◌, if◌then◌else◌, eq-eqb, ne_eqb, List, [], ◌∷◌, length, get_or, set, inl, inr, All, count_by, get_or-set_same, get_or-set_other}
use Rattle.std.proofs.lemmas.Bool.{cases_eq, both_ways, false_from_ne_true}
use Rattle.std.proofs.lemmas.List.{get_or_read}
use Rattle.std.proofs.lemmas.List.Sums.{sum_by-cons}
use Rattle.odb_check.specs.declared.need.Need.{Need}
use Rattle.odb_check.specs.declared.need.Need.TheVariants.{One, Group}
use Rattle.odb_check.specs.Firsts.{count_below, all_below}
use Rattle.odb_check.specs.PlanGraph.{PlanGraph, IsPlan, unit_of, needs_of, IsNeed}
use Rattle.odb_sched.specs.declared.phase.Phase.{Phase}
use Rattle.odb_sched.specs.declared.phase.Phase.TheVariants.{Unstarted, Running}
use Rattle.odb_sched.specs.run.State.{has_succeeded}
use Rattle.odb_sched.specs.run.Steps.{succeeded_in, satisfied_in}
use Rattle.odb_sched.specs.invariants.Dependents.{AreDependents, key_of, need_count}
use Rattle.odb_sched.specs.invariants.Counts.{unmet_in, satisfied_by_unit, pending_in}
use Rattle.odb_sched.proofs.CountLemmas.{count_same, count_less}
use Rattle.odb_sched.proofs.SatisfiedLemmas.{member_succeeded}
use Rattle.odb_sched.proofs.SpanLemmas.{known_needs}
use Rattle.odb_dense.proofs.CountLemmas.{count_none}

-- none is counted exactly when all pass the contrary test
pub none_counted : (n : ℕ) (test contrary : ℕ → Bool) → ((i : ℕ) → contrary i ≡ not (test i)) → (count_below n test == 0) ≡ all_below n contrary
none_counted zero test contrary turned = refl
none_counted (suc n) test contrary turned = rw (turned n, ← none_counted n test contrary turned) (at (test n))
  where
    at : (b : Bool) → (cond b (suc (count_below n test)) (count_below n test) == 0) ≡ (not b && (count_below n test == 0))
    at true = ne_eqb (suc (count_below n test)) 0 (λ e. omega arith)
    at false = refl

not_both : (a b : Bool) → (not a || b) ≡ not (a && not b)
not_both true true = refl
not_both true false = refl
not_both false b = refl

-- no member is pending exactly when the unit has succeeded
pub none_pending : (plan : PlanGraph) (phases : List Phase) (u : ℕ) → (pending_in plan phases u == 0) ≡ succeeded_in plan phases u
none_pending plan phases u = none_counted (length plan.units) _ _ (λ i. not_both (unit_of plan i == u) (has_succeeded (get_or phases i Unstarted)))

-- if each element is counted by one test as by three others, so is the list
pub three : {X : Type 0} (whole first second third : X → Bool) (xs : List X) → All (λ x. cond (whole x) 1 0 ≡ cond (first x) 1 0 + (cond (second x) 1 0 + cond (third x) 1 0)) xs
    → count_by whole xs ≡ count_by first xs + (count_by second xs + count_by third xs)
three whole first second third [] each = refl
three whole first second third (x ∷ xs) each =
    let here : cond (whole x) 1 0 ≡ cond (first x) 1 0 + (cond (second x) 1 0 + cond (third x) 1 0) = each 0 x (omega arith) in
    let rest : count_by whole xs ≡ count_by first xs + (count_by second xs + count_by third xs) = three whole first second third xs (λ k d within. each (suc k) d (omega arith)) in
    rw (sum_by-cons (λ y. cond (whole y) 1 0) x xs, sum_by-cons (λ y. cond (first y) 1 0) x xs, sum_by-cons (λ y. cond (second y) 1 0) x xs, sum_by-cons (λ y. cond (third y) 1 0) x xs) (omega arith)

-- what is counted only if something holds
pub counted_if : {X : Type 0} (holds : Bool) (test : X → Bool) (xs : List X) → count_by (λ x. holds && test x) xs ≡ (if holds then count_by test xs else 0)
counted_if true test xs = refl
counted_if false test xs = count_none (λ x. false) xs (λ k d within. refl)

-- who has succeeded when a request runs: all others as afterwards
pub others_succeeded : (phases : List Phase) (i j : ℕ) → j ≢ i → has_succeeded (get_or (set phases i Running) j Unstarted) ≡ has_succeeded (get_or phases j Unstarted)
others_succeeded phases i j other = ap has_succeeded (get_or-set_other phases i j Running Unstarted other)

pub not_yet : (phases : List Phase) (i : ℕ) → i < length phases → has_succeeded (get_or (set phases i Running) i Unstarted) ≡ false
not_yet phases i within = ap has_succeeded (get_or-set_same phases i Running Unstarted within)

-- the unit of a request that runs has not succeeded
own_unit : (plan : PlanGraph) (phases : List Phase) (i : ℕ) → i < length plan.units → length phases ≡ length plan.units → succeeded_in plan (set phases i Running) (unit_of plan i) ≡ false
own_unit plan phases i within each = false_from_ne_true _ (λ done. both_ways _ (not_yet phases i (rw each within)) (member_succeeded plan (set phases i Running) (unit_of plan i) i done within refl))

-- tests that agree below a number hold below it alike
pub all_alike : (n : ℕ) (test other : ℕ → Bool) → ((i : ℕ) → i < n → test i ≡ other i) → all_below n test ≡ all_below n other
all_alike zero test other same = refl
all_alike (suc n) test other same = rw (same n (omega arith), all_alike n test other (λ i within. same i (omega arith))) refl

-- another unit has succeeded as afterwards
other_unit : (plan : PlanGraph) (phases : List Phase) (i u : ℕ) → u ≢ unit_of plan i → succeeded_in plan (set phases i Running) u ≡ succeeded_in plan phases u
other_unit plan phases i u other = all_alike (length plan.units) _ _ (λ j within. elim (cases_eq j i) [
  | inl here ↦ rw (here, ne_eqb (unit_of plan i) u (λ e. other (sym e))) refl
  | inr elsewhere ↦ ap (λ b. not (unit_of plan j == u) || b) (others_succeeded phases i j elsewhere)
])

-- a need that is not satisfied while a request runs is not satisfied afterwards, or is of the request, or of its unit if that has succeeded
pub one_need : (plan : PlanGraph) (phases : List Phase) (i : ℕ) (need : Need) → i < length plan.units → length phases ≡ length plan.units → has_succeeded (get_or phases i Unstarted) ≡ true → IsNeed plan need
    → cond (not (satisfied_in plan (set phases i Running) need)) 1 0
    ≡ cond (not (satisfied_in plan phases need)) 1 0 + (cond (key_of plan need == i) 1 0 + cond (succeeded_in plan phases (unit_of plan i) && (key_of plan need == length plan.units + unit_of plan i)) 1 0)
one_need plan phases i (One r) within each done known =
    rw (ne_eqb r (length plan.units + unit_of plan i) (λ e. omega arith)) (elim (cases_eq r i) [
      | inl here ↦ rw (here, not_yet phases i (rw each within), done, eq-eqb i i refl) (last (succeeded_in plan phases (unit_of plan i)))
      | inr elsewhere ↦ rw (others_succeeded phases i r elsewhere, ne_eqb r i elsewhere) (none (not (has_succeeded (get_or phases r Unstarted))) (succeeded_in plan phases (unit_of plan i)))
    ])
  where
    last : (b : Bool) → ◌≡◌ {A = ℕ} 1 (0 + (1 + cond (b && false) 1 0))
    last true = refl
    last false = refl

    none : (b s : Bool) → cond b 1 0 ≡ cond b 1 0 + (0 + cond (s && false) 1 0)
    none true true = refl
    none true false = refl
    none false true = refl
    none false false = refl
one_need plan phases i (Group u) within each done known =
    rw (ne_eqb (length plan.units + u) i (λ e. omega arith)) (elim (cases_eq u (unit_of plan i)) [
      | inl here ↦ rw (here, own_unit plan phases i within each, eq-eqb (length plan.units + unit_of plan i) _ refl) (own (succeeded_in plan phases (unit_of plan i)))
      | inr elsewhere ↦ rw (other_unit plan phases i u elsewhere, ne_eqb (length plan.units + u) (length plan.units + unit_of plan i) (λ e. elsewhere (omega arith))) (none (not (succeeded_in plan phases u)) (succeeded_in plan phases (unit_of plan i)))
    ])
  where
    own : (b : Bool) → ◌≡◌ {A = ℕ} 1 (cond (not b) 1 0 + (0 + cond (b && true) 1 0))
    own true = refl
    own false = refl

    none : (b s : Bool) → cond b 1 0 ≡ cond b 1 0 + (0 + cond (s && false) 1 0)
    none true true = refl
    none true false = refl
    none false true = refl
    none false false = refl

-- a request that has succeeded satisfies the needs of it, and those of its unit if that has succeeded
pub unmet_falls : (plan : PlanGraph) (phases : List Phase) (i j : ℕ) → IsPlan plan → i < length plan.units → j < length plan.units → length phases ≡ length plan.units → has_succeeded (get_or phases i Unstarted) ≡ true
    → unmet_in plan (set phases i Running) j ≡ unmet_in plan phases j + (need_count plan i j + satisfied_by_unit plan phases (unit_of plan i) j)
unmet_falls plan phases i j laws within inside each done =
    three _ _ _ _ (needs_of plan j) (λ k d inner. one_need plan phases i _ within each done (known_needs plan j laws inside k d inner))
    ∙ ap (λ m. unmet_in plan phases j + (need_count plan i j + m)) (counted_if (succeeded_in plan phases (unit_of plan i)) (λ need. key_of plan need == length plan.units + unit_of plan i) (needs_of plan j))

-- the request's own unit has one pending member less
pub pending_own : (plan : PlanGraph) (phases : List Phase) (i : ℕ) → i < length plan.units → length phases ≡ length plan.units → has_succeeded (get_or phases i Unstarted) ≡ true
    → pending_in plan (set phases i Running) (unit_of plan i) ≡ suc (pending_in plan phases (unit_of plan i))
pending_own plan phases i within each done = count_less (length plan.units) i _ _ within
    (rw (eq-eqb (unit_of plan i) _ refl, not_yet phases i (rw each within)) refl)
    (rw (eq-eqb (unit_of plan i) _ refl, done) refl)
    (λ j inside other. ap (λ b. (unit_of plan j == unit_of plan i) && not b) (others_succeeded phases i j other))

-- and each other unit as many as before
pub pending_other : (plan : PlanGraph) (phases : List Phase) (i u : ℕ) → u ≢ unit_of plan i → pending_in plan (set phases i Running) u ≡ pending_in plan phases u
pending_other plan phases i u other = count_same (length plan.units) _ _ (λ j within. elim (cases_eq j i) [
  | inl here ↦ rw (here, ne_eqb (unit_of plan i) u (λ e. other (sym e))) refl
  | inr elsewhere ↦ ap (λ b. (unit_of plan j == u) && not b) (others_succeeded phases i j elsewhere)
])

-- the unit has succeeded if and only if no member is read as pending
pub succeeded_read : (plan : PlanGraph) (phases : List Phase) (u read : ℕ) (pending : List ℕ) → read ≡ get_or pending u read → u < length pending → get_or pending u 0 ≡ pending_in plan phases u → read ≡ 0 → succeeded_in plan phases u ≡ true
succeeded_read plan phases u read pending e within counted none = sym (none_pending plan phases u) ∙ eq-eqb _ 0 (sym counted ∙ sym (get_or_read pending u read within e 0) ∙ none)

pub unfinished_read : (plan : PlanGraph) (phases : List Phase) (u read : ℕ) (pending : List ℕ) → read ≡ get_or pending u read → u < length pending → get_or pending u 0 ≡ pending_in plan phases u → (read ≡ 0 → ⊥) → succeeded_in plan phases u ≡ false
unfinished_read plan phases u read pending e within counted some = sym (none_pending plan phases u) ∙ ne_eqb _ 0 (λ none. some (get_or_read pending u read within e 0 ∙ counted ∙ none))

-- the row of a unit that has succeeded has the needs that the unit satisfies
pub unit_row : (plan : PlanGraph) (phases : List Phase) (u key i : ℕ) (rows : List (List ℕ)) (row : List ℕ) → AreDependents plan rows → u < plan.unit_count → i < length plan.units → succeeded_in plan phases u ≡ true → key ≡ length plan.units + u → row ≡ get_or rows key []
    → count_by (λ j. j == i) row ≡ satisfied_by_unit plan phases u i
unit_row plan phases u key i rows row dependents counted inside done key_is row_is = rw (row_is, key_is, done) (dependents.exact (length plan.units + u) i (rw dependents.each (omega arith)) inside)

-- the row of a request has its dependents
pub request_row : (plan : PlanGraph) (r i : ℕ) (rows : List (List ℕ)) (row : List ℕ) → AreDependents plan rows → r < length plan.units → i < length plan.units → row ≡ get_or rows r [] → count_by (λ j. j == i) row ≡ need_count plan r i
request_row plan r i rows row dependents within inside row_is = rw row_is (dependents.exact r i (rw dependents.each (omega arith)) inside)
