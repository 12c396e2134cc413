-- The questions to a run between events, by its counts.
use Rattle.std.proofs.Common.{◌≡◌, ℕ, ◌<◌, ◌≤◌, ◌+◌, ◌==◌, ◌∙◌, ap, refl, subst, arith, Bool, true, false, not, cond, ◌&&◌, ◌||◌, nat_lt, leb, eq-eqb, ne_eqb, eqb-true, lt-ltb, le-ltb, le-leb, sym, ◌⊎◌, List, [], ◌∷◌, length, get_or, map, inl, inr, count_by}
use Rattle.std.specs.List.{list_all}
use Rattle.std.proofs.lemmas.Bool.{cases_Bool, cases_lt, both_ways, false_from_ne_true, and_parts, and_from, and_left, and_right, or_cases, or_left, or_right, not-true, not_from_true, lt-leb}
use Rattle.std.proofs.Math.ListN.{get_or-map}
use Rattle.std.proofs.lemmas.List.{get_or_default, get_or_past, length-map}
use Rattle.std.proofs.lemmas.List.Sums.{sum_by-cons, get_or-le-sum_by}
use Rattle.odb_check.specs.PlanGraph.{unit_of, needs_of}
use Rattle.odb_sched.specs.declared.phase.Phase.TheVariants.{Unstarted}
use Rattle.odb_sched.specs.declared.counts.Progress.{Progress}
use Rattle.odb_dense.specs.Lists.{ListsOnce}
use Rattle.odb_check.specs.Firsts.{any_below}
use Rattle.odb_sched.specs.run.State.{is_unstarted, is_running, State, size, phase_at}
use Rattle.odb_sched.specs.run.Steps.{satisfied_in, all_satisfied, unit_failed, is_stopped, running_count, places, may_start, is_finished}
use Rattle.odb_sched.specs.invariants.Kept.{IsReached, IsCounted}
use Rattle.odb_sched.specs.invariants.Counts.{is_skipped}
use Rattle.odb_sched.proofs.BelowLemmas.{any_below-Decides}
use Rattle.odb_sched.proofs.ListLemmas.{lists_alike}
use Rattle.odb_sched.proofs.PropagateLemmas.{same_test}
use Rattle.odb_sched.proofs.KeptLemmas.{finished_idle}
use Rattle.odb_dense.proofs.CountLemmas.{count_none}

count_map : {X : Type 0} (test : X → Bool) (xs : List X) → count_by (λ b. b) (map test xs) ≡ count_by test xs
count_map test [] = refl
count_map test (x ∷ xs) = rw (sum_by-cons (λ y. cond (test y) 1 0) x xs, sum_by-cons (λ b. cond b 1 0) (test x) (map test xs), count_map test xs) refl

-- no element is counted exactly when all pass the contrary test
pub none_unmet : {X : Type 0} (test : X → Bool) (xs : List X) → (count_by (λ x. not (test x)) xs == 0) ≡ list_all test xs
none_unmet test [] = refl
none_unmet test (x ∷ xs) = rw (sum_by-cons (λ y. cond (not (test y)) 1 0) x xs, ← none_unmet test xs) (at (test x))
  where
    at : (b : Bool) → (cond (not b) 1 0 + count_by (λ y. not (test y)) xs == 0) ≡ (b && (count_by (λ y. not (test y)) xs == 0))
    at true = ap (λ n. n == 0) (let none : 0 + count_by (λ y. not (test y)) xs ≡ count_by (λ y. not (test y)) xs = omega arith in none)
    at false = ne_eqb _ 0 (λ e. omega arith)

-- no element is counted exactly when none passes
none_pass : {X : Type 0} (test : X → Bool) (xs : List X) (d : X) → (count_by test xs == 0) ≡ not (any_below (length xs) (λ i. test (get_or xs i d)))
none_pass test xs d = elim (cases_Bool (any_below (length xs) (λ i. test (get_or xs i d)))) [
  | inl some ↦ rw some (passes ((any_below-Decides (length xs) (λ i. test (get_or xs i d))).0 some))
  | inr none ↦ rw none (eq-eqb _ 0 (count_none test xs (λ k other within. false_from_ne_true _ (λ e.
      both_ways _ none ((any_below-Decides (length xs) (λ i. test (get_or xs i d))).1 (k, within, ap test (get_or_default xs k d other within) ∙ e))))))
]
  where
    passes : (k : ℕ) × (k < length xs) × (test (get_or xs k d) ≡ true) → (count_by test xs == 0) ≡ false
    passes (k, within, e) =
        let more : cond true 1 0 ≤ count_by test xs = subst (λ b. cond b 1 0 ≤ count_by test xs) e (get_or-le-sum_by (λ x. cond (test x) 1 0) xs k d within) in
        ne_eqb _ 0 (λ none. omega arith)

-- how many run
pub running_is : (state : State) (counted : Progress) → IsCounted state counted → count_by (λ runs. runs) counted.counts.running ≡ running_count state
running_is state counted are = ap (count_by (λ runs. runs)) are.counts.running ∙ count_map is_running state.phases

-- how many may run
pub places_is : (state : State) (counted : Progress) → IsCounted state counted → state.policy.width + counted.lanes.spare ≡ places state
places_is state counted are = ap (λ n. state.policy.width + n) are.lanes.spare

-- as many run as may exactly when no fewer do
pub full_is : (count width : ℕ) → leb width count ≡ not (nat_lt count width)
full_is count width = elim (cases_lt count width) [
  | inl room ↦ rw (lt-leb width count room, lt-ltb count width room) refl
  | inr full ↦ rw (le-leb width count full, le-ltb count width full) refl
]

-- whether the unit of a request has failed
pub skipped_is : (state : State) (counted : Progress) (i : ℕ) → IsReached state → IsCounted state counted → i < size state → is_skipped state.plan_graph counted.counts.failed i ≡ unit_failed state (unit_of state.plan_graph i)
skipped_is state counted i reached are within = are.counts.units.failed (unit_of state.plan_graph i) (reached.laws.counted i within)

pub unmet_is : (state : State) (counted : Progress) (i : ℕ) → IsCounted state counted → i < size state → (get_or counted.counts.unmet.items i 0 == 0) ≡ all_satisfied state i
unmet_is state counted i are within = ap (λ n. n == 0) (are.counts.unmet i within) ∙ none_unmet (satisfied_in state.plan_graph state.phases) (needs_of state.plan_graph i)

regroup : (fresh stopped failed satisfied room : Bool) → ((fresh && not failed && satisfied) && not stopped && room) ≡ (fresh && not stopped && not failed && satisfied && room)
regroup true true true satisfied room = refl
regroup true true false true room = refl
regroup true true false false room = refl
regroup true false true satisfied room = refl
regroup true false false true room = refl
regroup true false false false room = refl
regroup false stopped failed satisfied room = refl

-- which positions may start
pub starts_is : (state : State) (counted : Progress) (i : ℕ) → IsReached state → IsCounted state counted → i < size state
    → (get_or counted.counts.ready i false && not counted.stopped && nat_lt (count_by (λ runs. runs) counted.counts.running) (state.policy.width + counted.lanes.spare)) ≡ may_start state i
starts_is state counted i reached are within =
    rw (are.counts.ready.exact i within, skipped_is state counted i reached are within, unmet_is state counted i are within, are.stopped, running_is state counted are, are.lanes.spare)
    (regroup (is_unstarted (phase_at state i)) (is_stopped state) (unit_failed state (unit_of state.plan_graph i)) (all_satisfied state i) (nat_lt (running_count state) (places state)))

-- which positions run
pub runs_is : (state : State) (counted : Progress) (i : ℕ) → IsCounted state counted → get_or counted.counts.running i false ≡ is_running (phase_at state i)
runs_is state counted i are = ap (λ running. get_or running i false) are.counts.running ∙ get_or-map is_running state.phases i Unstarted

-- the positions that may start are listed
pub ready_listed : (state : State) (counted : Progress) (xs : List ℕ) → IsReached state → IsCounted state counted
    → ListsOnce (length counted.counts.ready) (λ i. get_or counted.counts.ready i false && not counted.stopped && nat_lt (count_by (λ runs. runs) counted.counts.running) (state.policy.width + counted.lanes.spare)) xs → ListsOnce (size state) (may_start state) xs
ready_listed state counted xs reached are listed = lists_alike (size state) _ (may_start state) xs (λ i within. starts_is state counted i reached are within)
    (subst (λ n. ListsOnce n (λ i. get_or counted.counts.ready i false && not counted.stopped && nat_lt (count_by (λ runs. runs) counted.counts.running) (state.policy.width + counted.lanes.spare)) xs) are.counts.ready.entries.ready listed)

-- the positions that run are listed
pub running_listed : (state : State) (counted : Progress) (xs : List ℕ) → IsReached state → IsCounted state counted → ListsOnce (length counted.counts.running) (λ i. get_or counted.counts.running i false) xs → ListsOnce (size state) (λ i. is_running (phase_at state i)) xs
running_listed state counted xs reached are listed = lists_alike (size state) _ _ xs (λ i within. runs_is state counted i are)
    (subst (λ n. ListsOnce n (λ i. get_or counted.counts.running i false) xs) (ap length are.counts.running ∙ length-map state.phases is_running ∙ reached.each) listed)

-- of an empty set no position is a member
none_in : (members : List Bool) (i : ℕ) → (count_by (λ b. b) members == 0) ≡ true → get_or members i false ≡ false
none_in members i none = elim (cases_lt i (length members)) [
  | inl within ↦ false_from_ne_true _ (λ has. both_ways _ (not-true _ (sym (none_pass (λ b. b) members false) ∙ none)) ((any_below-Decides (length members) (λ k. get_or members k false)).1 (i, within, has)))
  | inr past ↦ get_or_past members i false past
]

-- a set of which no position is a member is empty
empty_from : (members : List Bool) → ((i : ℕ) → i < length members → get_or members i false ≡ false) → (count_by (λ b. b) members == 0) ≡ true
empty_from members none = eq-eqb _ 0 (count_none (λ b. b) members (λ k d within. get_or_default members k d false within ∙ none k within))

-- nothing runs, and the run was stopped or nothing is ready, exactly when the run is finished
pub finished_is : (state : State) (counted : Progress) → IsReached state → IsCounted state counted → ((count_by (λ runs. runs) counted.counts.running == 0) && (counted.stopped || (count_by (λ ready. ready) counted.counts.ready == 0))) ≡ is_finished state
finished_is state counted reached are = same_test _ _
    (λ over. let parts = and_parts (count_by (λ runs. runs) counted.counts.running == 0) _ over in (finished_idle state reached).1 (λ i within. (bars i within parts.1, sym (runs_is state counted i are) ∙ none_in counted.counts.running i parts.0)))
    (λ finished. let idle = (finished_idle state reached).0 finished in and_from _ _ (still idle) (waits idle (cases_Bool counted.stopped)))
  where
    bars : (i : ℕ) → i < size state → (counted.stopped || (count_by (λ ready. ready) counted.counts.ready == 0)) ≡ true → may_start state i ≡ false
    bars i within over = sym (starts_is state counted i reached are within) ∙ elim (or_cases counted.stopped _ over) [
      | inl stopped ↦ and_left _ _ (and_right _ _ (not_from_true _ stopped))
      | inr none ↦ and_left _ _ (and_left _ _ (none_in counted.counts.ready i none))
    ]

    still : ((i : ℕ) → i < size state → (may_start state i ≡ false) × (is_running (phase_at state i) ≡ false)) → (count_by (λ runs. runs) counted.counts.running == 0) ≡ true
    still idle = empty_from counted.counts.running (λ i within. runs_is state counted i are ∙ (idle i (subst (λ n. i < n) (ap length are.counts.running ∙ length-map state.phases is_running ∙ reached.each) within)).1)

    waits : ((i : ℕ) → i < size state → (may_start state i ≡ false) × (is_running (phase_at state i) ≡ false)) → (counted.stopped ≡ true) ⊎ (counted.stopped ≡ false) → (counted.stopped || (count_by (λ ready. ready) counted.counts.ready == 0)) ≡ true
    waits idle (inl stopped) = or_left _ _ stopped
    waits idle (inr unstopped) = or_right _ _ (empty_from counted.counts.ready (λ i inside. false_from_ne_true _ (λ ready.
        let within : i < size state = subst (λ n. i < n) are.counts.ready.entries.ready inside in
        both_ways _ (idle i within).0 (sym (starts_is state counted i reached are within) ∙ rw (ready, unstopped, eqb-true _ _ (still idle)) (lt-ltb 0 (state.policy.width + counted.lanes.spare) (let wide : 0 < state.policy.width = state.policy.wide in omega arith))))))
