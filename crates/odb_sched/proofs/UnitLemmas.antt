-- Units that are performed as a whole do not get stuck.
use Rattle.std.proofs.Common.{◌≡◌, ◌⊎◌, ℕ, ◌<◌, ◌≤◌, ◌==◌, ◌∙◌, refl, subst, arith, Bool, true, false, not, ◌||◌, lt-ltb, eq-eqb, eqb-true, inl, inr, Contains}
use Rattle.std.proofs.lemmas.Bool.{cases_Bool, cases_eq, cases_lt, both_ways, and_from, not_from_false, or_left, or_cases, or_parts, false_from_ne_true, not-false}
use Rattle.odb_check.specs.declared.need.Need.{Need}
use Rattle.odb_check.specs.declared.need.Need.TheVariants.{One, Group}
use Rattle.odb_check.specs.Firsts.{any_below}
use Rattle.odb_check.specs.PlanGraph.{IsPlan, unit_of, needs_of, unit_needed}
use Rattle.odb_sched.specs.run.State.{State, is_running, is_reported, size, phase_at}
use Rattle.odb_sched.specs.run.Steps.{is_satisfied, unit_failed, running_count, places}
use Rattle.odb_sched.specs.run.Units.{outer_satisfied, has_begun, IsOver, FirstNeedsNothing, HasNextUnit, UnitsGoOn}
use Rattle.odb_sched.specs.invariants.Kept.{IsReached}
use Rattle.odb_sched.proofs.BelowLemmas.{any_below-Decides, all_below-Decides, first_false, list_all-from}
use Rattle.odb_sched.proofs.FailingLemmas.{earlier_unit}
use Rattle.odb_sched.proofs.OuterLemmas.{outer-from, outer-each}
use Rattle.odb_sched.proofs.PhaseLemmas.{is_unstarted-from}
use Rattle.odb_sched.proofs.SatisfiedLemmas.{succeeded_in-from}
use Rattle.odb_sched.proofs.StartLemmas.{may_start-from, some_places}
use Rattle.odb_sched.proofs.StuckLemmas.{is_over, none_counted, over_succeeded, sound_needed, unfinished_parts}

-- what is needed of a unit that is over and has not failed is satisfied
over_satisfied : (state : State) (i : ℕ) (need : Need) → IsPlan state.plan_graph → i < size state → Contains (needs_of state.plan_graph i) need → IsOver state (unit_needed (unit_of state.plan_graph) need) → unit_failed state (unit_needed (unit_of state.plan_graph) need) ≡ false
    → is_satisfied state need ≡ true
over_satisfied state i (One r) laws within has over sound =
    let earlier : r < i = laws.earlier i (One r) within has in
    over_succeeded state r laws (omega arith) (or_left _ _ (over r (omega arith) refl)) sound
over_satisfied state i (Group u) laws within has over sound =
    succeeded_in-from state.plan_graph state.phases u (λ j inside here. over_succeeded state j laws inside (or_left _ _ (over j inside here)) (rw here sound))

pub first_needs_nothing : (state : State) → IsReached state → FirstNeedsNothing state
first_needs_nothing state reached u within sound before =
    outer-from state.plan_graph u (is_satisfied state) (λ i need inside here has other.
    let good : unit_failed state (unit_needed (unit_of state.plan_graph) need) ≡ false = sound_needed state i need reached.laws inside has (rw here sound) in
    let earlier : unit_needed (unit_of state.plan_graph) need < unit_of state.plan_graph i = earlier_unit state.plan_graph i need reached.laws inside has (λ same. other (same ∙ here)) in
    elim (before (unit_needed (unit_of state.plan_graph) need) (omega (arith, earlier, here))) [
      | inl over ↦ over_satisfied state i need reached.laws inside has over good
      | inr failed ↦ absurd (both_ways _ good failed)
    ])

-- a request is of another unit, or has reported
abbrev passes : State → ℕ → ℕ → Bool
passes state u j = not (unit_of state.plan_graph j == u) || is_reported (phase_at state j)

not_member_or : (a b : Bool) → a ≡ true → (not a || b) ≡ true → b ≡ true
not_member_or true b e h = h
not_member_or false b e h = absurd (both_ways false refl e)

-- of the members that have not reported, the first needs nothing more of its own unit
inner_satisfied : (state : State) (u j : ℕ) (need : Need) → IsPlan state.plan_graph → j < size state → unit_of state.plan_graph j ≡ u → unit_failed state u ≡ false → ((k : ℕ) → k < j → passes state u k ≡ true) → Contains (needs_of state.plan_graph j) need
    → unit_needed (unit_of state.plan_graph) need ≡ u → is_satisfied state need ≡ true
inner_satisfied state u j (One r) laws within here sound before has own =
    let earlier : r < j = laws.earlier j (One r) within has in
    over_succeeded state r laws (omega arith) (or_left _ _ (not_member_or _ _ (eq-eqb _ _ own) (before r earlier))) (rw own sound)
inner_satisfied state u j (Group v) laws within here sound before has own =
    let earlier : v < unit_of state.plan_graph j = laws.earlier j (Group v) within has in
    absurd (omega (arith, earlier, here, own))

pub units_go_on : (state : State) → IsReached state → UnitsGoOn state
units_go_on state reached i within idle sound satisfied going room =
    let u : ℕ = unit_of state.plan_graph i in
    let (j, first) = first_false (size state) (passes state u) (false_from_ne_true _ (λ all. both_ways _ idle (not_member_or _ _ (eq-eqb u u refl) ((all_below-Decides (size state) (passes state u)).0 all i within)))) in
    let parts = or_parts (not (unit_of state.plan_graph j == u)) (is_reported (phase_at state j)) first.fails in
    let here : unit_of state.plan_graph j ≡ u = eqb-true _ _ (not-false _ parts.0) in (
      j,
      first.below,
      here,
      elim (cases_Bool (is_running (phase_at state j))) [
        | inl runs ↦ inl runs
        | inr rests ↦ inr (may_start-from state j (record {
          fresh = is_unstarted-from (phase_at state j) parts.1 rests;
          unstopped = going;
          sound = rw here sound;
          satisfied = list_all-from (is_satisfied state) (needs_of state.plan_graph j) (λ need has. elim (cases_eq (unit_needed (unit_of state.plan_graph) need) u) [
            | inl own ↦ inner_satisfied state u j need reached.laws first.below here sound first.before has own
            | inr other ↦ outer-each state.plan_graph u j need (is_satisfied state) satisfied first.below here has other
          ]);
          room = room;
        }))
      ],
    )

-- of a unit all of whose members are over each has reported, unless the unit has failed
over_or_failed : (state : State) (v : ℕ) → ((j : ℕ) → j < size state → unit_of state.plan_graph j ≡ v → is_over state j ≡ true) → IsOver state v ⊎ (unit_failed state v ≡ true)
over_or_failed state v over = elim (cases_Bool (unit_failed state v)) [
  | inl failed ↦ inr failed
  | inr sound ↦ inl (λ j inside here. elim (or_cases (is_reported (phase_at state j)) (unit_failed state (unit_of state.plan_graph j)) (over j inside here)) [
    | inl reported ↦ reported
    | inr failed ↦ absurd (both_ways _ sound (subst (λ w. unit_failed state w ≡ true) here failed))
  ])
]

pub has_next_unit : (state : State) → IsReached state → HasNextUnit state
has_next_unit state reached unfinished idle settled =
    let none : any_below (size state) (λ i. is_running (phase_at state i)) ≡ false =
    false_from_ne_true _ (λ some. let (i, within, runs) = (any_below-Decides (size state) (λ i. is_running (phase_at state i))).0 some in both_ways _ (idle i within) runs) in
    let parts = unfinished_parts state unfinished none in
    let (i, first) = first_false (size state) (is_over state) parts.1 in
    let left = or_parts (is_reported (phase_at state i)) (unit_failed state (unit_of state.plan_graph i)) first.fails in
    let u : ℕ = unit_of state.plan_graph i in
    let inside : u < state.plan_graph.unit_count = reached.laws.counted i first.below in
    let count : running_count state ≡ 0 = none_counted state reached.each none in
    let wide : 0 < places state = some_places state in
    let fresh : has_begun state u ≡ false = false_from_ne_true _ (λ begun. elim (settled u inside begun) [
      | inl over ↦ both_ways _ left.0 (over i first.below refl)
      | inr failed ↦ both_ways _ left.1 failed
    ]) in
    let satisfied : outer_satisfied state u ≡ true = first_needs_nothing state reached u inside left.1 (λ v before. over_or_failed state v (λ j within here. elim (cases_lt j i) [
      | inl earlier ↦ first.before j earlier
      | inr later ↦ let ordered : u ≤ unit_of state.plan_graph j = reached.laws.in_order i j later within in absurd (omega (arith, ordered, before, here))
    ])) in
    (u, inside, and_from _ _ (and_from _ _ (and_from _ _ (and_from _ _ (not_from_false _ fresh) (not_from_false _ parts.0)) (not_from_false _ left.1)) satisfied) (lt-ltb _ _ (rw count wide)))
