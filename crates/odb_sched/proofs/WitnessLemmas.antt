-- Possible statuses are those of some run: how each request ends in it, and that it is answered so.
use Rattle.std.proofs.Common.{◌≡◌, ◌≢◌, ℕ, zero, suc, ◌<◌, ◌≤◌, ◌==◌, ◌∙◌, sym, refl, ap, subst, arith, Bool, true, false, not, ◌&&◌, ◌||◌, eq-eqb, ne_eqb, eqb-true, List, [], ◌∷◌, length, get_or, inl, inr, ◌⊎◌, Some, None, Contains, IsTrue, le_refl}
use Rattle.std.specs.List.{list_all}
use Rattle.std.proofs.lemmas.Bool.{cases_Bool, cases_eq, both_ways, and_from, and_parts, or_left, or_right, or_parts, not-true, not-false, not_from_false, false_from_ne_true, true_from_ne_false, eqb-false, true≢false}
use Rattle.odb_doc.specs.declared.recorded.outcome.Outcome.{Outcome}
use Rattle.odb_doc.specs.Statuses.{is_success, is_status}
use Rattle.odb_doc.proofs.ElementLemmas.{Contains-head, Contains-tail}
use Rattle.odb_check.specs.Firsts.{any_below, all_below}
use Rattle.odb_check.specs.declared.need.Need.{Need}
use Rattle.odb_check.specs.declared.need.Need.TheVariants.{One, Group}
use Rattle.odb_check.specs.declared.plan.Plan.{Plan}
use Rattle.odb_check.specs.PlanGraph.{PlanGraph, IsPlan, unit_of, needs_of}
use Rattle.odb_sched.specs.declared.policy.Mode.{Mode}
use Rattle.odb_sched.specs.declared.policy.Policy.{Policy}
use Rattle.odb_sched.specs.declared.phase.Phase.{Phase}
use Rattle.odb_sched.specs.declared.phase.Phase.TheVariants.{Unstarted, Reported}
use Rattle.odb_sched.specs.run.State.{State, size, plan_graph, initial, is_unstarted, is_running, is_reported, has_succeeded, has_failed}
use Rattle.odb_sched.specs.run.Failing.{Fails, own, propagated}
use Rattle.odb_sched.specs.run.Steps.{succeeded_in, failed_in, is_stopped, is_finished}
use Rattle.odb_sched.specs.run.Runs.{state_after}
use Rattle.odb_sched.specs.run.Answers.{answer_of, answer, status_of, outcome_of}
use Rattle.odb_sched.specs.run.Possible.{CanHaveSucceeded, IsPossible, HasRun}
use Rattle.odb_sched.proofs.BelowLemmas.{any_below-Decides, all_below-Decides, first_false, list_all-each}
use Rattle.odb_sched.proofs.FailingLemmas.{earlier_unit, fails-from_Fails, Fails-as}
use Rattle.odb_sched.proofs.PhaseLemmas.{get_or-replicate_Unstarted}
use Rattle.odb_sched.proofs.SatisfiedLemmas.{member_succeeded, succeeded_in-from}
use Rattle.odb_sched.proofs.PossibleLemmas.{answered, possible_run}
use Rattle.odb_sched.proofs.ReachableLemmas.{HasIn, IsEnd, Reaches, HasEnds, reaches}
use Rattle.odb_sched.proofs.RunLemmas.{reached_initial, plan_graph-after_all}

-- an outcome of a status alone
abbrev pub bare : ℕ → Outcome
bare status = record { status = status; headers = []; body = None }

-- how a request ends, by whether it is answered 424, whether a member of its unit is answered a failure of its own, whether it
-- can have started, whether what it needs is answered 200 to 299, and by its status
abbrev pub end_by : Bool → Bool → Bool → Bool → ℕ → Phase
end_by false divided started met status = Reported (bare status)
end_by true true true met status = Reported (bare 200)
end_by true true false met status = Unstarted
end_by true false started true status = Reported (bare 424)
end_by true false started false status = Unstarted

over_by : (undone divided started met : Bool) (status : ℕ) → is_running (end_by undone divided started met status) ≡ false
over_by false divided started met status = refl
over_by true true true met status = refl
over_by true true false met status = refl
over_by true false started true status = refl
over_by true false started false status = refl

status_by : (undone divided started met : Bool) (status : ℕ) (outcome : Outcome) → is_status status ≡ true → outcome_of (end_by undone divided started met status) ≡ Some outcome → is_status outcome.status ≡ true
status_by false divided started met status outcome sound e = subst (λ found. IsTrue (is_status (status_of found))) e sound
status_by true true true met status outcome sound e = subst (λ found. IsTrue (is_status (status_of found))) e refl
status_by true true false met status outcome sound e = subst (λ found. IsTrue (is_status (status_of found))) e refl
status_by true false started true status outcome sound e = subst (λ found. IsTrue (is_status (status_of found))) e refl
status_by true false started false status outcome sound e = subst (λ found. IsTrue (is_status (status_of found))) e refl

-- of a list not all of which pass, one does not
one_fails : {X : Type 0} (test : X → Bool) (xs : List X) → list_all test xs ≡ false → (x : X) × Contains xs x × (test x ≡ false)
one_fails test [] e = absurd (true≢false e)
one_fails test (x ∷ xs) e = elim (cases_Bool (test x)) [
  | inr fails ↦ (x, Contains-head x xs, fails)
  | inl passes ↦
      let (y, has, fails) = one_fails test xs (sym (rw passes refl) ∙ e) in
      (y, Contains-tail x y xs has, fails)
]

module _ (plan : PlanGraph) (statuses : ℕ → ℕ) (laws : IsPlan plan) (possible : IsPossible plan statuses) where
  -- what is needed is answered 200 to 299
  abbrev pub is_met : Need → Bool
  is_met (One r) = is_success (statuses r)
  is_met (Group u) = all_below (length plan.units) (λ j. not (unit_of plan j == u) || is_success (statuses j))

  -- the request is of the unit, and is answered a failure of its own
  abbrev is_own_failure : ℕ → ℕ → Bool
  is_own_failure u j = (unit_of plan j == u) && (not (is_success (statuses j)) && not (statuses j == 424))

  abbrev pub is_divided : ℕ → Bool
  is_divided u = any_below (length plan.units) (is_own_failure u)

  abbrev pub end_of : ℕ → Phase
  end_of i = end_by (statuses i == 424) (is_divided (unit_of plan i)) (possible.started i) (list_all is_met (needs_of plan i)) (statuses i)

  divided-from : (u j : ℕ) → j < length plan.units → unit_of plan j ≡ u → is_success (statuses j) ≡ false → statuses j ≢ 424 → is_divided u ≡ true
  divided-from u j within here poor other = (any_below-Decides (length plan.units) (is_own_failure u)).1 (j, within, and_from _ _ (eq-eqb _ _ here) (and_from _ _ (not_from_false _ poor) (not_from_false _ (ne_eqb _ _ other))))

  pub divided-at : (u : ℕ) → is_divided u ≡ true → (j : ℕ) × (j < length plan.units) × (unit_of plan j ≡ u) × (is_success (statuses j) ≡ false) × (statuses j ≢ 424)
  divided-at u divided =
      let (j, within, e) = (any_below-Decides (length plan.units) (is_own_failure u)).0 divided in
      let (here, failed) = and_parts (unit_of plan j == u) (not (is_success (statuses j)) && not (statuses j == 424)) e in
      let (poor, other) = and_parts (not (is_success (statuses j))) (not (statuses j == 424)) failed in
      (j, within, eqb-true _ _ here, not-true _ poor, eqb-false _ _ (not-true _ other))

  -- ---- the ends

  itself : (i : ℕ) → statuses i ≢ 424 → end_of i ≡ Reported (bare (statuses i))
  itself i other = rw (ne_eqb (statuses i) 424 other) refl

  undone_at : (i : ℕ) → statuses i ≡ 424 → is_divided (unit_of plan i) ≡ true → possible.started i ≡ true → end_of i ≡ Reported (bare 200)
  undone_at i same divided started = rw (eq-eqb (statuses i) 424 same, divided, started) refl

  never_at : (i : ℕ) → statuses i ≡ 424 → is_divided (unit_of plan i) ≡ true → possible.started i ≡ false → end_of i ≡ Unstarted
  never_at i same divided idle = rw (eq-eqb (statuses i) 424 same, divided, idle) refl

  pub failed_at : (i : ℕ) → statuses i ≡ 424 → is_divided (unit_of plan i) ≡ false → list_all is_met (needs_of plan i) ≡ true → end_of i ≡ Reported (bare 424)
  failed_at i same whole met = rw (eq-eqb (statuses i) 424 same, whole, met) refl

  pub unmet_at : (i : ℕ) → statuses i ≡ 424 → is_divided (unit_of plan i) ≡ false → list_all is_met (needs_of plan i) ≡ false → end_of i ≡ Unstarted
  unmet_at i same whole unmet = rw (eq-eqb (statuses i) 424 same, whole, unmet) refl

  not_undone : (i : ℕ) → is_success (statuses i) ≡ true → statuses i ≢ 424
  not_undone i good same = both_ways (is_success (statuses i)) (ap is_success same) good

  pub good_at : (i : ℕ) → is_success (statuses i) ≡ true → has_succeeded (end_of i) ≡ true
  good_at i good = ap has_succeeded (itself i (not_undone i good)) ∙ good

  -- ---- what has started has what it needs

  -- a request that has started, of a unit in which a failure is answered
  own_need : (i r : ℕ) → i < length plan.units → r < length plan.units → unit_of plan r ≡ unit_of plan i → statuses r ≡ 424 → (statuses i ≢ 424) ⊎ (is_divided (unit_of plan i) ≡ true) → is_divided (unit_of plan r) ≡ true
  own_need i r within inside same undone (inr divided) = ap is_divided same ∙ divided
  own_need i r within inside same undone (inl other) = elim (cases_Bool (is_success (statuses i))) [
    | inl good ↦ absurd (not_undone r (possible.all_or_none i r within inside (sym same) good) undone)
    | inr poor ↦ divided-from (unit_of plan r) i within (sym same) poor other
  ]

  has_by_start : (i : ℕ) (need : Need) → i < length plan.units → possible.started i ≡ true → (statuses i ≢ 424) ⊎ (is_divided (unit_of plan i) ≡ true) → Contains (needs_of plan i) need → HasIn plan end_of need
  has_by_start i need within started why has = by_need need has (possible.can_have i need within started has)
    where
      by_need : (need : Need) → Contains (needs_of plan i) need → CanHaveSucceeded plan statuses possible.started i need → HasIn plan end_of need
      by_need (One r) has (inl good) = good_at r good
      by_need (One r) has (inr (same, begun, undone)) =
          let earlier : r < i = laws.earlier i (One r) within has in
          ap has_succeeded (undone_at r undone (own_need i r within (omega (arith, earlier, within)) same undone why) begun)
      by_need (Group u) has good = λ j inside here. good_at j (good j inside here)

  has_if_met : (need : Need) → is_met need ≡ true → HasIn plan end_of need
  has_if_met (One r) good = good_at r good
  has_if_met (Group u) good = λ j inside here. good_at j (member (unit_of plan j == u) (is_success (statuses j)) ((all_below-Decides (length plan.units) (λ k. not (unit_of plan k == u) || is_success (statuses k))).0 good j inside) (eq-eqb _ _ here))
    where
      member : (a b : Bool) → (not a || b) ≡ true → a ≡ true → b ≡ true
      member true b e h = e
      member false b e h = absurd (true≢false (sym h))

  has_needs : (i : ℕ) (need : Need) → i < length plan.units → is_unstarted (end_of i) ≡ false → Contains (needs_of plan i) need → HasIn plan end_of need
  has_needs i need within begun has = elim (cases_eq (statuses i) 424) [
    | inr other ↦ has_by_start i need within (true_from_ne_false _ (λ idle. other (possible.others i within idle))) (inl other) has
    | inl same ↦ elim (cases_Bool (is_divided (unit_of plan i))) [
      | inl divided ↦ elim (cases_Bool (possible.started i)) [
        | inl started ↦ has_by_start i need within started (inr divided) has
        | inr idle ↦ absurd (both_ways _ begun (ap is_unstarted (never_at i same divided idle)))
      ]
      | inr whole ↦ elim (cases_Bool (list_all is_met (needs_of plan i))) [
        | inl met ↦ has_if_met need (list_all-each is_met (needs_of plan i) need met has)
        | inr unmet ↦ absurd (both_ways _ begun (ap is_unstarted (unmet_at i same whole unmet)))
      ]
    ]
  ]

  pub is_end : IsEnd plan end_of
  is_end = record {
    over = λ i. over_by (statuses i == 424) (is_divided (unit_of plan i)) (possible.started i) (list_all is_met (needs_of plan i)) (statuses i);
    statuses = λ i outcome within e. status_by (statuses i == 424) (is_divided (unit_of plan i)) (possible.started i) (list_all is_met (needs_of plan i)) (statuses i) outcome (possible.final i within) e;
    needs = has_needs;
  }

  -- ---- a unit that is not answered 200 to 299 fails

  -- the request ends with a failure
  abbrev pub is_bad : ℕ → Bool
  is_bad i = has_failed (end_of i)

  -- the first member of a unit
  first_member : (u k : ℕ) → k < length plan.units → unit_of plan k ≡ u → (f : ℕ) × (f ≤ k) × (unit_of plan f ≡ u) × ((j : ℕ) → j < f → unit_of plan j ≢ u)
  first_member u zero within here = (zero, le_refl zero, here, (λ j before. absurd (omega (arith, before))))
  first_member u (suc k) within here = elim (cases_eq (unit_of plan k) u) [
    | inl same ↦
        let (f, below, is, first) = first_member u k (omega (arith, within)) same in
        (f, omega (arith, below), is, first)
    | inr other ↦ (
      suc k,
      le_refl (suc k),
      here,
      (λ j before same.
          let up : unit_of plan j ≤ unit_of plan k = laws.in_order j k (omega (arith, before)) (omega (arith, within)) in
          let on : unit_of plan k ≤ unit_of plan (suc k) = laws.in_order k (suc k) (omega arith) within in
          other (omega (arith, up, on, same, here))),
    )
  ]

  pub fails_at : (fuel i : ℕ) → i < length plan.units → unit_of plan i < fuel → is_success (statuses i) ≡ false → Fails plan is_bad (unit_of plan i)
  fails_at zero i within short poor = absurd (omega (arith, short))
  fails_at (suc fuel) i within short poor = elim (cases_Bool (is_divided (unit_of plan i))) [
    | inl divided ↦ by_member (divided-at (unit_of plan i) divided)
    | inr whole ↦ by_first (fails_at fuel) whole (first_member (unit_of plan i) i within refl)
  ]
    where
      Below : Type 0
      Below = (j : ℕ) → j < length plan.units → unit_of plan j < fuel → is_success (statuses j) ≡ false → Fails plan is_bad (unit_of plan j)

      by_member : (j : ℕ) × (j < length plan.units) × (unit_of plan j ≡ unit_of plan i) × (is_success (statuses j) ≡ false) × (statuses j ≢ 424) → Fails plan is_bad (unit_of plan i)
      by_member (j, inside, here, bad, other) = subst (Fails plan is_bad) here (own j inside (ap has_failed (itself j other) ∙ not_from_false _ bad))

      by_need : Below → (f : ℕ) → f < length plan.units → unit_of plan f ≡ unit_of plan i → ((j : ℕ) → j < f → unit_of plan j ≢ unit_of plan i) → (need : Need) → Contains (needs_of plan f) need → is_met need ≡ false → Fails plan is_bad (unit_of plan f)
      by_need below f inside here first (One r) has unmet =
          let earlier : r < f = laws.earlier f (One r) inside has in
          let apart : unit_of plan r ≢ unit_of plan f = λ same. first r earlier (same ∙ here) in
          let lower : unit_of plan r < unit_of plan f = earlier_unit plan f (One r) laws inside has apart in
          propagated f (One r) inside has apart (below r (omega (arith, earlier, inside)) (omega (arith, lower, here, short)) unmet)
      by_need below f inside here first (Group u) has unmet =
          let lower : u < unit_of plan f = laws.earlier f (Group u) inside has in
          let (j, falls) = first_false (length plan.units) (λ k. not (unit_of plan k == u) || is_success (statuses k)) unmet in
          let parts = or_parts (not (unit_of plan j == u)) (is_success (statuses j)) falls.fails in
          let member : unit_of plan j ≡ u = eqb-true _ _ (not-false _ parts.0) in
          propagated f (Group u) inside has (λ same. absurd (omega (arith, lower, same))) (subst (Fails plan is_bad) member (below j falls.below (omega (arith, member, lower, here, short)) parts.1))

      by_first : Below → is_divided (unit_of plan i) ≡ false → (f : ℕ) × (f ≤ i) × (unit_of plan f ≡ unit_of plan i) × ((j : ℕ) → j < f → unit_of plan j ≢ unit_of plan i) → Fails plan is_bad (unit_of plan i)
      by_first earlier whole (f, below, here, first) =
          let inside : f < length plan.units = omega (arith, below, within) in
          let bad : is_success (statuses f) ≡ false = false_from_ne_true _ (λ good. both_ways _ poor (possible.all_or_none f i inside within here good)) in
          let undone : statuses f ≡ 424 = elim (cases_eq (statuses f) 424) [
            | inl same ↦ same
            | inr other ↦ absurd (both_ways _ whole (divided-from (unit_of plan i) f inside here bad other))
          ] in
          let together : is_divided (unit_of plan f) ≡ false = ap is_divided here ∙ whole in
          subst (Fails plan is_bad) here (elim (cases_Bool (list_all is_met (needs_of plan f))) [
            | inl met ↦ own f inside (ap has_failed (failed_at f undone together met))
            | inr unmet ↦ let (need, has, fails) = one_fails is_met (needs_of plan f) unmet in by_need earlier f inside here first need has fails
          ])

  -- ---- the answers, and the end of the run

  -- a request has come to an end, or is not answered 200 to 299
  pub over_or_failed : (i : ℕ) → (is_reported (end_of i) ≡ true) ⊎ (is_success (statuses i) ≡ false)
  over_or_failed i = elim (cases_eq (statuses i) 424) [
    | inl same ↦ inr (ap is_success same)
    | inr other ↦ inl (ap is_reported (itself i other))
  ]

  module _ (phases : List Phase) (at_ends : (i : ℕ) → i < length plan.units → get_or phases i Unstarted ≡ end_of i) where
    pub answer_at : (i : ℕ) → i < length plan.units → status_of (answer_of (get_or phases i Unstarted) (succeeded_in plan phases (unit_of plan i))) ≡ statuses i
    answer_at i within = rw (at_ends i within) (by_status (cases_eq (statuses i) 424) (cases_Bool (is_success (statuses i))))
      where
        whole : is_success (statuses i) ≡ true → succeeded_in plan phases (unit_of plan i) ≡ true
        whole good = succeeded_in-from plan phases (unit_of plan i) (λ j inside here. ap has_succeeded (at_ends j inside) ∙ good_at j (possible.all_or_none i j within inside (sym here) good))

        parted : is_divided (unit_of plan i) ≡ true → succeeded_in plan phases (unit_of plan i) ≡ false
        parted divided = false_from_ne_true _ (λ all.
            let (j, inside, here, poor, other) = divided-at (unit_of plan i) divided in
            both_ways (is_success (statuses j)) poor (sym (ap has_succeeded (itself j other)) ∙ ap has_succeeded (sym (at_ends j inside)) ∙ member_succeeded plan phases (unit_of plan i) j all inside here))

        by_status : (statuses i ≡ 424) ⊎ (statuses i ≢ 424) → (is_success (statuses i) ≡ true) ⊎ (is_success (statuses i) ≡ false) → status_of (answer_of (end_of i) (succeeded_in plan phases (unit_of plan i))) ≡ statuses i
        by_status (inr other) (inl good) = rw (itself i other, good, whole good) refl
        by_status (inr other) (inr poor) = rw (itself i other, poor) refl
        by_status (inl same) success = elim (cases_Bool (is_divided (unit_of plan i))) [
          | inl divided ↦ elim (cases_Bool (possible.started i)) [
            | inl started ↦ rw (undone_at i same divided started, parted divided) (sym same)
            | inr idle ↦ rw (never_at i same divided idle) (sym same)
          ]
          | inr together ↦ elim (cases_Bool (list_all is_met (needs_of plan i))) [
            | inl met ↦ rw (failed_at i same together met) (sym same)
            | inr unmet ↦ rw (unmet_at i same together unmet) (sym same)
          ]
        ]

    fails_in : (i : ℕ) → i < length plan.units → is_success (statuses i) ≡ false → Fails plan (λ j. has_failed (get_or phases j Unstarted)) (unit_of plan i)
    fails_in i within poor = Fails-as plan is_bad (λ j. has_failed (get_or phases j Unstarted)) (unit_of plan i)
        (λ j inside bad. own j inside (ap has_failed (at_ends j inside) ∙ bad))
        (fails_at (suc (unit_of plan i)) i within (omega arith) poor)

-- a run that has come to these ends is finished
finished_at : (plan : PlanGraph) (statuses : ℕ → ℕ) (laws : IsPlan plan) (possible : IsPossible plan statuses) (phases : List Phase) (stopped : Bool) → ((i : ℕ) → i < length plan.units → get_or phases i Unstarted ≡ end_of plan statuses laws possible i)
    → (not (any_below (length plan.units) (λ i. is_running (get_or phases i Unstarted))) && (stopped || all_below (length plan.units) (λ i. is_reported (get_or phases i Unstarted) || failed_in plan phases (unit_of plan i)))) ≡ true
finished_at plan statuses laws possible phases stopped ends = and_from _ _
    (not_from_false _ (false_from_ne_true _ (λ e.
    let (i, within, runs) = (any_below-Decides (length plan.units) (λ j. is_running (get_or phases j Unstarted))).0 e in
    both_ways _ ((is_end plan statuses laws possible).over i) (ap is_running (sym (ends i within)) ∙ runs))))
    (or_right stopped _ ((all_below-Decides (length plan.units) (λ j. is_reported (get_or phases j Unstarted) || failed_in plan phases (unit_of plan j))).1 (λ i within. elim (over_or_failed plan statuses laws possible i) [
      | inl over ↦ or_left _ _ (ap is_reported (ends i within) ∙ over)
      | inr poor ↦ or_right _ _ (fails-from_Fails plan (λ j. has_failed (get_or phases j Unstarted)) (unit_of plan i) laws (fails_in plan statuses laws possible phases ends i within poor))
    ])))

-- the ends in a state whose plan is the same
ends_with : (state : State) (plan : PlanGraph) (statuses : ℕ → ℕ) (laws : IsPlan plan) (possible : IsPossible plan statuses) → state.plan_graph ≡ plan → HasEnds (length plan.units) (end_of plan statuses laws possible) state
    → (is_finished state ≡ true) × ((i : ℕ) → i < length plan.units → status_of (answer state i) ≡ statuses i)
ends_with state plan statuses laws possible same ends = (
  rw same (finished_at plan statuses laws possible state.phases (is_stopped state) ends),
  rw same (answer_at plan statuses laws possible state.phases ends),
)

-- possible statuses are those of a finished run, in each mode
pub has_run : (source : Plan) (mode : Mode) (statuses : ℕ → ℕ) → IsPlan (plan_graph source) → IsPossible (plan_graph source) statuses → HasRun source mode statuses
has_run source mode statuses laws possible =
    let policy : Policy = record { mode = mode; width = 10000; wide = omega arith } in
    let reach : Reaches (initial source policy) (HasEnds (size (initial source policy)) (end_of (plan_graph source) statuses laws possible)) =
    reaches (initial source policy) (end_of (plan_graph source) statuses laws possible) (reached_initial source policy laws) refl refl (get_or-replicate_Unstarted (length (plan_graph source).units)) (is_end (plan_graph source) statuses laws possible) in
    let (finished, answered) = ends_with (state_after source policy reach.events) (plan_graph source) statuses laws possible (plan_graph-after_all (initial source policy) reach.events) reach.holds in
    record { policy = policy; mode_is = refl; events = reach.events; run = reach.run; finished = finished; answered = answered }

-- what can have reported a success can by statuses that are alike
pub can_have_as : (plan : PlanGraph) (statuses others : ℕ → ℕ) (started : ℕ → Bool) (i : ℕ) (need : Need) → IsPlan plan → ((j : ℕ) → j < length plan.units → statuses j ≡ others j) → i < length plan.units → Contains (needs_of plan i) need
    → CanHaveSucceeded plan statuses started i need → CanHaveSucceeded plan others started i need
can_have_as plan statuses others started i (One r) laws same within has can =
    let earlier : r < i = laws.earlier i (One r) within has in
    let inside : r < length plan.units = omega (arith, earlier, within) in
    elim can [
      | inl good ↦ inl (ap is_success (sym (same r inside)) ∙ good)
      | inr (here, begun, undone) ↦ inr (here, begun, sym (same r inside) ∙ undone)
    ]
can_have_as plan statuses others started i (Group u) laws same within has good = λ j inside here. ap is_success (sym (same j inside)) ∙ good j inside here

-- statuses that are alike are possible alike
possible_as : (plan : PlanGraph) (statuses others : ℕ → ℕ) → IsPlan plan → ((i : ℕ) → i < length plan.units → statuses i ≡ others i) → IsPossible plan statuses → IsPossible plan others
possible_as plan statuses others laws same possible = record {
  final = λ i within. ap is_status (sym (same i within)) ∙ possible.final i within;
  all_or_none = λ i j within inside here good. ap is_success (sym (same j inside)) ∙ possible.all_or_none i j within inside here (ap is_success (same i within) ∙ good);
  started = possible.started;
  others = λ i within idle. sym (same i within) ∙ possible.others i within idle;
  can_have = λ i need within started has. can_have_as plan statuses others possible.started i need laws same within has (possible.can_have i need within started has);
}

-- the statuses of a finished run are possible
pub possible-from_run : (source : Plan) (mode : Mode) (statuses : ℕ → ℕ) → IsPlan (plan_graph source) → HasRun source mode statuses → IsPossible (plan_graph source) statuses
possible-from_run source mode statuses laws found =
    possible_as (plan_graph source) (answered (state_after source found.policy found.events)) statuses laws found.answered
    (subst (λ plan. IsPossible plan (answered (state_after source found.policy found.events))) (plan_graph-after_all (initial source found.policy) found.events) (possible_run source found.policy found.events laws found.run))
