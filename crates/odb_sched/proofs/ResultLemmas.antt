-- The answer to a request, and why all orders of events give one result.
use Rattle.std.proofs.Common.{◌≡◌, ℕ, ◌<◌, ◌∙◌, sym, refl, subst, arith, List, [], Option, Bool, true, false, not, ◌&&◌, inl, inr, Some, None, Contains, if◌then◌else◌}
use Rattle.std.proofs.lemmas.Bool.{both_ways, cases_eq, and_parts, and_from, or_cases, false_from_ne_true, not-true, not_from_false}
use Rattle.serde_json.specs.Data.{Data}
use Rattle.odb_doc.specs.declared.recorded.outcome.Outcome.{Outcome}
use Rattle.odb_doc.specs.Headers.{Header}
use Rattle.odb_check.specs.declared.need.Need.{Need}
use Rattle.odb_check.specs.declared.need.Need.TheVariants.{One, Group}
use Rattle.odb_check.specs.PlanGraph.{unit_of, needs_of, unit_needed}
use Rattle.odb_sched.specs.declared.policy.Mode.TheVariants.{Continue}
use Rattle.odb_sched.specs.declared.phase.Phase.{Phase}
use Rattle.odb_sched.specs.declared.phase.Phase.TheVariants.{Unstarted, Running, Reported}
use Rattle.odb_doc.specs.Statuses.{is_success}
use Rattle.odb_sched.specs.run.State.{is_unstarted, is_reported, has_succeeded, has_failed, State, size, phase_at}
use Rattle.odb_sched.specs.run.Failing.{Fails, own, propagated, succeeds}
use Rattle.odb_sched.specs.run.Steps.{is_stopped, is_satisfied, unit_succeeded, unit_failed, is_finished}
use Rattle.odb_sched.specs.run.Answers.{answer_of, answer, is_answered_2xx}
use Rattle.odb_sched.specs.run.Laws.{statuses_of, AgreesInStatus, HasResultByStatuses, Agrees, HasOneResult, AgreesWithTable, IsAllOrNone, RestsOnSuccesses}
use Rattle.odb_sched.specs.invariants.Kept.{IsReached}
use Rattle.odb_sched.proofs.FailingLemmas.{Fails-from_fails, fails-from_Fails, Fails-as}
use Rattle.odb_sched.proofs.PhaseLemmas.{Reported-from, Failed-from, has_succeeded-from}
use Rattle.odb_sched.proofs.SatisfiedLemmas.{member_succeeded, succeeded_in-from}
use Rattle.odb_sched.proofs.StuckLemmas.{finished_parts}

-- the table has no success for the request
abbrev is_bad_in : (ℕ → Outcome) → ℕ → Bool
is_bad_in table i = not (is_success (table i).status)

-- a request is answered with a success if it and its unit have succeeded
answered_2xx_is : (phase : Phase) (succeeded : Bool) → is_answered_2xx (answer_of phase succeeded) ≡ (has_succeeded phase && succeeded)
answered_2xx_is Unstarted succeeded = refl
answered_2xx_is Running succeeded = refl
answered_2xx_is (Reported outcome) succeeded = by_tests (is_success outcome.status) succeeded refl
  where
    by_tests : (good whole : Bool) → is_success outcome.status ≡ good → is_answered_2xx (if good && not whole then None else Some outcome) ≡ (good && whole)
    by_tests true true e = e
    by_tests true false e = refl
    by_tests false whole e = e

pub answered-from : (state : State) (i : ℕ) → i < size state → unit_succeeded state (unit_of state.plan_graph i) ≡ true → is_answered_2xx (answer state i) ≡ true
answered-from state i within whole = answered_2xx_is (phase_at state i) _ ∙ and_from _ _ (member_succeeded state.plan_graph state.phases (unit_of state.plan_graph i) i whole within refl) whole

pub answered-unit : (state : State) (i : ℕ) → is_answered_2xx (answer state i) ≡ true → unit_succeeded state (unit_of state.plan_graph i) ≡ true
answered-unit state i e = (and_parts (has_succeeded (phase_at state i)) (unit_succeeded state (unit_of state.plan_graph i)) (sym (answered_2xx_is (phase_at state i) _) ∙ e)).1

pub all_or_none : (state : State) → IsAllOrNone state
all_or_none state i j within inside same e = answered-from state j inside (rw (← same) (answered-unit state i e))

-- what has succeeded has started
begun : (phase : Phase) → has_succeeded phase ≡ true → is_unstarted phase ≡ false
begun phase e = rw (Reported-from phase e).1 refl

-- what a member of a unit that has succeeded needs of its own unit has succeeded
own_satisfied : (state : State) (i : ℕ) (need : Need) → IsReached state → i < size state → unit_succeeded state (unit_of state.plan_graph i) ≡ true → Contains (needs_of state.plan_graph i) need → unit_needed (unit_of state.plan_graph) need ≡ unit_of state.plan_graph i → is_satisfied state need ≡ true
own_satisfied state i (One r) reached within whole has inner =
    let earlier : r < i = reached.laws.earlier i (One r) within has in
    member_succeeded state.plan_graph state.phases (unit_of state.plan_graph i) r whole (omega arith) inner
own_satisfied state i (Group u) reached within whole has inner =
    let earlier : u < unit_of state.plan_graph i = reached.laws.earlier i (Group u) within has in
    absurd (omega (arith, earlier, inner))

-- the needs of a member of a unit that has succeeded are satisfied
satisfied_of : (state : State) (i : ℕ) (need : Need) → IsReached state → i < size state → unit_succeeded state (unit_of state.plan_graph i) ≡ true → Contains (needs_of state.plan_graph i) need → is_satisfied state need ≡ true
satisfied_of state i need reached within whole has = elim (cases_eq (unit_needed (unit_of state.plan_graph) need) (unit_of state.plan_graph i)) [
  | inl inner ↦ own_satisfied state i need reached within whole has inner
  | inr other ↦ reached.needs i need within (begun (phase_at state i) (member_succeeded state.plan_graph state.phases (unit_of state.plan_graph i) i whole within refl)) has other
]

-- the unit that a member of a succeeded unit needs has succeeded
unit_satisfied : (state : State) (i : ℕ) (need : Need) → IsReached state → i < size state → unit_succeeded state (unit_of state.plan_graph i) ≡ true → Contains (needs_of state.plan_graph i) need → unit_succeeded state (unit_needed (unit_of state.plan_graph) need) ≡ true
unit_satisfied state i (One r) reached within whole has = elim (reached.laws.listed i r within has) [
  | inl same ↦ rw same whole
  | inr (inl alone) ↦ succeeded_in-from state.plan_graph state.phases (unit_of state.plan_graph r) (λ j inside here. rw (alone j inside here) (satisfied_of state i (One r) reached within whole has))
  | inr (inr group) ↦ satisfied_of state i (Group (unit_of state.plan_graph r)) reached within whole group
]
unit_satisfied state i (Group u) reached within whole has = satisfied_of state i (Group u) reached within whole has

pub rests_on_successes : (state : State) → IsReached state → RestsOnSuccesses state
rests_on_successes state reached i within e =
    let whole = answered-unit state i e in (
      (λ r has.
          let earlier : r < i = reached.laws.earlier i (One r) within has in
          answered-from state r (omega arith) (unit_satisfied state i (One r) reached within whole has)),
      (λ u j has inside here. answered-from state j inside (rw here (unit_satisfied state i (Group u) reached within whole has))),
    )

-- the table has what a request that has succeeded has reported
good_in_table : (state : State) (table : ℕ → Outcome) (i : ℕ) → Agrees state table → i < size state → has_succeeded (phase_at state i) ≡ true → (is_success (table i).status ≡ true) × (phase_at state i ≡ Reported (table i))
good_in_table state table i agrees within done =
    let (outcome, at, good) = Reported-from (phase_at state i) done in
    let same : outcome ≡ table i = agrees i outcome within at in
    (rw (← same) good, rw (← same) at)

-- a unit that has succeeded does not fail under the table
succeeded_sound : (state : State) (table : ℕ → Outcome) (u : ℕ) → IsReached state → Agrees state table → Fails state.plan_graph (is_bad_in table) u → unit_succeeded state u ≡ true → ⊥
succeeded_sound state table _ reached agrees (own i within bad) whole =
    both_ways _ (not-true _ bad) (good_in_table state table i agrees within (member_succeeded state.plan_graph state.phases (unit_of state.plan_graph i) i whole within refl)).0
succeeded_sound state table _ reached agrees (propagated i need within has other failing) whole =
    succeeded_sound state table (unit_needed (unit_of state.plan_graph) need) reached agrees failing (unit_satisfied state i need reached within whole has)

pub succeeds-from : (state : State) (table : ℕ → Outcome) (u : ℕ) → IsReached state → Agrees state table → unit_succeeded state u ≡ true → succeeds state.plan_graph (statuses_of table) u ≡ true
succeeds-from state table u reached agrees whole = not_from_false _ (false_from_ne_true _ (λ failing. succeeded_sound state table u reached agrees (Fails-from_fails state.plan_graph (is_bad_in table) u failing) whole))

pub agrees_with_table : (state : State) → IsReached state → AgreesWithTable state
agrees_with_table state reached table agrees i within e =
    let whole = answered-unit state i e in
    let (good, at) = good_in_table state table i agrees within (member_succeeded state.plan_graph state.phases (unit_of state.plan_graph i) i whole within refl) in
    (succeeds-from state table (unit_of state.plan_graph i) reached agrees whole, rw (whole, at) (kept (is_success (table i).status)))
  where
    kept : (good : Bool) → (if good && not true then None else Some (table i)) ≡ Some (table i)
    kept true = refl
    kept false = refl

-- a unit that has failed in a run fails under the table
failed_sound : (state : State) (table : ℕ → Outcome) (u : ℕ) → Agrees state table → unit_failed state u ≡ true → Fails state.plan_graph (is_bad_in table) u
failed_sound state table u agrees failed = Fails-as state.plan_graph (λ i. has_failed (phase_at state i)) (is_bad_in table) u
    (λ i within bad.
    let (outcome, at, poor) = Failed-from (phase_at state i) bad in
    let same : outcome ≡ table i = agrees i outcome within at in
    own i within (rw (← same) poor))
    (Fails-from_fails state.plan_graph (λ i. has_failed (phase_at state i)) u failed)

-- in a finished run that is not stopped each request is over
each_over : (state : State) (i : ℕ) → is_finished state ≡ true → is_stopped state ≡ false → i < size state → unit_failed state (unit_of state.plan_graph i) ≡ false → is_reported (phase_at state i) ≡ true
each_over state i finished unstopped within sound = elim (finished_parts state finished).1 [
  | inl stopped ↦ absurd (both_ways _ unstopped stopped)
  | inr over ↦ elim (or_cases (is_reported (phase_at state i)) (unit_failed state (unit_of state.plan_graph i)) (over i within)) [
    | inl reported ↦ reported
    | inr failed ↦ absurd (both_ways _ sound failed)
  ]
]

-- a unit that succeeds under the table has succeeded in a finished run that is not stopped
unit_succeeded-from : (state : State) (table : ℕ → Outcome) (u : ℕ) → IsReached state → is_finished state ≡ true → is_stopped state ≡ false → Agrees state table → succeeds state.plan_graph (statuses_of table) u ≡ true → unit_succeeded state u ≡ true
unit_succeeded-from state table u reached finished unstopped agrees good = succeeded_in-from state.plan_graph state.phases u (λ i within here.
    let sound : unit_failed state u ≡ false = false_from_ne_true _ (λ failed. both_ways _ (not-true _ good) (fails-from_Fails state.plan_graph (is_bad_in table) u reached.laws (failed_sound state table u agrees failed))) in
    has_succeeded-from (phase_at state i) (each_over state i finished unstopped within (rw here sound))
    (false_from_ne_true _ (λ failed. both_ways _ sound (subst (λ v. unit_failed state v ≡ true) here (fails-from_Fails state.plan_graph (λ j. has_failed (phase_at state j)) (unit_of state.plan_graph i) reached.laws (own i within failed))))))

never_stopped : (state : State) → state.closed ≡ false → state.policy.mode ≡ Continue → is_stopped state ≡ false
never_stopped state going mode = rw (going, mode) refl

pub one_result : (state : State) → IsReached state → is_finished state ≡ true → state.closed ≡ false → state.policy.mode ≡ Continue → HasOneResult state
one_result state reached finished going mode table agrees i within = (
  (
    (λ e. (agrees_with_table state reached table agrees i within e).0),
    (λ good. answered-from state i within (unit_succeeded-from state table (unit_of state.plan_graph i) reached finished (never_stopped state going mode) agrees good)),
  ),
  (λ e. (agrees_with_table state reached table agrees i within e).1),
)

-- ---- a table of outcomes with given statuses

headers_by : Phase → List Header
headers_by (Reported outcome) = outcome.headers
headers_by phase = []

body_by : Phase → Option Data
body_by (Reported outcome) = outcome.body
body_by phase = None

-- the statuses, with the headers and bodies that were reported
abbrev table_with : State → (ℕ → ℕ) → ℕ → Outcome
table_with state statuses i = record { status = statuses i; headers = headers_by (phase_at state i); body = body_by (phase_at state i) }

agrees_with : (state : State) (statuses : ℕ → ℕ) → AgreesInStatus state statuses → Agrees state (table_with state statuses)
unfolding headers_by body_by
agrees_with state statuses has i outcome within at =
    let status = has i outcome within at in
    rw at (λ j. record { status = status j; headers = outcome.headers; body = outcome.body })

pub result_by_statuses : (state : State) → IsReached state → is_finished state ≡ true → state.closed ≡ false → state.policy.mode ≡ Continue → HasResultByStatuses state
result_by_statuses state reached finished going mode statuses has i within =
    (one_result state reached finished going mode (table_with state statuses) (agrees_with state statuses has) i within).0
