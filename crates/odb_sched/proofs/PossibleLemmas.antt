-- What a run answers is possible.
use Rattle.std.proofs.Common.{◌≡◌, ℕ, ◌<◌, ◌∙◌, sym, refl, ap, arith, Bool, true, false, not, List, [], ◌∷◌, length, get_or, set, inl, inr, Option, Some, None, Contains}
use Rattle.std.proofs.lemmas.Bool.{cases_Bool, both_ways, not-true}
use Rattle.odb_doc.specs.declared.recorded.outcome.Outcome.{Outcome}
use Rattle.odb_doc.specs.Statuses.{is_success}
use Rattle.odb_check.specs.declared.need.Need.{Need}
use Rattle.odb_check.specs.declared.need.Need.TheVariants.{One, Group}
use Rattle.odb_check.specs.declared.plan.Plan.{Plan}
use Rattle.odb_check.specs.PlanGraph.{IsPlan, unit_of, needs_of}
use Rattle.odb_sched.specs.declared.policy.Policy.{Policy}
use Rattle.odb_sched.specs.declared.phase.Phase.{Phase}
use Rattle.odb_sched.specs.declared.phase.Phase.TheVariants.{Unstarted, Running, Reported}
use Rattle.odb_sched.specs.declared.event.Event.{Event}
use Rattle.odb_sched.specs.declared.event.Event.TheVariants.{Start, Report}
use Rattle.odb_sched.specs.run.State.{State, size, plan_graph, initial, phase_at, is_unstarted, has_succeeded, after}
use Rattle.odb_sched.specs.run.Steps.{satisfied_in, is_satisfied, unit_succeeded, may_come}
use Rattle.odb_sched.specs.run.Runs.{event_position, after_all, IsRunFrom, IsRun, state_after}
use Rattle.odb_sched.specs.run.Answers.{answer_of, answer, is_answered_2xx, status_of}
use Rattle.odb_sched.specs.run.Possible.{CanHaveSucceeded, IsPossible}
use Rattle.odb_sched.specs.invariants.Kept.{IsReached}
use Rattle.odb_sched.proofs.BelowLemmas.{list_all-each}
use Rattle.odb_sched.proofs.PhaseLemmas.{Unstarted-from, get_or-set_cases, get_or-replicate_Unstarted}
use Rattle.odb_sched.proofs.SatisfiedLemmas.{succeeded_in-from, satisfied_in-set}
use Rattle.odb_sched.proofs.StartLemmas.{may_start-parts}
use Rattle.odb_sched.proofs.EventLemmas.{move_report}
use Rattle.odb_sched.proofs.ReachedLemmas.{reached_after}
use Rattle.odb_sched.proofs.RunLemmas.{reached_initial, reached_run}
use Rattle.odb_sched.proofs.ResultLemmas.{answered-from, all_or_none}
use Rattle.odb_sched.proofs.StatusLemmas.{status-answer}

-- what each request that has started needs is satisfied, its own unit included
abbrev pub IsOrdered : State → Type 0
IsOrdered state = (i : ℕ) (need : Need) → i < size state → is_unstarted (phase_at state i) ≡ false → Contains (needs_of state.plan_graph i) need → is_satisfied state need ≡ true

ordered_set : (state : State) (i : ℕ) (new : Phase) → IsOrdered state → has_succeeded (phase_at state i) ≡ false
    → ((need : Need) → Contains (needs_of state.plan_graph i) need → is_satisfied state need ≡ true)
    → (j : ℕ) (need : Need) → j < size state → is_unstarted (get_or (set state.phases i new) j Unstarted) ≡ false → Contains (needs_of state.plan_graph j) need
    → satisfied_in state.plan_graph (set state.phases i new) need ≡ true
ordered_set state i new ordered fresh satisfied j need within begun has = satisfied_in-set state.plan_graph state.phases i new need fresh (elim (get_or-set_cases state.phases i j new) [
  | inl written ↦ satisfied need (rw (← written.0) has)
  | inr kept ↦ ordered j need within (ap is_unstarted (sym kept) ∙ begun) has
])

ordered_after : (state : State) (event : Event) → IsReached state → IsOrdered state → event_position event < size state → may_come state event ≡ true → IsOrdered (after state event)
ordered_after state (Start i) reached ordered within may =
    let parts = may_start-parts state i may in
    ordered_set state i Running ordered (rw (Unstarted-from _ parts.fresh) refl) (λ need has. list_all-each (is_satisfied state) (needs_of state.plan_graph i) need parts.satisfied has)
ordered_after state (Report i outcome) reached ordered within may =
    let runs : phase_at state i ≡ Running = (move_report state i outcome reached within may).before_is in
    ordered_set state i (Reported outcome) ordered (rw runs refl) (λ need has. ordered i need within (rw runs refl) has)

ordered_after_all : (state : State) (events : List Event) → IsReached state → IsOrdered state → IsRunFrom state events → IsOrdered (after_all state events)
ordered_after_all state [] reached ordered run = ordered
ordered_after_all state (e ∷ es) reached ordered run = ordered_after_all (after state e) es (reached_after state e reached run.0 run.1) (ordered_after state e reached ordered run.0 run.1) run.2

ordered_first : (source : Plan) (policy : Policy) → IsOrdered (initial source policy)
ordered_first source policy i need within begun has = absurd (both_ways _ begun (ap is_unstarted (get_or-replicate_Unstarted (length (plan_graph source).units) i)))

ordered_run : (source : Plan) (policy : Policy) (events : List Event) → IsPlan (plan_graph source) → IsRun source policy events → IsOrdered (state_after source policy events)
ordered_run source policy events laws run = ordered_after_all (initial source policy) events (reached_initial source policy laws) (ordered_first source policy) run

-- ---- the statuses of the answers

-- an answer is a success if its status is
pub success_is : (found : Option Outcome) → is_success (status_of found) ≡ is_answered_2xx found
success_is None = refl
success_is (Some outcome) = refl

-- the answer of a request of a unit that did not succeed, if it reported a success
undone_is : (phase : Phase) (whole : Bool) → has_succeeded phase ≡ true → whole ≡ false → status_of (answer_of phase whole) ≡ 424
undone_is (Reported outcome) whole good poor = rw (good, poor) refl
undone_is phase whole good poor = absurd (cc)

pub unstarted_is : (phase : Phase) (whole : Bool) → not (is_unstarted phase) ≡ false → status_of (answer_of phase whole) ≡ 424
unstarted_is Unstarted whole e = refl
unstarted_is phase whole e = absurd (cc)

begun_is : (phase : Phase) → has_succeeded phase ≡ true → not (is_unstarted phase) ≡ true
begun_is (Reported outcome) e = refl
begun_is phase e = absurd (cc)

pub success-from : (state : State) (i : ℕ) → i < size state → unit_succeeded state (unit_of state.plan_graph i) ≡ true → is_success (status_of (answer state i)) ≡ true
success-from state i within whole = success_is (answer state i) ∙ answered-from state i within whole

-- the statuses of the answers
abbrev pub answered : State → ℕ → ℕ
answered state i = status_of (answer state i)

-- the requests that have started
abbrev pub begun : State → ℕ → Bool
begun state i = not (is_unstarted (phase_at state i))

pub can_have_succeeded : (state : State) (i : ℕ) (need : Need) → IsReached state → i < size state → Contains (needs_of state.plan_graph i) need → ((other : Need) → Contains (needs_of state.plan_graph i) other → is_satisfied state other ≡ true)
    → CanHaveSucceeded state.plan_graph (answered state) (begun state) i need
can_have_succeeded state i (One r) reached within has satisfied =
    let earlier : r < i = reached.laws.earlier i (One r) within has in
    let inside : r < size state = omega (arith, earlier, within) in
    let done : has_succeeded (phase_at state r) ≡ true = satisfied (One r) has in
    elim (cases_Bool (unit_succeeded state (unit_of state.plan_graph r))) [
      | inl whole ↦ inl (success-from state r inside whole)
      | inr poor ↦ elim (reached.laws.listed i r within has) [
        | inl same ↦ inr (same, begun_is (phase_at state r) done, undone_is (phase_at state r) (unit_succeeded state (unit_of state.plan_graph r)) done poor)
        | inr (inl alone) ↦ absurd (both_ways _ poor (succeeded_in-from state.plan_graph state.phases (unit_of state.plan_graph r) (λ j below here. rw (alone j below here) done)))
        | inr (inr group) ↦ absurd (both_ways _ poor (satisfied (Group (unit_of state.plan_graph r)) group))
      ]
    ]
can_have_succeeded state i (Group u) reached within has satisfied = λ j inside here. success-from state j inside (rw here (satisfied (Group u) has))

possible_by : (state : State) → IsReached state → IsOrdered state → IsPossible state.plan_graph (answered state)
possible_by state reached ordered = record {
  final = λ i within. status-answer state i reached.statuses;
  all_or_none = λ i j within inside same good. success_is (answer state j) ∙ all_or_none state i j within inside same (sym (success_is (answer state i)) ∙ good);
  started = begun state;
  others = λ i within idle. unstarted_is (phase_at state i) (unit_succeeded state (unit_of state.plan_graph i)) idle;
  can_have = λ i need within started has. can_have_succeeded state i need reached within has (λ other. ordered i other within (not-true (is_unstarted (phase_at state i)) started));
}

-- what any run has answered by then is possible
pub possible_run : (source : Plan) (policy : Policy) (events : List Event) → IsPlan (plan_graph source) → IsRun source policy events
    → IsPossible (state_after source policy events).plan_graph (answered (state_after source policy events))
possible_run source policy events laws run = possible_by (state_after source policy events) (reached_run source policy events laws run) (ordered_run source policy events laws run)
