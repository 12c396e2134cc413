-- What a live run answers is possible.
use Rattle.std.proofs.Common.{◌≡◌, ◌≢◌, ℕ, ◌<◌, ◌∙◌, ◌⊎◌, sym, refl, ap, subst, arith, true, false, List, [], ◌∷◌, length, get_or, set, inl, inr, Contains}
use Rattle.std.specs.List.{list_all}
use Rattle.std.proofs.lemmas.Bool.{cases_Bool, cases_eq, both_ways, not-true}
use Rattle.odb_doc.specs.batch.Records.{Record}
use Rattle.odb_doc.specs.Statuses.{is_success, is_status}
use Rattle.odb_check.specs.declared.need.Need.{Need}
use Rattle.odb_check.specs.declared.need.Need.TheVariants.{One, Group}
use Rattle.odb_check.specs.Plans.{batch_plan_graph}
use Rattle.odb_check.specs.PlanGraph.{PlanGraph, IsPlan, IsPlanGraphOf, unit_of, needs_of, unit_needed}
use Rattle.odb_sched.specs.declared.policy.Mode.{Mode}
use Rattle.odb_sched.specs.declared.phase.Phase.{Phase}
use Rattle.odb_sched.specs.declared.phase.Phase.TheVariants.{Unstarted, Running, Reported}
use Rattle.odb_sched.specs.declared.event.Event.TheVariants.{Start, Report}
use Rattle.odb_sched.specs.run.State.{State, size, phase_at, is_unstarted, has_succeeded, running_members}
use Rattle.odb_sched.specs.run.Steps.{satisfied_in, is_satisfied, unit_succeeded}
use Rattle.odb_sched.specs.run.Units.{outer_needs, outer_satisfied}
use Rattle.odb_sched.specs.run.Answers.{answer}
use Rattle.odb_sched.specs.run.LiveEvents.{LiveEvent, Single, StartUnit, Stop, after_live, after_all_live, first_live, IsKnownTo, IsLiveRunFrom, may_take, live_state}
use Rattle.odb_sched.specs.run.Possible.{IsPossible}
use Rattle.odb_sched.specs.run.PossibleLive.{IsAnswered2xx, CanHaveBeenSent, IsPossibleLive, HasLiveRun}
use Rattle.odb_sched.specs.invariants.Kept.{IsReached}
use Rattle.odb_sched.proofs.BeginLemmas.{may_begin-parts}
use Rattle.odb_sched.proofs.BelowLemmas.{list_all-each, list_all-from}
use Rattle.odb_sched.proofs.EventLemmas.{move_report}
use Rattle.odb_sched.proofs.LiveLemmas.{IsPopulated, plan_graph-after_live, plan_graph-after_all_live, populated, reached_after_live, reached_after_all_live, still_populated}
use Rattle.odb_sched.proofs.MemberLemmas.{as_running, other_stays}
use Rattle.odb_sched.proofs.OuterLemmas.{outer-each}
use Rattle.odb_sched.proofs.PhaseLemmas.{Unstarted-from, get_or-set_cases, get_or-replicate_Unstarted}
use Rattle.odb_sched.proofs.PossibleLemmas.{answered, begun, can_have_succeeded, success-from, success_is, unstarted_is}
use Rattle.odb_sched.proofs.ReachedLemmas.{reached_first}
use Rattle.odb_sched.proofs.ResultLemmas.{all_or_none}
use Rattle.odb_sched.proofs.SatisfiedLemmas.{has_succeeded-set, member_succeeded, succeeded_in-from}
use Rattle.odb_sched.proofs.StartLemmas.{may_start-parts}
use Rattle.odb_sched.proofs.StatusLemmas.{status-answer}
use Rattle.odb_sched.proofs.WitnessLemmas.{can_have_as}

-- ---- why each request has started

-- what has succeeded in these phases has in the others
abbrev StaySucceeded : List Phase → List Phase → Type 0
StaySucceeded phases others = (j : ℕ) → has_succeeded (get_or phases j Unstarted) ≡ true → has_succeeded (get_or others j Unstarted) ≡ true

still_satisfied : (plan : PlanGraph) (phases others : List Phase) (need : Need) → StaySucceeded phases others → satisfied_in plan phases need ≡ true → satisfied_in plan others need ≡ true
still_satisfied plan phases others (One r) stay met = stay r met
still_satisfied plan phases others (Group u) stay met = succeeded_in-from plan others u (λ j within here. stay j (member_succeeded plan phases u j met within here))

-- what the unit of a request needs of other units is satisfied, or what the request needs
abbrev HasReason : PlanGraph → List Phase → ℕ → Type 0
HasReason plan phases i = (list_all (satisfied_in plan phases) (outer_needs plan (unit_of plan i)) ≡ true) ⊎ ((need : Need) → Contains (needs_of plan i) need → satisfied_in plan phases need ≡ true)

still_reason : (plan : PlanGraph) (phases others : List Phase) (i : ℕ) → StaySucceeded phases others → HasReason plan phases i → HasReason plan others i
still_reason plan phases others i stay (inl outer) = inl (list_all-from (satisfied_in plan others) (outer_needs plan (unit_of plan i)) (λ need has. still_satisfied plan phases others need stay (list_all-each (satisfied_in plan phases) (outer_needs plan (unit_of plan i)) need outer has)))
still_reason plan phases others i stay (inr all) = inr (λ need has. still_satisfied plan phases others need stay (all need has))

-- each request that has started has a reason
abbrev HaveReasons : PlanGraph → List Phase → Type 0
HaveReasons plan phases = (i : ℕ) → i < length plan.units → is_unstarted (get_or phases i Unstarted) ≡ false → HasReason plan phases i

more_reasons : (plan : PlanGraph) (phases others : List Phase) → StaySucceeded phases others → HaveReasons plan phases
    → ((i : ℕ) → i < length plan.units → is_unstarted (get_or others i Unstarted) ≡ false → (is_unstarted (get_or phases i Unstarted) ≡ false) ⊎ HasReason plan phases i) → HaveReasons plan others
more_reasons plan phases others stay have new i within begun = still_reason plan phases others i stay (elim (new i within begun) [
  | inl before ↦ have i within before
  | inr now ↦ now
])

reasons_after : (state : State) (event : LiveEvent) → IsReached state → IsKnownTo state event → may_take state event ≡ true → HaveReasons state.plan_graph state.phases → HaveReasons state.plan_graph (after_live state event).phases
reasons_after state (Single (Start i)) reached known may have =
    let parts = may_start-parts state i may in
    let idle : phase_at state i ≡ Unstarted = Unstarted-from _ parts.fresh in
    more_reasons state.plan_graph state.phases (set state.phases i Running) (λ j done. has_succeeded-set state.phases i j Running (ap has_succeeded idle) done) have
    (λ j within begun. elim (get_or-set_cases state.phases i j Running) [
      | inl written ↦ inr (subst (HasReason state.plan_graph state.phases) (sym written.0) (inr (λ need has. list_all-each (is_satisfied state) (needs_of state.plan_graph i) need parts.satisfied has)))
      | inr kept ↦ inl (ap is_unstarted (sym kept) ∙ begun)
    ])
reasons_after state (Single (Report i outcome)) reached known may have =
    let runs : phase_at state i ≡ Running = (move_report state i outcome reached known may).before_is in
    more_reasons state.plan_graph state.phases (set state.phases i (Reported outcome)) (λ j done. has_succeeded-set state.phases i j (Reported outcome) (ap has_succeeded runs) done) have
    (λ j within begun. elim (get_or-set_cases state.phases i j (Reported outcome)) [
      | inl written ↦ inl (ap (λ k. is_unstarted (phase_at state k)) written.0 ∙ ap is_unstarted runs)
      | inr kept ↦ inl (ap is_unstarted (sym kept) ∙ begun)
    ])
reasons_after state (StartUnit u) reached known may have =
    let parts = may_begin-parts state u may in
    more_reasons state.plan_graph state.phases (running_members state.plan_graph state.phases u) (λ j done. as_running state.plan_graph state.phases u has_succeeded reached.each parts.fresh refl j ∙ done) have
    (λ j within begun. elim (cases_eq (unit_of state.plan_graph j) u) [
      | inl here ↦ inr (inl (subst (λ v. outer_satisfied state v ≡ true) (sym here) parts.satisfied))
      | inr elsewhere ↦ inl (ap is_unstarted (sym (other_stays state.plan_graph state.phases u j within elsewhere)) ∙ begun)
    ])
reasons_after state Stop reached known may have = have

reasons_after_all : (state : State) (events : List LiveEvent) → IsPopulated state.plan_graph → IsReached state → HaveReasons state.plan_graph state.phases → IsLiveRunFrom state events
    → HaveReasons (after_all_live state events).plan_graph (after_all_live state events).phases
reasons_after_all state [] some reached have run = have
reasons_after_all state (e ∷ es) some reached have run =
    reasons_after_all (after_live state e) es (still_populated state e some) (reached_after_live state e some reached run.0 run.1)
    (subst (λ plan. HaveReasons plan (after_live state e).phases) (sym (plan_graph-after_live state e)) (reasons_after state e reached run.0 run.1 have)) run.2

-- ---- the statuses of the answers

-- what is satisfied for the whole unit is answered 200 to 299
answered_outer : (state : State) (i : ℕ) (need : Need) → IsReached state → i < size state → Contains (needs_of state.plan_graph i) need → unit_needed (unit_of state.plan_graph) need ≢ unit_of state.plan_graph i
    → outer_satisfied state (unit_of state.plan_graph i) ≡ true → IsAnswered2xx state.plan_graph (answered state) need
answered_outer state i (One r) reached within has other outer =
    let earlier : r < i = reached.laws.earlier i (One r) within has in
    let inside : r < size state = omega (arith, earlier, within) in
    let done : has_succeeded (phase_at state r) ≡ true = outer-each state.plan_graph (unit_of state.plan_graph i) i (One r) (is_satisfied state) outer within refl has other in
    elim (cases_Bool (unit_succeeded state (unit_of state.plan_graph r))) [
      | inl whole ↦ success-from state r inside whole
      | inr poor ↦ elim (reached.laws.listed i r within has) [
        | inl same ↦ absurd (other same)
        | inr (inl alone) ↦ absurd (both_ways _ poor (succeeded_in-from state.plan_graph state.phases (unit_of state.plan_graph r) (λ j below here. rw (alone j below here) done)))
        | inr (inr group) ↦ absurd (both_ways _ poor (outer-each state.plan_graph (unit_of state.plan_graph i) i (Group (unit_of state.plan_graph r)) (is_satisfied state) outer within refl group other))
      ]
    ]
answered_outer state i (Group u) reached within has other outer = λ j inside here.
    success-from state j inside (rw here (outer-each state.plan_graph (unit_of state.plan_graph i) i (Group u) (is_satisfied state) outer within refl has other))

sent_at : (state : State) (u : ℕ) → IsReached state → outer_satisfied state u ≡ true → CanHaveBeenSent state.plan_graph (answered state) u
sent_at state u reached outer i need within here has other = answered_outer state i need reached within has (λ own. other (own ∙ here)) (subst (λ v. outer_satisfied state v ≡ true) (sym here) outer)

possible_by : (state : State) → IsReached state → HaveReasons state.plan_graph state.phases → IsPossibleLive state.plan_graph (answered state)
possible_by state reached have = record {
  final = λ i within. status-answer state i reached.statuses;
  all_or_none = λ i j within inside same good. success_is (answer state j) ∙ all_or_none state i j within inside same (sym (success_is (answer state i)) ∙ good);
  started = begun state;
  others = λ i within idle. unstarted_is (phase_at state i) (unit_succeeded state (unit_of state.plan_graph i)) idle;
  can_have = λ i within started. elim (have i within (not-true (is_unstarted (phase_at state i)) started)) [
    | inl outer ↦ inl (sent_at state (unit_of state.plan_graph i) reached outer)
    | inr all ↦ inr (λ need has. can_have_succeeded state i need reached within has all)
  ];
}

-- ---- statuses that are alike

need_as : (plan : PlanGraph) (statuses others : ℕ → ℕ) (i : ℕ) (need : Need) → IsPlan plan → ((j : ℕ) → j < length plan.units → statuses j ≡ others j) → i < length plan.units → Contains (needs_of plan i) need → IsAnswered2xx plan statuses need → IsAnswered2xx plan others need
need_as plan statuses others i (One r) laws same within has good = let earlier : r < i = laws.earlier i (One r) within has in ap is_success (sym (same r (omega (arith, earlier, within)))) ∙ good
need_as plan statuses others i (Group u) laws same within has good = λ j inside here. ap is_success (sym (same j inside)) ∙ good j inside here

possible_as : (plan : PlanGraph) (statuses others : ℕ → ℕ) → IsPlan plan → ((i : ℕ) → i < length plan.units → statuses i ≡ others i) → IsPossibleLive plan statuses → IsPossibleLive plan others
possible_as plan statuses others laws same possible = record {
  final = λ i within. ap is_status (sym (same i within)) ∙ possible.final i within;
  all_or_none = λ i j within inside here good. ap is_success (sym (same j inside)) ∙ possible.all_or_none i j within inside here (ap is_success (same i within) ∙ good);
  started = possible.started;
  others = λ i within idle. sym (same i within) ∙ possible.others i within idle;
  can_have = λ i within started. elim (possible.can_have i within started) [
    | inl sent ↦ inl (λ j need inside here has other. need_as plan statuses others j need laws same inside has (sent j need inside here has other))
    | inr alone ↦ inr (λ need has. can_have_as plan statuses others possible.started i need laws same within has (alone need has))
  ];
}

-- ---- the statuses of a live run

reasons_first : (plan : PlanGraph) (phases : List Phase) → ((i : ℕ) → get_or phases i Unstarted ≡ Unstarted) → HaveReasons plan phases
reasons_first plan phases fresh i within begun = absurd (both_ways _ begun (ap is_unstarted (fresh i)))

-- the statuses of a finished live run are possible
pub possible-from_live_run : (requests : List Record) (mode : Mode) (statuses : ℕ → ℕ) → IsPlan (batch_plan_graph requests) → IsPlanGraphOf requests (batch_plan_graph requests) → HasLiveRun requests mode statuses → IsPossibleLive (batch_plan_graph requests) statuses
possible-from_live_run requests mode statuses laws graph found =
    let first : State = first_live requests found.policy in
    let last : State = live_state requests found.policy found.events in
    let some = populated requests (batch_plan_graph requests) graph in
    let reached = reached_first (batch_plan_graph requests) found.policy laws in
    let have = reasons_first (batch_plan_graph requests) first.phases (get_or-replicate_Unstarted (length (batch_plan_graph requests).units)) in
    let possible : IsPossibleLive last.plan_graph (answered last) = possible_by last (reached_after_all_live first found.events some reached found.run) (reasons_after_all first found.events some reached have found.run) in
    possible_as (batch_plan_graph requests) (answered last) statuses laws found.answered (subst (λ plan. IsPossibleLive plan (answered last)) (plan_graph-after_all_live first found.events) possible)

-- what is possible of requests that start one by one is possible of a live run
pub possible-alone : (plan : PlanGraph) (statuses : ℕ → ℕ) → IsPossible plan statuses → IsPossibleLive plan statuses
possible-alone plan statuses possible = record {
  final = possible.final;
  all_or_none = possible.all_or_none;
  started = possible.started;
  others = possible.others;
  can_have = λ i within started. inr (λ need has. possible.can_have i need within started has);
}
