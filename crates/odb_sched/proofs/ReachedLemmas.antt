-- What holds before any event holds after each event that may come.
use Rattle.std.proofs.Common.{◌≡◌, ℕ, ◌<◌, ◌≢◌, ◌≤◌, ◌-◌, ◌+◌, ◌*◌, ◌∙◌, sym, refl, ap, subst, arith, Bool, true, false, cond, List, length, get_or, set, replicate, inl, inr, count_by, get_or-set_same, get_or-set_other, Contains}
use Rattle.std.proofs.lemmas.Bool.{cases_eq, cases_lt, both_ways, and_parts}
use Rattle.std.proofs.lemmas.List.{length-set, length-replicate, get_or-replicate, set_past}
use Rattle.std.proofs.lemmas.List.Folds.{sum_by-replicate}
use Rattle.std.proofs.lemmas.List.Sums.{sum_by-set}
use Rattle.odb_doc.specs.batch.Records.{Record}
use Rattle.odb_doc.specs.declared.recorded.outcome.Outcome.{Outcome}
use Rattle.odb_check.specs.declared.need.Need.{Need}
use Rattle.odb_check.specs.PlanGraph.{PlanGraph, IsPlan, unit_of, needs_of, unit_needed}
use Rattle.odb_sched.specs.declared.policy.Policy.{Policy}
use Rattle.odb_sched.specs.declared.phase.Phase.{Phase}
use Rattle.odb_sched.specs.declared.phase.Phase.TheVariants.{Unstarted, Running, Reported}
use Rattle.odb_sched.specs.declared.event.Event.{Event}
use Rattle.odb_sched.specs.declared.event.Event.TheVariants.{Start, Report}
use Rattle.odb_doc.specs.Statuses.{is_status}
use Rattle.odb_sched.specs.run.State.{is_unstarted, is_running, has_succeeded, State, size, phase_at, with_requests, started, awaited_after, reported, after}
use Rattle.odb_sched.specs.run.Steps.{satisfied_in, is_satisfied, running_count, spare_in, places, may_start, may_report, may_come}
use Rattle.odb_sched.specs.run.Runs.{event_position}
use Rattle.odb_sched.specs.invariants.Kept.{first_of, IsReached}
use Rattle.odb_sched.specs.run.Answers.{outcome_of}
use Rattle.odb_sched.proofs.PhaseLemmas.{Unstarted-from, Running-from, get_or-set_cases, get_or-replicate_Unstarted}
use Rattle.odb_sched.proofs.BelowLemmas.{list_all-each}
use Rattle.odb_sched.proofs.SatisfiedLemmas.{satisfied_in-set}
use Rattle.odb_sched.proofs.StartLemmas.{may_start-parts}
use Rattle.odb_sched.proofs.StatusLemmas.{no_outcome, one_outcome, statuses-set}

-- what a phase adds to the count of running requests
abbrev weight : Phase → ℕ
weight phase = cond (is_running phase) 1 0

pub reached_first : (plan : PlanGraph) (policy : Policy) → IsPlan plan → IsReached (first_of plan policy)
reached_first plan policy laws = record {
  laws = laws;
  each = length-replicate (length plan.units) Unstarted;
  narrow = let none : count_by is_running (replicate (length plan.units) Unstarted) ≡ length plan.units * 0 = sum_by-replicate weight (length plan.units) Unstarted in omega arith;
  needs = λ i need within begun. absurd (both_ways _ begun (ap is_unstarted (get_or-replicate_Unstarted (length plan.units) i)));
  statuses = λ i. no_outcome _ (ap outcome_of (get_or-replicate_Unstarted (length plan.units) i));
  by_unit = length-replicate plan.unit_count 0;
  apart = λ i within fresh. get_or-replicate plan.unit_count (unit_of plan i) 0 0 (laws.counted i within);
}

-- no event asks for the requests
pub reached_with : (requests : List Record) (state : State) → IsReached state → IsReached (with_requests requests state)
reached_with requests state reached = record { laws = reached.laws; each = reached.each; narrow = reached.narrow; needs = reached.needs; statuses = reached.statuses; by_unit = reached.by_unit; apart = reached.apart }

-- nor is it asked whether the caller has stopped the run
pub reached_closed : (state : State) (closed : Bool) → IsReached state → IsReached (record state { closed = closed })
reached_closed state closed reached = record { laws = reached.laws; each = reached.each; narrow = reached.narrow; needs = reached.needs; statuses = reached.statuses; by_unit = reached.by_unit; apart = reached.apart }

-- how many run after a write over a phase
count_after : (phases : List Phase) (i : ℕ) (new : Phase) → i < length phases → count_by is_running (set phases i new) + weight (get_or phases i Unstarted) ≡ count_by is_running phases + weight new
count_after phases i new within = sum_by-set weight phases i new Unstarted within

-- what each request that has started needs of other units stays satisfied when the phase of a request is written of which that
-- holds
needs_after : (state : State) (i : ℕ) (new : Phase) → IsReached state → has_succeeded (phase_at state i) ≡ false
    → ((need : Need) → Contains (needs_of state.plan_graph i) need → unit_needed (unit_of state.plan_graph) need ≢ unit_of state.plan_graph i → is_satisfied state need ≡ true)
    → (j : ℕ) (need : Need) → j < size state → is_unstarted (get_or (set state.phases i new) j Unstarted) ≡ false → Contains (needs_of state.plan_graph j) need → unit_needed (unit_of state.plan_graph) need ≢ unit_of state.plan_graph j
    → satisfied_in state.plan_graph (set state.phases i new) need ≡ true
needs_after state i new reached fresh satisfied j need within begun has other = satisfied_in-set state.plan_graph state.phases i new need fresh (elim (cases_eq j i) [
  | inl same ↦ satisfied need (subst (λ k. Contains (needs_of state.plan_graph k) need) same has) (λ own. other (own ∙ ap (unit_of state.plan_graph) (sym same)))
  | inr elsewhere ↦ reached.needs j need within (ap is_unstarted (sym (get_or-set_other state.phases i j new Unstarted elsewhere)) ∙ begun) has other
])

-- a request that has not started after another phase was written had not started before
still_unstarted : (phases : List Phase) (i j : ℕ) (new : Phase) → is_unstarted new ≡ false → is_unstarted (get_or (set phases i new) j Unstarted) ≡ true → is_unstarted (get_or phases j Unstarted) ≡ true
still_unstarted phases i j new begun fresh = elim (get_or-set_cases phases i j new) [
  | inl written ↦ absurd (both_ways _ begun (ap is_unstarted (sym written.1) ∙ fresh))
  | inr kept ↦ ap is_unstarted (sym kept) ∙ fresh
]

pub reached_started : (state : State) (i : ℕ) → IsReached state → i < size state → may_start state i ≡ true → IsReached (started state i)
reached_started state i reached within may =
    let start = may_start-parts state i may in
    let here : phase_at state i ≡ Unstarted = Unstarted-from _ start.fresh in
    let each : length state.phases ≡ size state = reached.each in
    let room : count_by is_running state.phases < state.policy.width + spare_in state.awaited = start.room in
    record {
      laws = reached.laws;
      each = length-set state.phases i Running ∙ reached.each;
      narrow =
          let count = count_after state.phases i Running (omega arith) in
          let none : weight (phase_at state i) ≡ 0 = rw here refl in
          let narrow : count_by is_running (set state.phases i Running) ≤ state.policy.width + spare_in state.awaited = omega arith in
          narrow;
      needs = needs_after state i Running reached (rw here refl) (λ need has other. list_all-each (is_satisfied state) (needs_of state.plan_graph i) need start.satisfied has);
      statuses = statuses-set state i Running reached.statuses (no_outcome Running refl);
      by_unit = reached.by_unit;
      apart = λ j inside fresh. reached.apart j inside (still_unstarted state.phases i j Running refl fresh);
    }

-- a report lowers the awaited ones by one at most, so that no more requests run than may
narrow_reported : (state : State) (i : ℕ) (outcome : Outcome) → IsReached state → i < size state → phase_at state i ≡ Running → running_count (reported state i outcome) ≤ places (reported state i outcome)
narrow_reported state i outcome reached within here =
    let u : ℕ = unit_of state.plan_graph i in
    let known : u < state.plan_graph.unit_count = reached.laws.counted i within in
    let each : length state.phases ≡ size state = reached.each in
    let by_unit : length state.awaited ≡ state.plan_graph.unit_count = reached.by_unit in
    let left : ℕ = get_or state.awaited u 0 in
    let count : count_by is_running (set state.phases i (Reported outcome)) + weight (phase_at state i) ≡ count_by is_running state.phases + 0 = count_after state.phases i (Reported outcome) (omega arith) in
    let one : weight (phase_at state i) ≡ 1 = rw here refl in
    let fallen : spare_in (awaited_after state.awaited u) + (left - 1) ≡ spare_in state.awaited + ((left - 1) - 1) = sum_by-set (λ n. n - 1) state.awaited u (left - 1) 0 (omega (arith, known, by_unit)) in
    let before : count_by is_running state.phases ≤ state.policy.width + spare_in state.awaited = reached.narrow in
    let narrow : count_by is_running (set state.phases i (Reported outcome)) ≤ state.policy.width + spare_in (awaited_after state.awaited u) = omega (arith, count, one, fallen, before) in
    narrow

-- of a unit of which no report is awaited none is after a report
pub none_awaited : (awaited : List ℕ) (u v : ℕ) → get_or awaited v 0 ≡ 0 → get_or (awaited_after awaited u) v 0 ≡ 0
none_awaited awaited u v none = elim (cases_eq v u) [
  | inl same ↦ elim (cases_lt u (length awaited)) [
    | inl within ↦
        let here : get_or (awaited_after awaited u) v 0 ≡ get_or awaited v 0 - 1 = rw same (get_or-set_same awaited u (get_or awaited u 0 - 1) 0 within) in
        omega (arith, here, none)
    | inr past ↦ rw (set_past awaited u (get_or awaited u 0 - 1) past) none
  ]
  | inr other ↦ get_or-set_other awaited u v (get_or awaited u 0 - 1) 0 other ∙ none
]

pub reached_reported : (state : State) (i : ℕ) (outcome : Outcome) → IsReached state → i < size state → may_report state i outcome ≡ true → IsReached (reported state i outcome)
reached_reported state i outcome reached within may =
    let parts = and_parts (is_running (phase_at state i)) (is_status outcome.status) may in
    let here : phase_at state i ≡ Running = Running-from _ parts.0 in
    record {
      laws = reached.laws;
      each = length-set state.phases i (Reported outcome) ∙ reached.each;
      narrow = narrow_reported state i outcome reached within here;
      needs = needs_after state i (Reported outcome) reached (rw here refl) (λ need. reached.needs i need within (rw here refl));
      statuses = statuses-set state i (Reported outcome) reached.statuses (one_outcome outcome parts.1);
      by_unit = length-set state.awaited (unit_of state.plan_graph i) _ ∙ reached.by_unit;
      apart = λ j inside fresh. none_awaited state.awaited (unit_of state.plan_graph i) (unit_of state.plan_graph j) (reached.apart j inside (still_unstarted state.phases i j (Reported outcome) refl fresh));
    }

pub reached_after : (state : State) (event : Event) → IsReached state → event_position event < size state → may_come state event ≡ true → IsReached (after state event)
reached_after state (Start i) reached within may = reached_started state i reached within may
reached_after state (Report i outcome) reached within may = reached_reported state i outcome reached within may
