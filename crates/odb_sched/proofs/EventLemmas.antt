-- The phase of a request after a run, by the events of the run.
use Rattle.std.proofs.Common.{subst, ◌≡◌, ◌≢◌, ℕ, ◌<◌, ◌≤◌, ◌+◌, ◌==◌, ◌∙◌, sym, refl, ap, arith, Bool, true, false, cond, ◌||◌, eq-eqb, List, [], ◌∷◌, length, inl, inr, ◌⊎◌, Option, None, count_by, get_or-set_same, get_or-set_other, unwrap_or}
use Rattle.std.specs.List.{list_any}
use Rattle.std.proofs.lemmas.Bool.{cases_eq, true≢false, and_parts, ne_eqb}
use Rattle.std.proofs.lemmas.List.Sums.{sum_by-cons}
use Rattle.odb_doc.specs.declared.recorded.outcome.Outcome.{Outcome}
use Rattle.odb_check.specs.declared.plan.Plan.{Plan}
use Rattle.odb_sched.specs.declared.policy.Policy.{Policy}
use Rattle.odb_sched.specs.declared.phase.Phase.{Phase}
use Rattle.odb_sched.specs.declared.phase.Phase.TheVariants.{Unstarted, Running, Reported}
use Rattle.odb_sched.specs.declared.event.Event.{Event}
use Rattle.odb_sched.specs.declared.event.Event.TheVariants.{Start, Report}
use Rattle.odb_doc.specs.Statuses.{is_success, is_status}
use Rattle.odb_sched.specs.run.State.{is_running, has_succeeded, State, size, phase_at, plan_graph, initial, after, is_reported}
use Rattle.odb_sched.specs.run.Steps.{may_come}
use Rattle.odb_sched.specs.run.Runs.{event_position, after_all, IsRunFrom, starts, report_of, or_later, first_report, phase_by, phase_of, IsRun, state_after}
use Rattle.odb_sched.specs.run.Laws.{HasFewEvents}
use Rattle.odb_sched.specs.invariants.Kept.{IsReached}
use Rattle.odb_sched.proofs.PhaseLemmas.{get_or-set_cases, get_or-replicate_Unstarted, Unstarted-from, Running-from, Reported-from}
use Rattle.odb_sched.proofs.StartLemmas.{may_start-parts}
use Rattle.odb_sched.proofs.ReachedLemmas.{reached_after}
use Rattle.odb_sched.specs.run.Answers.{outcome_of}

-- what is reported after an event was reported before it, or by it
pub reported_by : (state : State) (event : Event) (i : ℕ) (outcome : Outcome) → phase_at (after state event) i ≡ Reported outcome → (phase_at state i ≡ Reported outcome) ⊎ (event ≡ Report i outcome)
reported_by state (Start j) i outcome e = elim (get_or-set_cases state.phases j i Running) [
  | inl written ↦ absurd (true≢false (sym (ap is_reported e) ∙ ap is_reported written.1))
  | inr kept ↦ inl (sym kept ∙ e)
]
reported_by state (Report j other) i outcome e = elim (get_or-set_cases state.phases j i (Reported other)) [
  | inl written ↦
      let same : other ≡ outcome = ap (λ phase. unwrap_or (outcome_of phase) outcome) (sym written.1 ∙ e) in
      inr (ap (λ k. Report k other) (sym written.0) ∙ ap (Report i) same)
  | inr kept ↦ inl (sym kept ∙ e)
]

-- what has succeeded after an event had before it, or is reported so by it
pub success_by : (state : State) (event : Event) (r : ℕ) → has_succeeded (phase_at (after state event) r) ≡ true
    → (has_succeeded (phase_at state r) ≡ true) ⊎ ((outcome : Outcome) × (event ≡ Report r outcome) × (is_success outcome.status ≡ true))
success_by state event r e =
    let (outcome, is, good) = Reported-from (phase_at (after state event) r) e in
    elim (reported_by state event r outcome is) [ inl before ↦ inl (rw before good) | inr now ↦ inr (outcome, now, good) ]

-- the phase of an event's request before the event and after it, and that the others keep theirs
pub record IsMove (state : State) (event : Event) (before new : Phase) : Type 0 where
  pub before_is : phase_at state (event_position event) ≡ before
  pub after_is : phase_at (after state event) (event_position event) ≡ new
  pub others : (i : ℕ) → i ≢ event_position event → phase_at (after state event) i ≡ phase_at state i

pub move_start : (state : State) (i : ℕ) → IsReached state → i < size state → may_come state (Start i) ≡ true → IsMove state (Start i) Unstarted Running
move_start state i reached within may =
    let each : length state.phases ≡ size state = reached.each in
    let start = may_start-parts state i may in
    record {
      before_is = Unstarted-from _ start.fresh;
      after_is = get_or-set_same state.phases i Running Unstarted (omega arith);
      others = λ j other. get_or-set_other state.phases i j Running Unstarted other;
    }

pub move_report : (state : State) (i : ℕ) (outcome : Outcome) → IsReached state → i < size state → may_come state (Report i outcome) ≡ true → IsMove state (Report i outcome) Running (Reported outcome)
move_report state i outcome reached within may =
    let each : length state.phases ≡ size state = reached.each in
    let parts = and_parts (is_running (phase_at state i)) (is_status outcome.status) may in
    record {
      before_is = Running-from _ parts.0;
      after_is = get_or-set_same state.phases i (Reported outcome) Unstarted (omega arith);
      others = λ j other. get_or-set_other state.phases i j (Reported outcome) Unstarted other;
    }

-- how many events a request may still have
abbrev pub left : Phase → ℕ
left Unstarted = 2
left Running = 1
left (Reported outcome) = 0

-- an event takes one of the remaining events of its request
left_by : (state : State) (event : Event) (before new : Phase) (i : ℕ) → IsMove state event before new → left new + 1 ≡ left before → cond (event_position event == i) 1 0 + left (phase_at (after state event) i) ≤ left (phase_at state i)
left_by state event before new i move fewer = elim (cases_eq (event_position event) i) [
  | inl here ↦ rw (eq-eqb _ _ here, ← here, move.before_is, move.after_is) (omega arith)
  | inr elsewhere ↦ rw (ne_eqb _ _ elsewhere, move.others i (λ e. elsewhere (sym e))) (omega arith)
]

left_after : (state : State) (event : Event) (i : ℕ) → IsReached state → event_position event < size state → may_come state event ≡ true → cond (event_position event == i) 1 0 + left (phase_at (after state event) i) ≤ left (phase_at state i)
left_after state (Start j) i reached within may = left_by state (Start j) Unstarted Running i (move_start state j reached within may) refl
left_after state (Report j outcome) i reached within may = left_by state (Report j outcome) Running (Reported outcome) i (move_report state j outcome reached within may) refl

pub few_events : (state : State) (events : List Event) (i : ℕ) → IsReached state → IsRunFrom state events → count_by (λ e. event_position e == i) events ≤ left (phase_at state i)
few_events state [] i reached run = omega arith
few_events state (event ∷ es) i reached run =
    let rest : count_by (λ e. event_position e == i) es ≤ left (phase_at (after state event) i) = few_events (after state event) es i (reached_after state event reached run.0 run.1) run.2 in
    let first : cond (event_position event == i) 1 0 + left (phase_at (after state event) i) ≤ left (phase_at state i) = left_after state event i reached run.0 run.1 in
    rw (sum_by-cons (λ e. cond (event_position e == i) 1 0) event es) (omega arith)

-- the phase of a request by its earlier phase, its first report since, and whether it has started since
abbrev pub phase_since : Phase → Option Outcome → Bool → Phase
phase_since Unstarted report started = phase_by report started
phase_since Running report started = phase_by report true
phase_since (Reported outcome) report started = Reported outcome

phase_since-none : (phase : Phase) → phase ≡ phase_since phase None false
phase_since-none Unstarted = refl
phase_since-none Running = refl
phase_since-none (Reported outcome) = refl

phase_by_event : (state : State) (event : Event) (i : ℕ) (report : Option Outcome) (started : Bool) → IsReached state → event_position event < size state → may_come state event ≡ true
    → phase_since (phase_at (after state event) i) report started ≡ phase_since (phase_at state i) (or_later (report_of i event) report) (starts i event || started)
phase_by_event state (Start j) i report started reached within may = elim (cases_eq i j) [
  | inl here ↦ let move = move_start state j reached within may in rw (eq-eqb _ _ here, here, move.before_is, move.after_is) refl
  | inr elsewhere ↦ let move = move_start state j reached within may in rw (ne_eqb _ _ elsewhere, move.others i elsewhere) refl
]
phase_by_event state (Report j outcome) i report started reached within may = elim (cases_eq i j) [
  | inl here ↦ let move = move_report state j outcome reached within may in rw (eq-eqb _ _ here, here, move.before_is, move.after_is) refl
  | inr elsewhere ↦ let move = move_report state j outcome reached within may in rw (ne_eqb _ _ elsewhere, move.others i elsewhere) refl
]

pub phase_after_all : (state : State) (events : List Event) (i : ℕ) → IsReached state → IsRunFrom state events → phase_at (after_all state events) i ≡ phase_since (phase_at state i) (first_report i events) (list_any (starts i) events)
phase_after_all state [] i reached run = phase_since-none (phase_at state i)
phase_after_all state (event ∷ es) i reached run =
    phase_after_all (after state event) es i (reached_after state event reached run.0 run.1) run.2
    ∙ phase_by_event state event i (first_report i es) (list_any (starts i) es) reached run.0 run.1

-- before any event each request has two events left, and is unstarted
pub few_events_first : (source : Plan) (policy : Policy) (events : List Event) → IsReached (initial source policy) → IsRun source policy events → HasFewEvents events
few_events_first source policy events reached run i = subst (λ phase. count_by (λ e. event_position e == i) events ≤ left phase) (get_or-replicate_Unstarted (length (plan_graph source).units) i) (few_events (initial source policy) events i reached run)

pub phases_first : (source : Plan) (policy : Policy) (events : List Event) (i : ℕ) → IsReached (initial source policy) → IsRun source policy events → phase_at (state_after source policy events) i ≡ phase_of i events
phases_first source policy events i reached run = phase_after_all (initial source policy) events i reached run ∙ ap (λ phase. phase_since phase (first_report i events) (list_any (starts i) events)) (get_or-replicate_Unstarted (length (plan_graph source).units) i)
