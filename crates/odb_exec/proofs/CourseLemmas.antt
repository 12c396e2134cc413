-- An execution from step to step.
use Rattle.std.proofs.Common.{◌≡◌, ℕ, ◌<◌, ◌≤◌, ◌+◌, ◌*◌, ◌∙◌, ap, sym, refl, subst, arith, true, false, List, [], ◌∷◌, ◌++◌, length, map, replicate, slice_set, inl, inr, ◌⊎◌, zero, suc, get_or, All, Option, Some, Result, Ok, Err, IfErr}
use Rattle.std.specs.Result.{IsErrAnd}
use Rattle.std.proofs.lemmas.Result.{err_from_is_err_and}
use Rattle.std.proofs.lemmas.Bool.{both_ways, and_parts, cases_eq, true≢false}
use Rattle.std.specs.List.{sum_by}
use Rattle.std.proofs.lemmas.List.Sums.{sum_by-set}
use Rattle.std.proofs.lemmas.List.{length-append}
use Rattle.std.proofs.lemmas.List.Folds.{sum_by-replicate}
use Rattle.odb_check.specs.declared.plan.Plan.{Plan}
use Rattle.odb_check.specs.Plans.{plan_records}
use Rattle.odb_check.specs.PlanGraph.{IsPlan}
use Rattle.odb_doc.specs.declared.recorded.outcome.Outcome.{Outcome}
use Rattle.odb_sched.specs.declared.policy.Policy.{Policy}
use Rattle.odb_sched.specs.declared.phase.Phase.{Phase}
use Rattle.odb_sched.specs.declared.phase.Phase.TheVariants.{Unstarted, Running, Reported}
use Rattle.odb_sched.specs.declared.event.Event.{Event}
use Rattle.odb_sched.specs.declared.event.Event.TheVariants.{Start, Report}
use Rattle.odb_sched.specs.declared.event.Step.{Step}
use Rattle.odb_sched.specs.declared.event.Step.TheVariants as step
use Rattle.odb_sched.specs.declared.order.Order.{Order}
use Rattle.odb_exec.specs.declared.service.ServiceFault.{ServiceFault}
use Rattle.odb_exec.specs.declared.service.ServiceFault.TheVariants as service
use Rattle.odb_exec.specs.declared.execution.ExecFault.{ExecFault}
use Rattle.odb_exec.specs.declared.execution.ExecFault.TheVariants as fault
use Rattle.odb_dense.specs.Lists.{ListsOnce}
use Rattle.odb_doc.specs.Statuses.{is_status}
use Rattle.odb_sched.specs.run.State.{is_running, is_reported, State, size, phase_at, plan_graph, initial, after, started, reported}
use Rattle.odb_sched.specs.run.Steps.{may_start, may_report, may_come}
use Rattle.odb_sched.specs.run.Runs.{event_position, after_all, IsRunFrom}
use Rattle.odb_sched.specs.run.Answers.{outcome_of, reported as reported_at}
use Rattle.odb_sched.specs.invariants.Kept.{IsReached}
use Rattle.odb_sched.specs.run.Choosing.{Positions, positions_of, Allowance, ready_set, running_set, IsAllowed, position_in, MayTake, IsNext}
use Rattle.odb_exec.specs.Choices.{IsAmong}
use Rattle.odb_exec.specs.Courses.{Offer, IsOffered, step_of, AreChosen, IsCourse, IsReportEnabled, IsFinishedBy, IsCausedBy}
use Rattle.odb_exec.specs.Advances.{IsTaken, IsTakenBy}
use Rattle.odb_exec.specs.Calls.{Performing, IsCall, Asks, AsksAll, IsReportChosen, Faults, IsCutShort, Picking, Picks, PicksAll}
use Rattle.odb_sched.specs.run.Laws.{StartsAfterDependencies}
use Rattle.odb_doc.specs.batch.Records.{Record}
use Rattle.odb_sched.proofs.ChoiceLemmas.{positions-listed, listed-in}
use Rattle.odb_sched.proofs.PlanLemmas.{length-plan_graph}
use Rattle.odb_sched.proofs.PhaseLemmas.{get_or-replicate_Unstarted}
use Rattle.odb_sched.proofs.RunLemmas.{reached_after_all, reached_initial, joined, after_all-push, plan_graph-after, plan_graph-after_all, policy-after_all, requests-after_all}
use Rattle.odb_sched.proofs.EventLemmas.{left, move_start, move_report, reported_by}

listed-step : (state : State) (ready running : List ℕ) (s : Step) → ListsOnce (size state) (may_start state) ready → ListsOnce (size state) (λ i. is_running (phase_at state i)) running
    → IsAmong ready running s → (position_in s < size state) × MayTake state s
listed-step state ready running (step.Start i) starts runs among = listed-in (size state) (may_start state) ready i starts among
listed-step state ready running (step.Report i) starts runs among = listed-in (size state) (λ j. is_running (phase_at state j)) running i runs among

-- what is picked from the two lists may come next
pub next-from : (allows : Allowance) (state : State) (ready running : List ℕ) (s : Step)
    → ListsOnce (size state) (may_start state) ready → ListsOnce (size state) (λ i. is_running (phase_at state i)) running
    → IsAmong ready running s → allows (positions_of ready) (positions_of running) s → IsNext allows state s
next-from allows state ready running s starts runs among allowed =
    let (within, may) = listed-step state ready running s starts runs among in
    record {
      within = within;
      may = may;
      allowed = rw (← positions-listed (size state) (may_start state) ready starts, ← positions-listed (size state) (λ j. is_running (phase_at state j)) running runs) allowed;
    }

pub taken-start : (offers : Offer) (state new : State) (taking : Step) (i : ℕ) → taking ≡ step.Start i → MayTake state taking → new ≡ started state i → IsTaken offers state new taking
taken-start offers state new taking i same may is = record { event = Start i; step_is = same; may = subst (MayTake state) same may; offered = tt; new_is = is }

pub taken-report : (offers : Offer) (state new : State) (i : ℕ) (outcome : Outcome) → may_report state i outcome ≡ true → offers i (Ok outcome) → new ≡ reported state i outcome → IsTaken offers state new (step.Report i)
taken-report offers state new i outcome may offered is = record { event = Report i outcome; step_is = refl; may = may; offered = offered; new_is = is }

module _ {S : Type 0} (performs : Performing S) (requests : List Record) where
  pub taken-start_by : (offers : Offer) (state new : State) (service : S) (taking : Step) (i : ℕ) → taking ≡ step.Start i → MayTake state taking → new ≡ started state i → IsTakenBy performs requests offers state new service service taking
  unfolding taken-start
  taken-start_by offers state new service taking i same may is = record { taken = taken-start offers state new taking i same may is; asked = refl }

  pub taken-report_by : (offers : Offer) (state new : State) (old later : S) (i : ℕ) (outcome : Outcome) → may_report state i outcome ≡ true → offers i (Ok outcome) → IsCall performs requests i (Ok outcome) old later → new ≡ reported state i outcome
      → IsTakenBy performs requests offers state new old later (step.Report i)
  unfolding taken-report
  taken-report_by offers state new old later i outcome may offered call is = record { taken = taken-report offers state new i outcome may offered is; asked = call }

  -- one more event makes one more call
  pub asks-push : (events : List Event) (event : Event) (old now later : S) → AsksAll performs requests events old now → Asks performs requests event now later → AsksAll performs requests (events ++ event ∷ []) old later
  asks-push [] event old now later all one = (later, subst (λ s. Asks performs requests event s later) all one, refl)
  asks-push (e ∷ es) event old now later all one = (all.0, all.1, asks-push es event all.0 now later all.2 one)

-- how many events a run may still have
abbrev pub events_left : State → ℕ
events_left state = sum_by left state.phases

pub left_at_first : (source : Plan) (policy : Policy) → events_left (initial source policy) ≡ 2 * length (plan_graph source).units
left_at_first source policy = let all : sum_by left (replicate (length (plan_graph source).units) Unstarted) ≡ length (plan_graph source).units * 2 = sum_by-replicate left (length (plan_graph source).units) Unstarted in omega arith

left-set : (state : State) (i : ℕ) (old new : Phase) → IsReached state → i < size state → phase_at state i ≡ old → left new + 1 ≡ left old → events_left (record state { phases = slice_set state.phases i new }) + 1 ≡ events_left state
left-set state i old new reached within before_is fewer =
    let each : length state.phases ≡ size state = reached.each in
    let count = sum_by-set left state.phases i new Unstarted (omega arith) in
    let here : left (phase_at state i) ≡ left old = ap left before_is in
    omega arith

-- each event takes one of them
pub left_after_event : (state : State) (event : Event) → IsReached state → event_position event < size state → may_come state event ≡ true → events_left (after state event) + 1 ≡ events_left state
left_after_event state (Start i) reached within may = left-set state i Unstarted Running reached within (move_start state i reached within may).before_is refl
left_after_event state (Report i outcome) reached within may = left-set state i Running (Reported outcome) reached within (move_report state i outcome reached within may).before_is refl

-- what was done so far, and what chooser and service allow and offer now
pub record SoFar (allows allows_now : Allowance) (offers offers_now : Offer) (first state : State) (steps : List Step) : Type 0 where
  pub events : List Event
  pub course : IsCourse allows offers first events
  pub steps_are : steps ≡ map step_of events
  pub state_is : state ≡ after_all first events
  pub allowed : (ready running : Positions) (step : Step) → allows_now ready running step → allows ready running step
  pub offered : (i : ℕ) (answer : Result Outcome ServiceFault) → is_reported (phase_at state i) ≡ false → offers_now i answer → offers i answer
  pub count : length steps + events_left state ≡ events_left first

pub chosen-push : (allows : Allowance) (offers : Offer) (state : State) (events : List Event) (event : Event) → AreChosen allows offers state events
    → IsAllowed allows (after_all state events) (step_of event) → IsOffered offers event → AreChosen allows offers state (events ++ event ∷ [])
chosen-push allows offers state [] event chosen allowed offered = (allowed, offered, tt)
chosen-push allows offers state (e ∷ es) event chosen allowed offered = (chosen.0, chosen.1, chosen-push allows offers (after state e) es event chosen.2 allowed offered)

pub map-push : (events : List Event) (event : Event) → map step_of (events ++ event ∷ []) ≡ map step_of events ++ step_of event ∷ []
map-push [] event = refl
map-push (e ∷ es) event = ap (λ steps. step_of e ∷ steps) (map-push es event)

pub position-step : (event : Event) → position_in (step_of event) ≡ event_position event
position-step (Start i) = refl
position-step (Report i outcome) = refl

running_open : (phase : Phase) → is_running phase ≡ true → is_reported phase ≡ false
running_open Running e = refl
running_open phase e = cc

-- a request that is not reported after a step was not reported before it, and was not the one reported
pub still_open : (state : State) (event : Event) (i : ℕ) → IsReached state → event_position event < size state → may_come state event ≡ true → is_reported (phase_at (after state event) i) ≡ false
    → (is_reported (phase_at state i) ≡ false) × (step_of event ≡ step.Report i → ⊥)
still_open state (Start j) i reached within may fresh = let move = move_start state j reached within may in (
  elim (cases_eq i j) [
    | inl here ↦ rw (here, move.before_is) refl
    | inr elsewhere ↦ ap is_reported (sym (move.others i elsewhere)) ∙ fresh
  ],
  λ same. (cc),
)
still_open state (Report j outcome) i reached within may fresh = let move = move_report state j outcome reached within may in
    elim (cases_eq i j) [
      | inl here ↦ absurd (both_ways _ fresh (rw (here, move.after_is) refl))
      | inr elsewhere ↦ (ap is_reported (sym (move.others i elsewhere)) ∙ fresh, λ same. elsewhere (sym (ap position_in same)))
    ]

-- an outcome that is offered now for a request that runs was offered at first
pub offered-first : (offers offers_now : Offer) (state : State) (event : Event)
    → ((i : ℕ) (answer : Result Outcome ServiceFault) → is_reported (phase_at state i) ≡ false → offers_now i answer → offers i answer)
    → may_come state event ≡ true → IsOffered offers_now event → IsOffered offers event
offered-first offers offers_now state (Start i) first may offered = tt
offered-first offers offers_now state (Report i outcome) first may offered =
    first i (Ok outcome) (running_open (phase_at state i) (and_parts (is_running (phase_at state i)) (is_status outcome.status) may).0) offered

-- a step takes one of the remaining events
pub fewer-left : (allows : Allowance) (offers : Offer) (state new : State) (s : Step) → IsReached state → IsNext allows state s → IsTaken offers state new s → events_left new + 1 ≡ events_left state
fewer-left allows offers state new s reached next taken =
    let within : event_position taken.event < size state = subst (λ i. i < size state) (ap position_in taken.step_is ∙ position-step taken.event) next.within in
    let last : events_left new ≡ events_left (after state taken.event) = ap events_left taken.new_is in
    let fewer : events_left (after state taken.event) + 1 ≡ events_left state = left_after_event state taken.event reached within taken.may in
    omega arith

module _ (allows allows_now allows_later : Allowance) (offers offers_now offers_later : Offer) (first state new : State) (steps : List Step) (s : Step) where
  unfoldable pub one_more : (all : List Step) → all ≡ steps ++ s ∷ [] → IsReached first → SoFar allows allows_now offers offers_now first state steps → IsNext allows_now state s → IsTaken offers_now state new s
      → ((ready running : Positions) (other : Step) → allows_later ready running other → allows_now ready running other)
      → ((i : ℕ) (answer : Result Outcome ServiceFault) → (s ≡ step.Report i → ⊥) → offers_later i answer → offers_now i answer)
      → SoFar allows allows_later offers offers_later first new all
  one_more all whole reached far next taken narrows offered =
      let event = taken.event in
      let here : state ≡ after_all first far.events = far.state_is in
      let now : IsReached state = subst IsReached (sym here) (reached_after_all first far.events reached far.course.run) in
      let within : event_position event < size state = subst (λ i. i < size state) (ap position_in taken.step_is ∙ position-step event) next.within in
      let chosen : IsAllowed allows state (step_of event) = subst (IsAllowed allows state) taken.step_is (far.allowed (ready_set state) (running_set state) s next.allowed) in
      record {
        events = far.events ++ event ∷ [];
        course = record {
          run = joined first far.events event far.course.run (subst (λ x. event_position event < size x) here within) (subst (λ x. may_come x event ≡ true) here taken.may);
          chosen = chosen-push allows offers first far.events event far.course.chosen (subst (λ x. IsAllowed allows x (step_of event)) here chosen)
              (offered-first offers offers_now state event far.offered taken.may taken.offered);
        };
        steps_are = whole ∙ ap (λ xs. xs ++ s ∷ []) far.steps_are ∙ ap (λ x. map step_of far.events ++ x ∷ []) taken.step_is ∙ sym (map-push far.events event);
        state_is = taken.new_is ∙ ap (λ x. after x event) here ∙ sym (after_all-push first far.events event);
        allowed = λ ready running other e. far.allowed ready running other (narrows ready running other e);
        offered = λ i answer fresh e.
            let parts = still_open state event i now within taken.may (ap (λ x. is_reported (phase_at x i)) (sym taken.new_is) ∙ fresh) in
            far.offered i answer parts.0 (offered i answer (λ same. parts.1 (sym taken.step_is ∙ same)) e);
        count =
            let fewer : events_left (after state event) + 1 ≡ events_left state = left_after_event state event now within taken.may in
            let last : events_left new ≡ events_left (after state event) = ap events_left taken.new_is in
            let longer : length all ≡ length steps + 1 = ap length whole ∙ length-append steps (s ∷ []) in
            let before : length steps + events_left state ≡ events_left first = far.count in
            omega arith;
      }

  -- the next step is the report of a request, so it is due
  due-next : SoFar allows allows_now offers offers_now first state steps → IsNext allows_now state s → (i : ℕ) → s ≡ step.Report i → IsReportEnabled allows offers first i
  due-next far next i same =
      let report : IsNext allows_now state (step.Report i) = subst (IsNext allows_now state) same next in
      let here : state ≡ after_all first far.events = far.state_is in
      record {
        events = far.events;
        course = far.course;
        within = subst (λ plan_graph. i < length plan_graph.units) (ap (λ x. x.plan_graph) here ∙ plan_graph-after_all first far.events) report.within;
        runs = subst (λ x. is_running (phase_at x i) ≡ true) here report.may;
        allowed = subst (λ x. IsAllowed allows x (step.Report i)) here (far.allowed (ready_set state) (running_set state) (step.Report i) report.allowed);
      }

  -- and what is offered for it now was offered at first
  offered-next : SoFar allows allows_now offers offers_now first state steps → IsNext allows_now state s → (i : ℕ) (answer : Result Outcome ServiceFault) → s ≡ step.Report i → offers_now i answer → offers i answer
  offered-next far next i answer same e = far.offered i answer (running_open (phase_at state i) (subst (IsNext allows_now state) same next).may) e

  pub caused-first : SoFar allows allows_now offers offers_now first state steps → IsNext allows_now state s → (cause : ExecFault) → IsCausedBy offers_now (λ i. s ≡ step.Report i) cause → IsCausedBy offers (IsReportEnabled allows offers first) cause
  caused-first far next (fault.NoOutcome i) (same, e) = (due-next far next i same, offered-next far next i (Err service.NoOutcome) same e)
  caused-first far next (fault.Service i) (same, e) = (due-next far next i same, offered-next far next i (Err service.Failed) same e)
  caused-first far next (fault.BadStatus i) (same, (outcome, e, bad)) = (due-next far next i same, (outcome, offered-next far next i (Ok outcome) same e, bad))
  caused-first far next fault.OutOfMemory e = tt

-- before the first step
unfoldable pub so_far-first : (allows : Allowance) (offers : Offer) (first state : State) (steps : List Step) → state ≡ first → steps ≡ [] → SoFar allows allows offers offers first state steps
so_far-first allows offers first state steps here none = record {
  events = [];
  course = record { run = tt; chosen = tt };
  steps_are = none;
  state_is = here;
  allowed = λ ready running step e. e;
  offered = λ i answer fresh e. e;
  count =
      let count : length steps ≡ 0 = ap length none in
      let left : events_left state ≡ events_left first = ap events_left here in
      omega arith;
}

-- the next step is due after what was done so far, and was picked, so its fault is that of the whole
module _ {S C : Type 0} (performs : Performing S) (chooses : Picking C) (names : C → Option Order) (requests : List Record) (allows allows_now : Allowance) (offers offers_now : Offer) (first state : State) (steps : List Step) (s : Step)
    (far : SoFar allows allows_now offers offers_now first state steps) (next : IsNext allows_now state s) (chooser chooser_new : C) (picked : Picks chooses (names chooser) state s chooser chooser_new) where
  due-now : (i : ℕ) → s ≡ step.Report i → IsReportChosen allows chooses names (after_all first far.events) chooser chooser_new i
  due-now i same =
      let report : IsNext allows_now state (step.Report i) = subst (IsNext allows_now state) same next in
      rw (← far.state_is) (record {
        within = report.within;
        runs = report.may;
        allowed = far.allowed (ready_set state) (running_set state) (step.Report i) report.allowed;
        picked = subst (λ x. Picks chooses (names chooser) state x chooser chooser_new) same picked;
      })

  pub faults-now : (cause : ExecFault) (old new : S) → Faults performs requests (λ i. s ≡ step.Report i) cause old new
      → Faults performs requests (IsReportChosen allows chooses names (after_all first far.events) chooser chooser_new) cause old new
  faults-now (fault.NoOutcome i) old new faulty = (due-now i faulty.0, faulty.1)
  faults-now (fault.Service i) old new faulty = (due-now i faulty.0, faulty.1)
  faults-now (fault.BadStatus i) old new (same, outcome, bad, call) = (due-now i same, outcome, bad, call)
  faults-now fault.OutOfMemory old new faulty = (faulty.0, due-now faulty.0 faulty.1, faulty.2)

  cut_short : (cause : ExecFault) (service old new : S) (chooser_first : C) → StartsAfterDependencies requests far.events → AsksAll performs requests far.events service old → PicksAll chooses names first far.events chooser_first chooser
      → Faults performs requests (λ i. s ≡ step.Report i) cause old new → IsCutShort allows offers performs chooses names requests first service new chooser_first chooser_new cause
  cut_short cause service old new chooser_first ended calls choices faulty = record {
    events = far.events;
    course = far.course;
    dependencies_first = ended;
    between = old;
    calls = calls;
    chooser_between = chooser;
    choices = choices;
    faulty = faults-now cause old new faulty;
  }

  -- at the exit of a `?` on that fault
  pub cut_short_at : {T : Type 0} (returned : Result T ExecFault) (cause : ExecFault) (service old new : S) (chooser_first : C) → IsErrAnd returned (λ other. other ≡ cause) → StartsAfterDependencies requests far.events
      → AsksAll performs requests far.events service old → PicksAll chooses names first far.events chooser_first chooser → Faults performs requests (λ i. s ≡ step.Report i) cause old new
      → IfErr returned (IsCutShort allows offers performs chooses names requests first service new chooser_first chooser_new)
  cut_short_at returned cause service old new chooser_first exit ended calls choices faulty =
      let (other, same, is) = err_from_is_err_and returned exit in
      subst (λ r. IfErr r (IsCutShort allows offers performs chooses names requests first service new chooser_first chooser_new)) (sym same)
      (subst (IsCutShort allows offers performs chooses names requests first service new chooser_first chooser_new) (sym is) (cut_short cause service old new chooser_first ended calls choices faulty))

module _ (source : Plan) (policy : Policy) where
  left-source : events_left (initial source policy) ≡ 2 * length (plan_records source)
  left-source = let units : length (plan_graph source).units ≡ length (plan_records source) = length-plan_graph source in let all = left_at_first source policy in omega arith

  -- room for two steps per request is enough
  pub room-first : (state : State) (steps : List Step) (room : ℕ) → state ≡ initial source policy → steps ≡ [] → 2 * length (plan_records source) ≤ room → length steps + events_left state ≤ room
  room-first state steps room here none enough =
      let count : length steps ≡ 0 = ap length none in
      let all : events_left state ≡ events_left (initial source policy) = ap events_left here in
      let most = left-source in
      omega arith

  module _ (allows allows_now : Allowance) (offers offers_now : Offer) (state : State) (steps : List Step) (far : SoFar allows allows_now offers offers_now (initial source policy) state steps) where
    pub few-steps : length steps ≤ 2 * length (plan_records source)
    few-steps = let count : length steps + events_left state ≡ events_left (initial source policy) = far.count in let most = left-source in omega arith

    same-size : size state ≡ length (plan_records source)
    same-size = ap size far.state_is ∙ ap (λ plan_graph. length plan_graph.units) (plan_graph-after_all (initial source policy) far.events) ∙ length-plan_graph source

    pub next-within : (s : Step) → IsNext allows_now state s → position_in s < length (plan_records source)
    next-within s next = subst (λ n. position_in s < n) same-size next.within

    pub reached-so_far : IsPlan (plan_graph source) → IsReached state
    reached-so_far laws = subst IsReached (sym far.state_is) (reached_after_all (initial source policy) far.events (reached_initial source policy laws) far.course.run)

    -- a step that was taken leaves one event fewer
    pub fewer-taken : {S : Type 0} (performs : Performing S) (requests : List Record) (before new : State) (old later : S) (s : Step) → IsPlan (plan_graph source) → before ≡ state → IsNext allows_now state s
        → IsTakenBy performs requests offers_now before new old later s → events_left new + 1 ≡ events_left state
    fewer-taken performs requests before new old later s laws here next by = fewer-left allows_now offers_now state new s (reached-so_far laws) next (subst (λ x. IsTaken offers_now x new s) here by.taken)

    pub same-policy : state.policy ≡ policy
    same-policy = ap (λ s. s.policy) far.state_is ∙ policy-after_all (initial source policy) far.events

-- each step is of a request that there is
pub steps-within : (state : State) (events : List Event) → IsRunFrom state events → All (λ s. position_in s < size state) (map step_of events)
steps-within state [] run k d within = absurd (omega arith)
steps-within state (e ∷ es) run zero d within = subst (λ i. i < size state) (sym (position-step e)) run.0
steps-within state (e ∷ es) run (suc k) d within =
    subst (λ plan_graph. position_in (get_or (map step_of es) k d) < length plan_graph.units) (plan_graph-after state e) (steps-within (after state e) es run.2 k d (omega arith))

-- what is reported after a course was reported before it, or is offered
offered_after : (allows : Allowance) (offers : Offer) (state : State) (events : List Event) (i : ℕ) (outcome : Outcome) → AreChosen allows offers state events
    → phase_at (after_all state events) i ≡ Reported outcome → (phase_at state i ≡ Reported outcome) ⊎ offers i (Ok outcome)
offered_after allows offers state [] i outcome chosen e = inl e
offered_after allows offers state (event ∷ es) i outcome chosen e = elim (offered_after allows offers (after state event) es i outcome chosen.2 e) [
  | inl early ↦ elim (reported_by state event i outcome early) [
    | inl before ↦ inl before
    | inr now ↦ inr (subst (IsOffered offers) now chosen.1)
  ]
  | inr later ↦ inr later
]

Reported-is : (phase : Phase) (outcome : Outcome) → outcome_of phase ≡ Some outcome → phase ≡ Reported outcome
Reported-is (Reported other) outcome e = cc
Reported-is phase outcome e = cc

module _ (source : Plan) (policy : Policy) (allows : Allowance) (offers : Offer) (steps : List Step) (last : State) (course : IsFinishedBy allows offers (initial source policy) steps last) where
  pub finished-within : All (λ s. position_in s < size last) steps
  finished-within = subst (λ xs. All (λ s. position_in s < size last) xs) (sym course.steps_are)
      (subst (λ n. All (λ s. position_in s < n) (map step_of course.events))
      (sym (ap size course.last_is ∙ ap (λ plan_graph. length plan_graph.units) (plan_graph-after_all (initial source policy) course.events)))
      (steps-within (initial source policy) course.events course.course.run))

  pub finished-requests : last.requests ≡ plan_records source
  finished-requests = ap (λ s. s.requests) course.last_is ∙ requests-after_all (initial source policy) course.events

  -- each outcome that is reported was offered
  pub finished-offered : (i : ℕ) (outcome : Outcome) → reported_at last i ≡ Some outcome → offers i (Ok outcome)
  finished-offered i outcome e =
      elim (offered_after allows offers (initial source policy) course.events i outcome course.course.chosen
      (ap (λ s. phase_at s i) (sym course.last_is) ∙ Reported-is (phase_at last i) outcome e)) [
        | inl early ↦ absurd (true≢false (sym (ap is_reported early) ∙ ap is_reported (get_or-replicate_Unstarted (length (plan_graph source).units) i)))
        | inr offer ↦ offer
      ]

-- the error of a `?` that keeps its type
pub same_error : {T E : Type 0} (result : Result T E) (P : E → Type 0) (cause : E) → IsErrAnd result (λ e. e ≡ cause) → P cause → IfErr result P
same_error (Ok value) P cause is holds = absurd is
same_error (Err e) P cause is holds = subst P (sym is) holds
