-- In an order, and with recorded outcomes, a run has one course: each step and each event is determined by the state.
use Rattle.std.proofs.Common.{◌≡◌, ℕ, ◌<◌, ◌≤◌, ◌∙◌, ap, sym, refl, subst, arith, true, false, List, [], ◌∷◌, length, map, Option, Result, Ok, Err}
use Rattle.std.proofs.lemmas.Bool.{both_ways, and_parts}
use Rattle.odb_doc.specs.declared.recorded.outcome.Outcome.{Outcome}
use Rattle.odb_sched.specs.declared.event.Event.{Event}
use Rattle.odb_sched.specs.declared.event.Event.TheVariants.{Start, Report}
use Rattle.odb_sched.specs.declared.order.Order.{Order}
use Rattle.odb_sched.specs.declared.order.Order.TheVariants as order
use Rattle.odb_sched.specs.declared.event.Step.{Step}
use Rattle.odb_sched.specs.declared.event.Step.TheVariants as step
use Rattle.odb_exec.specs.declared.service.ServiceFault.{ServiceFault}
use Rattle.odb_exec.specs.declared.service.ServiceFault.TheVariants as service
use Rattle.odb_exec.specs.declared.execution.ExecFault.{ExecFault}
use Rattle.odb_exec.specs.declared.execution.ExecFault.TheVariants as fault
use Rattle.odb_doc.specs.Statuses.{is_status}
use Rattle.odb_sched.specs.run.State.{is_running, State, size, phase_at, after}
use Rattle.odb_sched.specs.run.Steps.{may_come, is_finished}
use Rattle.odb_sched.specs.run.Runs.{event_position, after_all, IsRunFrom}
use Rattle.odb_sched.specs.run.Choosing.{Positions, IsLeast, IsGreatest, AllowsOrder, IsAllowed, ready_set, running_set}
use Rattle.odb_exec.specs.Courses.{Offer, step_of, IsOffered, AreChosen, IsReportEnabled, IsCausedBy}
use Rattle.odb_exec.specs.Recordings.{OffersRecorded, HasOneCourse, HasOneFault, FaultsOrFinishes}
use Rattle.odb_sched.proofs.RunLemmas.{plan_graph-after}
use Rattle.odb_sched.proofs.StuckLemmas.{none_starts, none_runs}

least_one : (positions : Positions) (i j : ℕ) → IsLeast positions i → IsLeast positions j → i ≡ j
least_one positions i j a b = let up : i ≤ j = a.least j b.among in let down : j ≤ i = b.least i a.among in omega arith

greatest_one : (positions : Positions) (i j : ℕ) → IsGreatest positions i → IsGreatest positions j → i ≡ j
greatest_one positions i j a b = let up : j ≤ i = a.greatest j b.among in let down : i ≤ j = b.greatest i a.among in omega arith

-- an order allows one step
step_one : (name : Order) (ready running : Positions) (s t : Step) → AllowsOrder name ready running s → AllowsOrder name ready running t → s ≡ t
step_one order.First ready running (step.Report i) (step.Report j) a b = ap step.Report (least_one running i j a b)
step_one order.First ready running (step.Report i) (step.Start j) a b = absurd (both_ways _ (b.0 i) a.among)
step_one order.First ready running (step.Start i) (step.Report j) a b = absurd (both_ways _ (a.0 j) b.among)
step_one order.First ready running (step.Start i) (step.Start j) a b = ap step.Start (least_one ready i j a.1 b.1)
step_one order.Last ready running (step.Report i) (step.Report j) a b = ap step.Report (greatest_one running i j a b)
step_one order.Last ready running (step.Report i) (step.Start j) a b = absurd (both_ways _ (b.0 i) a.among)
step_one order.Last ready running (step.Start i) (step.Report j) a b = absurd (both_ways _ (a.0 j) b.among)
step_one order.Last ready running (step.Start i) (step.Start j) a b = ap step.Start (greatest_one ready i j a.1 b.1)
step_one order.Wide ready running (step.Start i) (step.Start j) a b = ap step.Start (least_one ready i j a b)
step_one order.Wide ready running (step.Start i) (step.Report j) a b = absurd (both_ways _ (b.0 i) a.among)
step_one order.Wide ready running (step.Report i) (step.Start j) a b = absurd (both_ways _ (a.0 j) b.among)
step_one order.Wide ready running (step.Report i) (step.Report j) a b = ap step.Report (least_one running i j a.1 b.1)

-- no event may come if the run is finished
none_comes : (state : State) (event : Event) → is_finished state ≡ true → event_position event < size state → may_come state event ≡ true → ⊥
none_comes state (Start i) finished within may = both_ways _ (none_starts state i finished within) may
none_comes state (Report i outcome) finished within may = both_ways _ (none_runs state i finished within) (and_parts _ (is_status outcome.status) may).0

-- no event reports the answer
abbrev IsRefused : Result Outcome ServiceFault → Type 0
IsRefused (Ok outcome) = is_status outcome.status ≡ false
IsRefused (Err cause) = Unit {0}

-- the fault of such an answer
abbrev fault_of : ℕ → Result Outcome ServiceFault → ExecFault
fault_of i (Ok outcome) = fault.BadStatus i
fault_of i (Err service.NoOutcome) = fault.NoOutcome i
fault_of i (Err service.Failed) = fault.Service i
fault_of i (Err service.OutOfMemory) = fault.OutOfMemory

record IsFaultOf (offers : Offer) (such : ℕ → Type 0) (cause : ExecFault) : Type 0 where
  at : ℕ
  answer : Result Outcome ServiceFault
  here : such at
  offered : offers at answer
  refused : IsRefused answer
  cause_is : cause ≡ fault_of at answer

fault-from : (offers : Offer) (such : ℕ → Type 0) (cause : ExecFault) → (cause ≡ fault.OutOfMemory → ⊥) → IsCausedBy offers such cause → IsFaultOf offers such cause
fault-from offers such (fault.NoOutcome i) numbered (here, offered) = record { at = i; answer = Err service.NoOutcome; here = here; offered = offered; refused = tt; cause_is = refl }
fault-from offers such (fault.Service i) numbered (here, offered) = record { at = i; answer = Err service.Failed; here = here; offered = offered; refused = tt; cause_is = refl }
fault-from offers such (fault.BadStatus i) numbered (here, (outcome, offered, bad)) = record { at = i; answer = Ok outcome; here = here; offered = offered; refused = bad; cause_is = refl }
fault-from offers such fault.OutOfMemory numbered by = absurd (numbered refl)

outcome_one : (answer : Result Outcome ServiceFault) (a b : Outcome) → answer ≡ Ok a → answer ≡ Ok b → a ≡ b
outcome_one answer a b x y = cc

module _ (name : Order) (noted : List (Option Outcome)) where
  -- the record offers one answer for a position
  answer_one : (i j : ℕ) (a b : Result Outcome ServiceFault) → i ≡ j → OffersRecorded noted i a → OffersRecorded noted j b → a ≡ b
  answer_one i j a b same x y = let there : OffersRecorded noted i b = subst (λ k. OffersRecorded noted k b) (sym same) y in x ∙ sym there

  event_one : (e f : Event) → step_of e ≡ step_of f → IsOffered (OffersRecorded noted) e → IsOffered (OffersRecorded noted) f → e ≡ f
  event_one (Start i) (Start j) same x y = cc
  event_one (Start i) (Report j outcome) same x y = cc
  event_one (Report i outcome) (Start j) same x y = cc
  event_one (Report i outcome) (Report j other) same x y =
      let here : i ≡ j = cc in
      let equal : outcome ≡ other = outcome_one (Ok outcome) outcome other refl (answer_one i j (Ok outcome) (Ok other) here x y) in
      cc

  -- after a report that is allowed and refused there is no event
  none_after : (state : State) (e : Event) (i : ℕ) (a : Result Outcome ServiceFault) → IsAllowed (AllowsOrder name) state (step_of e) → IsOffered (OffersRecorded noted) e → may_come state e ≡ true
      → IsAllowed (AllowsOrder name) state (step.Report i) → OffersRecorded noted i a → IsRefused a → ⊥
  none_after state (Start j) i a comes offered may due given refused =
      let same : step.Start j ≡ step.Report i = step_one name (ready_set state) (running_set state) (step.Start j) (step.Report i) comes due in cc
  none_after state (Report j outcome) i a comes offered may due given refused =
      let same : step.Report j ≡ step.Report i = step_one name (ready_set state) (running_set state) (step.Report j) (step.Report i) comes due in
      let here : i ≡ j = cc in
      both_ways (is_status outcome.status) (subst IsRefused (answer_one i j a (Ok outcome) here given offered) refused) (and_parts (is_running (phase_at state j)) (is_status outcome.status) may).1

  events_one : (es fs : List Event) (state : State)
      → IsRunFrom state es → AreChosen (AllowsOrder name) (OffersRecorded noted) state es → is_finished (after_all state es) ≡ true
      → IsRunFrom state fs → AreChosen (AllowsOrder name) (OffersRecorded noted) state fs → is_finished (after_all state fs) ≡ true → es ≡ fs
  events_one [] [] state run chosen finished run' chosen' finished' = refl
  events_one [] (f ∷ fs) state run chosen finished run' chosen' finished' = absurd (none_comes state f finished run'.0 run'.1)
  events_one (e ∷ es) [] state run chosen finished run' chosen' finished' = absurd (none_comes state e finished' run.0 run.1)
  events_one (e ∷ es) (f ∷ fs) state run chosen finished run' chosen' finished' =
      let same : e ≡ f = event_one e f (step_one name (ready_set state) (running_set state) (step_of e) (step_of f) chosen.0 chosen'.0) chosen.1 chosen'.1 in
      let rest : es ≡ fs = events_one es fs (after state e) run.2 chosen.2 finished
      (subst (λ g. IsRunFrom (after state g) fs) (sym same) run'.2)
      (subst (λ g. AreChosen (AllowsOrder name) (OffersRecorded noted) (after state g) fs) (sym same) chosen'.2)
      (subst (λ g. is_finished (after_all (after state g) fs) ≡ true) (sym same) finished') in
      cc

  -- no run finishes if another is due a report that is refused
  never_both : (es fs : List Event) (state : State) (i : ℕ) (a : Result Outcome ServiceFault)
      → IsRunFrom state es → AreChosen (AllowsOrder name) (OffersRecorded noted) state es → is_finished (after_all state es) ≡ true
      → IsRunFrom state fs → AreChosen (AllowsOrder name) (OffersRecorded noted) state fs
      → i < size state → is_running (phase_at (after_all state fs) i) ≡ true → IsAllowed (AllowsOrder name) (after_all state fs) (step.Report i)
      → OffersRecorded noted i a → IsRefused a → ⊥
  never_both [] [] state i a run chosen finished run' chosen' within runs due given refused = both_ways _ (none_runs state i finished within) runs
  never_both [] (f ∷ fs) state i a run chosen finished run' chosen' within runs due given refused = none_comes state f finished run'.0 run'.1
  never_both (e ∷ es) [] state i a run chosen finished run' chosen' within runs due given refused = none_after state e i a chosen.0 chosen.1 run.1 due given refused
  never_both (e ∷ es) (f ∷ fs) state i a run chosen finished run' chosen' within runs due given refused =
      let same : f ≡ e = event_one f e (step_one name (ready_set state) (running_set state) (step_of f) (step_of e) chosen'.0 chosen.0) chosen'.1 chosen.1 in
      never_both es fs (after state e) i a run.2 chosen.2 finished
      (subst (λ g. IsRunFrom (after state g) fs) same run'.2)
      (subst (λ g. AreChosen (AllowsOrder name) (OffersRecorded noted) (after state g) fs) same chosen'.2)
      (subst (λ plan_graph. i < length plan_graph.units) (sym (plan_graph-after state e)) within)
      (subst (λ g. is_running (phase_at (after_all (after state g) fs) i) ≡ true) same runs)
      (subst (λ g. IsAllowed (AllowsOrder name) (after_all (after state g) fs) (step.Report i)) same due)
      given refused

  -- two runs that are each due a report that is refused are due the same
  due_one : (es fs : List Event) (state : State) (i j : ℕ) (a b : Result Outcome ServiceFault)
      → IsRunFrom state es → AreChosen (AllowsOrder name) (OffersRecorded noted) state es → IsAllowed (AllowsOrder name) (after_all state es) (step.Report i) → OffersRecorded noted i a → IsRefused a
      → IsRunFrom state fs → AreChosen (AllowsOrder name) (OffersRecorded noted) state fs → IsAllowed (AllowsOrder name) (after_all state fs) (step.Report j) → OffersRecorded noted j b → IsRefused b
      → i ≡ j
  due_one [] [] state i j a b run chosen due given refused run' chosen' due' given' refused' =
      let same : step.Report i ≡ step.Report j = step_one name (ready_set state) (running_set state) (step.Report i) (step.Report j) due due' in cc
  due_one [] (f ∷ fs) state i j a b run chosen due given refused run' chosen' due' given' refused' = absurd (none_after state f i a chosen'.0 chosen'.1 run'.1 due given refused)
  due_one (e ∷ es) [] state i j a b run chosen due given refused run' chosen' due' given' refused' = absurd (none_after state e j b chosen.0 chosen.1 run.1 due' given' refused')
  due_one (e ∷ es) (f ∷ fs) state i j a b run chosen due given refused run' chosen' due' given' refused' =
      let same : f ≡ e = event_one f e (step_one name (ready_set state) (running_set state) (step_of f) (step_of e) chosen'.0 chosen.0) chosen'.1 chosen.1 in
      due_one es fs (after state e) i j a b run.2 chosen.2 due given refused
      (subst (λ g. IsRunFrom (after state g) fs) same run'.2)
      (subst (λ g. AreChosen (AllowsOrder name) (OffersRecorded noted) (after state g) fs) same chosen'.2)
      (subst (λ g. IsAllowed (AllowsOrder name) (after_all (after state g) fs) (step.Report j)) same due')
      given' refused'

  pub one_course : (state : State) → HasOneCourse name noted state
  one_course state steps others last end a b =
      let same : a.events ≡ b.events = events_one a.events b.events state a.course.run a.course.chosen (subst (λ s. is_finished s ≡ true) a.last_is a.finished)
      b.course.run b.course.chosen (subst (λ s. is_finished s ≡ true) b.last_is b.finished) in
      (a.steps_are ∙ ap (map step_of) same ∙ sym b.steps_are, a.last_is ∙ ap (after_all state) same ∙ sym b.last_is)

  pub one_fault : (state : State) → HasOneFault name noted state
  one_fault state cause other (numbered, by) (numbered', by') =
      let a = fault-from (OffersRecorded noted) (IsReportEnabled (AllowsOrder name) (OffersRecorded noted) state) cause numbered by in
      let b = fault-from (OffersRecorded noted) (IsReportEnabled (AllowsOrder name) (OffersRecorded noted) state) other numbered' by' in
      let place : a.at ≡ b.at = due_one a.here.events b.here.events state a.at b.at a.answer b.answer
      a.here.course.run a.here.course.chosen a.here.allowed a.offered a.refused b.here.course.run b.here.course.chosen b.here.allowed b.offered b.refused in
      let answer : a.answer ≡ b.answer = answer_one a.at b.at a.answer b.answer place a.offered b.offered in
      a.cause_is ∙ ap (λ i. fault_of i a.answer) place ∙ ap (fault_of b.at) answer ∙ sym b.cause_is

  pub fault_or_end : (state : State) → FaultsOrFinishes name noted state
  fault_or_end state cause steps last (numbered, by) done =
      let a = fault-from (OffersRecorded noted) (IsReportEnabled (AllowsOrder name) (OffersRecorded noted) state) cause numbered by in
      never_both done.events a.here.events state a.at a.answer done.course.run done.course.chosen (subst (λ s. is_finished s ≡ true) done.last_is done.finished)
      a.here.course.run a.here.course.chosen a.here.within a.here.runs a.here.allowed a.offered a.refused
