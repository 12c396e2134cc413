-- What an execution asks of its chooser, step by step.
use Rattle.std.proofs.Common.{◌≡◌, ◌∙◌, sym, subst, refl, Option, Some, None, IsSome, List, [], ◌∷◌, ◌++◌}
use Rattle.std.proofs.lemmas.Bool.{true≢false}
use Rattle.odb_doc.specs.batch.Records.{Record}
use Rattle.odb_sched.specs.declared.event.Event.{Event}
use Rattle.odb_sched.specs.declared.order.Order.{Order}
use Rattle.odb_sched.specs.declared.event.Step.{Step}
use Rattle.odb_sched.specs.declared.event.Step.TheVariants as step
use Rattle.odb_exec.specs.declared.execution.ExecFault.{ExecFault}
use Rattle.odb_exec.specs.declared.execution.ExecFault.TheVariants as fault
use Rattle.odb_sched.specs.run.State.{State, after}
use Rattle.odb_sched.specs.run.Runs.{after_all}
use Rattle.odb_sched.specs.run.Choosing.{Allowance}
use Rattle.odb_exec.specs.Courses.{Offer, step_of}
use Rattle.odb_exec.specs.Calls.{Picking, Picks, PicksAll, Performing, IsReportChosen, Faults, IsCutShort}

module _ {C : Type 0} (chooses : Picking C) (names : C → Option Order) where
  -- one more step asks once more
  pub picks-push : (first : State) (events : List Event) (event : Event) (old now later : C) → PicksAll chooses names first events old now
      → Picks chooses (names now) (after_all first events) (step_of event) now later → PicksAll chooses names first (events ++ event ∷ []) old later
  picks-push first [] event old now later all one = (later, subst (λ c. Picks chooses (names c) first (step_of event) c later) all one, refl)
  picks-push first (e ∷ es) event old now later all one = (all.0, all.1, picks-push (after first e) es event all.0 now later all.2 one)

  pub picked-event : (state other : State) (s : Step) (event : Event) (old new : C) → state ≡ other → s ≡ step_of event → Picks chooses (names old) state s old new → Picks chooses (names old) other (step_of event) old new
  picked-event state other s event old new here is picked = subst (λ x. Picks chooses (names old) x (step_of event) old new) here (subst (λ x. Picks chooses (names old) state x old new) is picked)

  -- where no step comes, nothing is asked
  pub no_step : (first : State) (events : List Event) (old now later : C) → later ≡ now → PicksAll chooses names first events old now → PicksAll chooses names first events old later
  no_step first events old now later same all = subst (PicksAll chooses names first events old) (sym same) all

  -- a step asks nothing of a chooser that names an order
  one-unasked : (order : Option Order) (state : State) (s : Step) (old new : C) → IsSome order → Picks chooses order state s old new → new ≡ old
  one-unasked None state s old new named picked = absurd (true≢false (sym named))
  one-unasked (Some order) state s old new named picked = picked

  pub unasked : (state : State) (events : List Event) (old new : C) → IsSome (names old) → PicksAll chooses names state events old new → new ≡ old
  unasked state [] old new named all = all
  unasked state (e ∷ es) old new named (next, one, rest) =
      let same : next ≡ old = one-unasked (names old) state (step_of e) old next named one in
      unasked (after state e) es next new (subst (λ c. IsSome (names c)) (sym same) named) rest ∙ same

  module _ {S : Type 0} (allows : Allowance) (offers : Offer) (performs : Performing S) (requests : List Record) (state : State) (between after_it : S) (old new : C) (named : IsSome (names old)) where
    due-unasked : (cause : ExecFault) → Faults performs requests (IsReportChosen allows chooses names state old new) cause between after_it → new ≡ old
    due-unasked (fault.NoOutcome i) faulty = one-unasked (names old) state (step.Report i) old new named faulty.0.picked
    due-unasked (fault.Service i) faulty = one-unasked (names old) state (step.Report i) old new named faulty.0.picked
    due-unasked (fault.BadStatus i) faulty = one-unasked (names old) state (step.Report i) old new named faulty.0.picked
    due-unasked fault.OutOfMemory faulty = one-unasked (names old) state (step.Report faulty.0) old new named faulty.1.picked

  pub cut-unasked : {S : Type 0} (allows : Allowance) (offers : Offer) (performs : Performing S) (requests : List Record) (state : State) (service service_new : S) (old new : C) (cause : ExecFault)
      → IsSome (names old) → IsCutShort allows offers performs chooses names requests state service service_new old new cause → new ≡ old
  cut-unasked allows offers performs requests state service service_new old new cause named cut =
      let same : cut.chooser_between ≡ old = unasked state cut.events old cut.chooser_between named cut.choices in
      due-unasked allows offers performs requests (after_all state cut.events) cut.between service_new cut.chooser_between new (subst (λ c. IsSome (names c)) (sym same) named) cause cut.faulty ∙ same
