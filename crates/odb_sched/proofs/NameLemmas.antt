-- A run by recorded events is a live run: so no request starts in it before all that it names has ended with success.
use Rattle.std.proofs.Common.{◌≡◌, ◌∙◌, refl, sym, ap, subst, List, [], ◌∷◌, inl, inr, map}
use Rattle.std.proofs.lemmas.List.{map-append}
use Rattle.odb_doc.specs.batch.Records.{Record}
use Rattle.odb_check.specs.PlanGraph.{HasNamesAsNeeds, IsPlan, IsPlanGraphOf}
use Rattle.odb_check.specs.Plans.{batch_plan_graph}
use Rattle.odb_sched.specs.declared.policy.Policy.{Policy}
use Rattle.odb_sched.specs.declared.event.Event.{Event}
use Rattle.odb_sched.specs.declared.event.Event.TheVariants.{Start, Report}
use Rattle.odb_sched.specs.run.State.{State, after, first_state, without_requests}
use Rattle.odb_sched.specs.run.Steps.{may_come}
use Rattle.odb_sched.specs.run.Runs.{IsRunFrom, after_all}
use Rattle.odb_sched.specs.run.Laws.{HasSuccess, StartsAfterDependencies}
use Rattle.odb_sched.specs.run.LiveEvents.{Single, IsLiveRunFrom, after_all_live, singles}
use Rattle.odb_sched.proofs.LivePromiseLemmas.{also, starts_after_named}

-- which event may come, and what it changes, does not depend on the requests
may_come-bare : (state : State) (event : Event) → may_come (without_requests state) event ≡ may_come state event
may_come-bare state (Start i) = refl
may_come-bare state (Report i outcome) = refl

after-bare : (state : State) (event : Event) → after (without_requests state) event ≡ without_requests (after state event)
after-bare state (Start i) = refl
after-bare state (Report i outcome) = refl

-- events are live events one by one
pub after_all-bare : (state : State) (events : List Event) → after_all_live (without_requests state) (map Single events) ≡ without_requests (after_all state events)
after_all-bare state [] = refl
after_all-bare state (e ∷ es) = ap (λ (s : State). after_all_live s (map Single es)) (after-bare state e) ∙ after_all-bare (after state e) es

pub live_run_from : (state : State) (events : List Event) → IsRunFrom state events → IsLiveRunFrom (without_requests state) (map Single events)
live_run_from state [] run = tt
live_run_from state (e ∷ es) run = (run.0, may_come-bare state e ∙ run.1, subst (λ (s : State). IsLiveRunFrom s (map Single es)) (sym (after-bare state e)) (live_run_from (after state e) es run.2))

singles_of : (events : List Event) → singles (map Single events) ≡ events
singles_of [] = refl
singles_of (e ∷ es) = ap (λ rest. e ∷ rest) (singles_of es)

pub dependencies_first : (requests : List Record) (policy : Policy) (events : List Event) → IsPlan (batch_plan_graph requests) → IsPlanGraphOf requests (batch_plan_graph requests) → HasNamesAsNeeds requests (batch_plan_graph requests)
    → IsRunFrom (first_state requests policy) events → StartsAfterDependencies requests events
dependencies_first requests policy events laws graph named run before later i whole =
    also requests i _ (HasSuccess before) (λ r either. elim either [ inl none ↦ absurd none | inr done ↦ subst (λ es. HasSuccess es r) (singles_of before) done ])
    (starts_after_named requests policy laws graph named (map Single events) (live_run_from (first_state requests policy) events run) (map Single before) (map Single later) (Single (Start i)) i (ap (map Single) whole ∙ map-append Single before (Start i ∷ later)) refl)
