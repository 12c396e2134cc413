-- Runs by their parts: what holds of a state along a run.
use Rattle.std.proofs.Common.{◌<◌, ◌≡◌, ◌<◌, ◌∙◌, refl, true, List, [], ◌∷◌, ◌++◌}
use Rattle.odb_check.specs.declared.plan.Plan.{Plan}
use Rattle.odb_check.specs.Plans.{plan_records}
use Rattle.odb_check.specs.PlanGraph.{IsPlan}
use Rattle.odb_sched.specs.invariants.Kept.{first_of, IsReached}
use Rattle.odb_sched.specs.declared.policy.Policy.{Policy}
use Rattle.odb_sched.specs.declared.event.Event.{Event}
use Rattle.odb_sched.specs.declared.event.Event.TheVariants.{Start, Report}
use Rattle.odb_sched.specs.run.State.{State, plan_graph, size, initial, after}
use Rattle.odb_sched.specs.run.Steps.{may_come}
use Rattle.odb_sched.specs.run.Runs.{event_position, after_all, IsRunFrom, IsRun, state_after}
use Rattle.odb_sched.proofs.ReachedLemmas.{reached_first, reached_with, reached_after}

pub reached_after_all : (state : State) (events : List Event) → IsReached state → IsRunFrom state events → IsReached (after_all state events)
reached_after_all state [] reached run = reached
reached_after_all state (e ∷ es) reached run = reached_after_all (after state e) es (reached_after state e reached run.0 run.1) run.2

pub reached_initial : (source : Plan) (policy : Policy) → IsPlan (plan_graph source) → IsReached (initial source policy)
reached_initial source policy laws = reached_with (plan_records source) (first_of (plan_graph source) policy) (reached_first (plan_graph source) policy laws)

pub reached_run : (source : Plan) (policy : Policy) (events : List Event) → IsPlan (plan_graph source) → IsRun source policy events → IsReached (state_after source policy events)
reached_run source policy events laws run = reached_after_all (initial source policy) events (reached_initial source policy laws) run

-- events one after another
pub after_all-push : (state : State) (events : List Event) (event : Event) → after_all state (events ++ event ∷ []) ≡ after (after_all state events) event
after_all-push state [] event = refl
after_all-push state (e ∷ es) event = after_all-push (after state e) es event

pub plan_graph-after : (state : State) (event : Event) → (after state event).plan_graph ≡ state.plan_graph
plan_graph-after state (Start i) = refl
plan_graph-after state (Report i outcome) = refl

pub plan_graph-after_all : (state : State) (events : List Event) → (after_all state events).plan_graph ≡ state.plan_graph
plan_graph-after_all state [] = refl
plan_graph-after_all state (e ∷ es) = plan_graph-after_all (after state e) es ∙ plan_graph-after state e

-- a run continues with an event that may come
pub joined : (state : State) (before : List Event) (event : Event) → IsRunFrom state before → event_position event < size (after_all state before) → may_come (after_all state before) event ≡ true → IsRunFrom state (before ++ event ∷ [])
joined state [] event run within may = (within, may, tt)
joined state (e ∷ es) event run within may = (run.0, run.1, joined (after state e) es event run.2 within may)

policy-after : (state : State) (event : Event) → (after state event).policy ≡ state.policy
policy-after state (Start i) = refl
policy-after state (Report i outcome) = refl

pub policy-after_all : (state : State) (events : List Event) → (after_all state events).policy ≡ state.policy
policy-after_all state [] = refl
policy-after_all state (e ∷ es) = policy-after_all (after state e) es ∙ policy-after state e

closed-after : (state : State) (event : Event) → (after state event).closed ≡ state.closed
closed-after state (Start i) = refl
closed-after state (Report i outcome) = refl

-- no event closes a run
pub closed-after_all : (state : State) (events : List Event) → (after_all state events).closed ≡ state.closed
closed-after_all state [] = refl
closed-after_all state (e ∷ es) = closed-after_all (after state e) es ∙ closed-after state e

requests-after : (state : State) (event : Event) → (after state event).requests ≡ state.requests
requests-after state (Start i) = refl
requests-after state (Report i outcome) = refl

pub requests-after_all : (state : State) (events : List Event) → (after_all state events).requests ≡ state.requests
requests-after_all state [] = refl
requests-after_all state (e ∷ es) = requests-after_all (after state e) es ∙ requests-after state e
