-- Events one by one await no more than one report of a unit, and close no run.
use Rattle.std.proofs.Common.{◌≡◌, ℕ, zero, suc, false, List, [], ◌∷◌, replicate, refl, ap, arith}
use Rattle.odb_doc.specs.batch.Records.{Record}
use Rattle.odb_check.specs.PlanGraph.{unit_of}
use Rattle.odb_sched.specs.declared.event.Event.{Event}
use Rattle.odb_sched.specs.declared.event.Event.TheVariants as event
use Rattle.odb_sched.specs.declared.policy.Policy.{Policy}
use Rattle.odb_sched.specs.run.Runs.{after_all}
use Rattle.odb_sched.specs.run.State.{State, batch_plan_graph, first_state, reported, started}
use Rattle.odb_sched.specs.run.Steps.{places, spare_in}
use Rattle.odb_sched.proofs.LaneLemmas.{none_spare_after}

no-spare : (n : ℕ) → spare_in (replicate n 0) ≡ 0
no-spare zero = refl
no-spare (suc n) = no-spare n

spare-after : (state : State) (events : List Event) → spare_in state.awaited ≡ 0 → spare_in (after_all state events).awaited ≡ 0
spare-after state [] none = none
spare-after state (event.Start i ∷ events) none = spare-after (started state i) events none
spare-after state (event.Report i outcome ∷ events) none = spare-after (reported state i outcome) events (none_spare_after state.awaited (unit_of state.plan_graph i) none)

same-policy : (state : State) (events : List Event) → (after_all state events).policy ≡ state.policy
same-policy state [] = refl
same-policy state (event.Start i ∷ events) = same-policy (started state i) events
same-policy state (event.Report i outcome ∷ events) = same-policy (reported state i outcome) events

pub stays-open : (state : State) (events : List Event) → state.closed ≡ false → (after_all state events).closed ≡ false
stays-open state [] is = is
stays-open state (event.Start i ∷ events) is = stays-open (started state i) events is
stays-open state (event.Report i outcome ∷ events) is = stays-open (reported state i outcome) events is

pub all-places : (requests : List Record) (policy : Policy) (events : List Event) → places (after_all (first_state requests policy) events) ≡ policy.width
all-places requests policy events =
    let first = first_state requests policy in
    let none : spare_in (after_all first events).awaited ≡ 0 = spare-after first events (no-spare (batch_plan_graph requests).unit_count) in
    let same : (after_all first events).policy.width ≡ policy.width = ap (λ (p : Policy). p.width) (same-policy first events) in
    omega (arith, none, same)
