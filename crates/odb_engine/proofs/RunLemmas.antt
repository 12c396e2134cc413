-- Runs by recorded events: what is reported was recorded.
use Rattle.std.proofs.Common.{◌≡◌, ℕ, zero, suc, Bool, true, false, not, ◌&&◌, get_or, List, [], ◌∷◌, All, Option, Some, None, IfSome, if◌then◌else◌, sym, subst}
use Rattle.std.specs.List.{AllZip}
use Rattle.std.proofs.lemmas.List.Elements.{All-nil, All-cons, All-head, All-tail, All-set, All-replicate}
use Rattle.odb_doc.specs.declared.recorded.outcome.Outcome.{Outcome}
use Rattle.odb_doc.specs.recorded.Events.{EventValue, IsRecordableEvent, IsWellFormedEvent}
use Rattle.odb_doc.specs.recorded.Events as named
use Rattle.odb_doc.specs.batch.Records.{Record}
use Rattle.odb_doc.specs.WholeNumbers.{IsWhole}
use Rattle.odb_check.specs.PlanGraph.{unit_of}
use Rattle.odb_sched.specs.declared.event.Event.{Event}
use Rattle.odb_sched.specs.declared.event.Event.TheVariants as event
use Rattle.odb_sched.specs.declared.phase.Phase.{Phase}
use Rattle.odb_sched.specs.declared.phase.Phase.TheVariants.{Unstarted, Running, Reported}
use Rattle.odb_sched.specs.declared.policy.Policy.{Policy}
use Rattle.odb_sched.specs.declared.refusal.RunRefusal.{RunRefusal}
use Rattle.odb_sched.specs.declared.refusal.RunRefusal.TheVariants as refusal
use Rattle.odb_sched.specs.run.Refusals.{ResolveFault}
use Rattle.odb_doc.specs.declared.rule_fault.RuleFault.TheVariants as fault
use Rattle.odb_sched.specs.declared.event.ResolveRule.TheVariants.{UnknownEvent}
use Rattle.odb_sched.specs.run.Answers.{answer, answer_of, outcome_of}
use Rattle.odb_doc.specs.Refusals.{Printed}
use Rattle.odb_sched.specs.run.Refusals as refusals
use Rattle.odb_sched.specs.run.Resolving.{IsResolved, RefusesNamed}
use Rattle.odb_sched.specs.run.Runs.{Refuses, after_all}
use Rattle.odb_sched.specs.run.State.{State, phase_at, first_state, started, reported}
use Rattle.odb_doc.specs.Statuses.{is_success}
use Rattle.odb_sched.specs.run.Steps.{unit_succeeded}
use Rattle.odb_reply.specs.NotWhole.{HasWholeBody, HasWholeBodies}
use Rattle.odb_reply.specs.Readable.{AnswersBy, IsReadable}
use Rattle.odb_engine.specs.Runs.{AreResolved, IsLeastOfRun, end_of}
use Rattle.odb_engine.specs.Runs.IsLeastOfRun.{OfIds, OfEvent}

at-or : {X : Type 0} (P : X → Type 0) (xs : List X) (i : ℕ) (d : X) → P d → All P xs → P (get_or xs i d)
at-or P [] i d other each = other
at-or P (x ∷ xs) zero d other each = All-head P x xs each
at-or P (x ∷ xs) (suc i) d other each = at-or P xs i d other (All-tail P x xs each)

-- what holds of each recorded outcome holds of each answer
module _ (holds : Outcome → Type 0) where
  -- of the outcome that a request has reported, if any
  abbrev OnPhase : Phase → Type 0
  OnPhase phase = IfSome (outcome_of phase) holds

  abbrev OnEvent : Event → Type 0
  OnEvent (event.Start i) = Unit {0}
  OnEvent (event.Report i outcome) = holds outcome

  abbrev pub OnNamed : EventValue → Type 0
  OnNamed (named.Start id) = Unit {0}
  OnNamed (named.Report id outcome) = holds outcome

  on-resolved : (batch : List Record) (recorded : EventValue) (e : Event) → IsResolved batch recorded e → OnNamed recorded → OnEvent e
  on-resolved batch (named.Start id) (event.Start i) is so = tt
  on-resolved batch (named.Start id) (event.Report i outcome) is so = absurd is
  on-resolved batch (named.Report id outcome) (event.Start i) is so = absurd is
  on-resolved batch (named.Report id outcome) (event.Report i reported) (at, same) so = subst holds (sym same) so

  all-resolved : (batch : List Record) (recorded : List EventValue) (events : List Event) → AllZip (IsResolved batch) recorded events → All OnNamed recorded → All OnEvent events
  all-resolved batch [] [] is so = All-nil OnEvent
  all-resolved batch [] (e ∷ events) is so = absurd is
  all-resolved batch (n ∷ recorded) [] is so = absurd is
  all-resolved batch (n ∷ recorded) (e ∷ events) (is, rest) so =
      All-cons OnEvent e events (on-resolved batch n e is (All-head OnNamed n recorded so)) (all-resolved batch recorded events rest (All-tail OnNamed n recorded so))

  on-after : (state : State) (events : List Event) → All OnEvent events → All OnPhase state.phases → All OnPhase (after_all state events).phases
  on-after state [] each so = so
  on-after state (event.Start i ∷ events) each so =
      on-after (started state i) events (All-tail OnEvent _ events each) (All-set OnPhase state.phases i Running tt so)
  on-after state (event.Report i outcome ∷ events) each so =
      on-after (reported state i outcome) events (All-tail OnEvent _ events each) (All-set OnPhase state.phases i (Reported outcome) (All-head OnEvent _ events each) so)

  -- an answer shows what was reported, or nothing
  on-answer : (phase : Phase) (b : Bool) → OnPhase phase → IfSome (answer_of phase b) holds
  on-answer Unstarted b so = tt
  on-answer Running b so = tt
  on-answer (Reported outcome) b so = at (is_success outcome.status && not b)
    where
      at : (undone : Bool) → IfSome (if undone then None else Some outcome) holds
      at true = tt
      at false = so

  on-answers : (policy : Policy) (batch : List Record) (recorded : List EventValue) (events : List Event) → AreResolved batch recorded events → All OnNamed recorded
      → (i : ℕ) → IfSome (answer (end_of policy batch events) i) holds
  on-answers policy batch recorded events is so i =
      let first = first_state batch policy in
      let state = end_of policy batch events in
      let each = on-after first events (all-resolved batch recorded events is so) (All-replicate OnPhase _ Unstarted tt) in
      on-answer (phase_at state i) (unit_succeeded state (unit_of state.plan_graph i)) (at-or OnPhase state.phases i Unstarted tt each)

abbrev IsWholeOutcome : Outcome → Type 0
IsWholeOutcome outcome = IfSome outcome.body IsWhole

whole-named : (recorded : EventValue) → IsWellFormedEvent recorded → OnNamed IsWholeOutcome recorded
whole-named (named.Start id) sound = tt
whole-named (named.Report id outcome) sound = sound.whole

readable-named : (recorded : EventValue) → IsWellFormedEvent recorded → IsRecordableEvent recorded → OnNamed IsReadable recorded
readable-named (named.Start id) sound can = tt
readable-named (named.Report id outcome) sound can = record { held = can.0; whole = sound.whole; shallow = can.1 }

whole-body : (found : Option Outcome) → IfSome found IsWholeOutcome → HasWholeBody found
whole-body None so = tt
whole-body (Some outcome) so = so

-- a run by recorded events answers whole bodies alone
pub whole-bodies : (policy : Policy) (batch : List Record) (recorded : List EventValue) (events : List Event) → AreResolved batch recorded events → All IsWellFormedEvent recorded → HasWholeBodies (end_of policy batch events)
whole-bodies policy batch recorded events is sound i within =
    whole-body (answer (end_of policy batch events) i) (on-answers IsWholeOutcome policy batch recorded events is (λ k d less. whole-named (get_or recorded k d) (sound k d less)) i)

-- what a document can record is read again from a response
pub readable-answers : (policy : Policy) (batch : List Record) (recorded : List EventValue) (events : List Event) → AreResolved batch recorded events → All IsWellFormedEvent recorded → All IsRecordableEvent recorded
    → AnswersBy IsReadable (end_of policy batch events)
readable-answers policy batch recorded events is sound can i outcome within answered =
    subst (λ (found : Option Outcome). IfSome found IsReadable) answered
    (on-answers IsReadable policy batch recorded events is (λ k d less. readable-named (get_or recorded k d) (sound k d less) (can k d less)) i)

-- an event that names no request
pub unknown-event : (policy : Policy) (batch : List Record) (recorded : List EventValue) (cause : ResolveFault) → RefusesNamed cause batch recorded
    → (shown : Printed) → refusals.resolve_row cause ≡ Some shown → IsLeastOfRun policy batch recorded shown
unknown-event policy batch recorded (fault.Broken at UnknownEvent) first shown row = OfIds at first row
unknown-event policy batch recorded fault.OutOfMemory first shown row = absurd (cc row)

-- an event that may not come
pub barred-event : (policy : Policy) (batch : List Record) (recorded : List EventValue) (events : List Event) (cause : RunRefusal) → AreResolved batch recorded events
    → Refuses (first_state batch policy) events cause → (shown : Printed) → refusals.run_row cause ≡ Some shown → IsLeastOfRun policy batch recorded shown
barred-event policy batch recorded events (refusal.Start at cause) resolved stops shown row = OfEvent events (refusal.Start at cause) resolved stops row
barred-event policy batch recorded events (refusal.Report at cause) resolved stops shown row = OfEvent events (refusal.Report at cause) resolved stops row
barred-event policy batch recorded events refusal.OutOfMemory resolved stops shown row = absurd (cc row)
