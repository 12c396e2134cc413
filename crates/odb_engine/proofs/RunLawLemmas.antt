-- What recorded events may write of a batch: one text.
use Rattle.std.proofs.Common.{◌≡◌, ◌∙◌, ℕ, zero, suc, true, List, [], ◌∷◌, ◌++◌, length, slice_get, IsSomeAnd, inl, inr, refl, sym, ap, subst}
use Rattle.std.specs.List.{AllZip}
use Rattle.std.proofs.lemmas.Bool.{both_ways}
use Rattle.std.proofs.lemmas.Option.{same_Some}
use Rattle.serde_json.specs.Data.{Data}
use Rattle.odb_doc.specs.recorded.EventFaults as event_faults
use Rattle.odb_doc.specs.recorded.Events.{EventValue, AreEventsOf}
use Rattle.odb_doc.specs.recorded.LeastEventFault.{IsEventsDocument, RefusesEvents}
use Rattle.odb_doc.specs.recorded.Events as named
use Rattle.odb_doc.specs.batch.Records.{Record}
use Rattle.odb_check.specs.LeastNameFault.{HasGoodNames}
use Rattle.odb_sched.specs.declared.event.Event.{Event}
use Rattle.odb_sched.specs.declared.event.Event.TheVariants as event
use Rattle.odb_sched.specs.declared.policy.Policy.{Policy}
use Rattle.odb_sched.specs.declared.refusal.RunRefusal.{RunRefusal}
use Rattle.odb_sched.specs.declared.refusal.RunRefusal.TheVariants as refusal
use Rattle.odb_sched.specs.run.Refusals.{ResolveFault}
use Rattle.odb_doc.specs.declared.rule_fault.RuleFault.TheVariants.{Broken}
use Rattle.odb_sched.specs.declared.event.ResolveRule.TheVariants.{UnknownEvent}
use Rattle.odb_sched.specs.run.Refusals as refusals
use Rattle.odb_sched.specs.run.Resolving.{IsFirstUnknown, IsKnown, IsResolved, RefusesNamed}
use Rattle.odb_sched.specs.run.Runs.{IsRunFrom, RefusesEvent, Refuses, StopsAt, after_all}
use Rattle.odb_sched.specs.run.State.{State, after, first_state}
use Rattle.odb_sched.specs.run.Steps.{is_finished, may_come}
use Rattle.odb_engine.specs.declared.ending.Ended.{Ended}
use Rattle.odb_doc.specs.Refusals.{Printed}
use Rattle.odb_engine.specs.declared.form.Form.{Form}
use Rattle.odb_engine.specs.Cascade.{IsOne}
use Rattle.odb_engine.specs.Forms.{fault_text}
use Rattle.odb_engine.specs.ResponseLines.{response_line}
use Rattle.odb_engine.specs.Runs.{AreResolved, IsLeastOfRun, IsResult, RunsEvents, RunsValue, end_of}
use Rattle.odb_engine.specs.Runs.IsLeastOfRun.{OfIds, OfEvent, OfEnd}
use Rattle.odb_engine.proofs.SecondLemmas.{IsOneKind, reading_one}
use Rattle.odb_sched.proofs.ResolveLemmas.{known-from}
use Rattle.odb_exec.proofs.RecordedLemmas.{same_place}

-- ---- events by positions

one-event : (batch : List Record) → HasGoodNames batch → (n : EventValue) (e f : Event) → IsResolved batch n e → IsResolved batch n f → e ≡ f
one-event batch good (named.Start id) (event.Start i) (event.Start j) a b = ap (λ k. event.Start k) (same_place batch id i j good a b)
one-event batch good (named.Start id) (event.Start i) (event.Report j q) a b = absurd b
one-event batch good (named.Start id) (event.Report i p) f a b = absurd a
one-event batch good (named.Report id o) (event.Start i) f a b = absurd a
one-event batch good (named.Report id o) (event.Report i p) (event.Start j) a b = absurd b
one-event batch good (named.Report id o) (event.Report i p) (event.Report j q) (a, s) (b, t) =
    ap (λ k. event.Report k p) (same_place batch id i j good a b) ∙ ap (λ x. event.Report j x) (s ∙ sym t)

one-list : (batch : List Record) → HasGoodNames batch → (ns : List EventValue) (es fs : List Event) → AllZip (IsResolved batch) ns es → AllZip (IsResolved batch) ns fs → es ≡ fs
one-list batch good [] [] [] a b = refl
one-list batch good [] [] (f ∷ fs) a b = absurd b
one-list batch good [] (e ∷ es) fs a b = absurd a
one-list batch good (n ∷ ns) [] fs a b = absurd a
one-list batch good (n ∷ ns) (e ∷ es) [] a b = absurd b
one-list batch good (n ∷ ns) (e ∷ es) (f ∷ fs) (a, xs) (b, ys) =
    ap (λ x. x ∷ es) (one-event batch good n e f a b) ∙ ap (λ xs. f ∷ xs) (one-list batch good ns es fs xs ys)

-- ---- events that name no request

pub not-unknown : (batch : List Record) (ns : List EventValue) (es : List Event) (at : ℕ) → AllZip (IsResolved batch) ns es → IsSomeAnd (slice_get ns at) (λ n. ¬ IsKnown batch n) → ⊥
not-unknown batch [] es zero all un = un
not-unknown batch [] es (suc at) all un = un
not-unknown batch (n ∷ ns) [] at all un = absurd all
not-unknown batch (n ∷ ns) (e ∷ es) zero all un = un (known-from batch n e all.0)
not-unknown batch (n ∷ ns) (e ∷ es) (suc at) all un = not-unknown batch ns es at all.1 un

-- the laws of odb_sched on refusals
pub record HaveOneCause : Type 0 where
  pub one_refusal : (state : State) (events : List Event) (cause other : RunRefusal) → refusals.IsNumberedRefusal cause → refusals.IsNumberedRefusal other → Refuses state events cause → Refuses state events other → cause ≡ other
  pub one_unknown : (requests : List Record) (events : List EventValue) (fault other : ResolveFault) → refusals.IsNumberedResolve fault → refusals.IsNumberedResolve other → RefusesNamed fault requests events → RefusesNamed other requests events → fault ≡ other

one-unknown : HaveOneCause → (batch : List Record) (ns : List EventValue) (a b : ℕ) → IsFirstUnknown batch ns a → IsFirstUnknown batch ns b → Broken a UnknownEvent ≡ Broken b UnknownEvent
one-unknown law batch ns a b x y = law.one_unknown batch ns (Broken a UnknownEvent) (Broken b UnknownEvent) (λ is. cc (is)) (λ is. cc (is)) x y

-- ---- events that may not come

-- what may not come has a numbered refusal
refuses : (state : State) (events : List Event) (cause : RunRefusal) → StopsAt state events cause → refusals.IsNumberedRefusal cause × Refuses state events cause
refuses state events (refusal.Start at cause) stops = ((λ is. cc (is)), stops)
refuses state events (refusal.Report at cause) stops = ((λ is. cc (is)), stops)
refuses state events refusal.OutOfMemory stops = absurd (no-memory (after_all state stops.before) (length stops.before) stops.event stops.refused)
  where
    no-memory : (s : State) (at : ℕ) (e : Event) → RefusesEvent s at e refusal.OutOfMemory → ⊥
    no-memory s at (event.Start i) none = none
    no-memory s at (event.Report i outcome) none = none

one-halt : HaveOneCause → (state : State) (events : List Event) (a b : RunRefusal) → StopsAt state events a → StopsAt state events b → a ≡ b
one-halt law state events a b x y =
    let (numbered, one) = refuses state events a x in
    let (numbered', two) = refuses state events b y in
    law.one_refusal state events a b numbered numbered' one two

-- an event of a run may come
may-come : (state : State) (xs : List Event) (e : Event) (later : List Event) → IsRunFrom state (xs ++ e ∷ later) → may_come (after_all state xs) e ≡ true
may-come state [] e later run = run.1
may-come state (x ∷ xs) e later run = may-come (after state x) xs e later run.2

pub not-stopped : (state : State) (events : List Event) (cause : RunRefusal) → StopsAt state events cause → IsRunFrom state events → ⊥
not-stopped state events cause x run = both_ways _ x.barred (may-come state x.before x.event x.later (subst (IsRunFrom state) x.whole run))

-- ---- what is written of a batch

module _ (causes : HaveOneCause) (policy : Policy) (batch : List Record) (good : HasGoodNames batch) (ns : List EventValue) where
  abbrev first : State
  first = first_state batch policy

  pub same-events : (es fs : List Event) → AreResolved batch ns es → AreResolved batch ns fs → es ≡ fs
  same-events es fs a b = one-list batch good ns es fs a b

  one-least : (a b : Printed) → IsLeastOfRun policy batch ns a → IsLeastOfRun policy batch ns b → a ≡ b
  one-least a b (OfIds i x same) (OfIds j y equal) = same_Some a b (sym same ∙ ap refusals.resolve_row (one-unknown causes batch ns i j x y) ∙ equal)
  one-least a b (OfIds i x same) (OfEvent fs d r y equal) = absurd (not-unknown batch ns fs i r x.unknown)
  one-least a b (OfIds i x same) (OfEnd fs r run barred equal) = absurd (not-unknown batch ns fs i r x.unknown)
  one-least a b (OfEvent es c q x same) (OfIds j y equal) = absurd (not-unknown batch ns es j q y.unknown)
  one-least a b (OfEvent es c q x same) (OfEvent fs d r y equal) =
      same_Some a b (sym same ∙ ap refusals.run_row (one-halt causes first fs c d (subst (λ (l : List Event). StopsAt first l c) (same-events es fs q r) x) y) ∙ equal)
  one-least a b (OfEvent es c q x same) (OfEnd fs r run barred equal) =
      absurd (not-stopped first fs c (subst (λ (l : List Event). StopsAt first l c) (same-events es fs q r) x) run)
  one-least a b (OfEnd es q run barred same) (OfIds j y equal) = absurd (not-unknown batch ns es j q y.unknown)
  one-least a b (OfEnd es q run barred same) (OfEvent fs d r y equal) =
      absurd (not-stopped first es d (subst (λ (l : List Event). StopsAt first l d) (same-events fs es r q) y) run)
  one-least a b (OfEnd es q run barred same) (OfEnd fs r walk closed equal) = same ∙ sym equal

  not-least : (a : Printed) (ended : Ended) (text : List ℕ) → IsLeastOfRun policy batch ns a → IsResult policy batch ns ended text → ⊥
  not-least a ended text (OfIds i x same) y = not-unknown batch ns y.events i y.resolved x.unknown
  not-least a ended text (OfEvent es c q x same) y = not-stopped first y.events c (subst (λ (l : List Event). StopsAt first l c) (same-events es y.events q y.resolved) x) y.run
  not-least a ended text (OfEnd es q run barred same) y =
      both_ways _ barred (ap (λ (l : List Event). is_finished (end_of policy batch l)) (same-events es y.events q y.resolved) ∙ y.finished)

  pub one-run : (form : Form) → IsOne (RunsEvents policy batch ns form)
  one-run form a b s t (inl x) (inl y) = (x.ends ∙ sym y.ends, x.prints ∙ ap (fault_text form) (one-least x.refusal y.refusal x.is y.is) ∙ sym y.prints)
  one-run form a b s t (inl x) (inr y) = absurd (not-least x.refusal b t x.is y)
  one-run form a b s t (inr x) (inl y) = absurd (not-least y.refusal a s y.is x)
  one-run form a b s t (inr x) (inr y) =
      (x.ends ∙ sym y.ends, x.result ∙ ap (λ (l : List Event). response_line (end_of policy batch l)) (same-events x.events y.events x.resolved y.resolved) ∙ sym y.result)

-- the laws of odb_doc on documents of events
abbrev pub AreOneHistory : Type 0
AreOneHistory = IsOneKind event_faults.event_row RefusesEvents IsEventsDocument AreEventsOf

-- a batch and the value of a document of events have one text
pub runs_value_one : HaveOneCause → AreOneHistory → (policy : Policy) (batch : List Record) → HasGoodNames batch → (value : Data) (form : Form) → IsOne (RunsValue policy batch value form)
runs_value_one causes law policy batch good = reading_one event_faults.event_row RefusesEvents IsEventsDocument AreEventsOf law (RunsEvents policy batch) (one-run causes policy batch good)
