-- Runs that go on after recorded events.
use Rattle.std.proofs.Common.{◌≡◌, ◌∙◌, ℕ, zero, suc, List, length, replicate, None, Some, Result, Ok, Err, OnOk, OnErr, true, inl, refl, sym, ap}
use Rattle.odb_doc.specs.declared.fault.TextFault.{TextFault}
use Rattle.odb_doc.specs.declared.fault.TextFault.TheVariants as texts
use Rattle.odb_doc.specs.Faults.{text_row}
use Rattle.odb_doc.specs.Refusals.{Printed}
use Rattle.odb_doc.specs.batch.Records.{Record}
use Rattle.odb_doc.specs.recorded.Events.{EventValue}
use Rattle.odb_check.specs.PlanGraph.{PlanGraph}
use Rattle.odb_sched.specs.declared.event.Event.{Event}
use Rattle.odb_sched.specs.declared.policy.Policy.{Policy}
use Rattle.odb_sched.specs.declared.refusal.RunRefusal.{RunRefusal}
use Rattle.odb_sched.specs.declared.refusal.RunRefusal.TheVariants as refusals
use Rattle.odb_sched.specs.run.Refusals.{ResolveFault, run_row, resolve_row}
use Rattle.odb_doc.specs.declared.rule_fault.RuleFault.TheVariants as faults
use Rattle.odb_sched.specs.declared.event.ResolveRule.TheVariants.{UnknownEvent}
use Rattle.odb_sched.specs.run.Resolving.{RefusesNamed}
use Rattle.odb_sched.specs.run.Runs.{Refuses}
use Rattle.odb_sched.specs.run.State.{State, first_state}
use Rattle.odb_sched.specs.run.Steps.{is_finished}
use Rattle.odb_reply.specs.BodyTexts.{HasNoText}
use Rattle.odb_reply.specs.NotWhole.{IsFirstNotWholeValue}
use Rattle.odb_engine.specs.declared.ending.Ended.TheVariants.{Refused}
use Rattle.odb_engine.specs.declared.halt.Halt.{Halt}
use Rattle.odb_engine.specs.declared.form.Form.{Form}
use Rattle.odb_engine.specs.Forms.{fault_text}
use Rattle.odb_engine.specs.Halts.{Found, Halted}
use Rattle.odb_live.specs.Live.{IsLeastAfter, IsLeastOfLive, Live, Shows}
use Rattle.odb_live.specs.Live.IsLeastAfter.{OfIds, OfEvent}
use Rattle.odb_live.specs.Live.IsLeastOfLive.{OfBody}
use Rattle.odb_live.specs.LiveRuns.{IsOfOneBatch}
use Rattle.odb_engine.specs.Runs.{AreEventsIn, AreResolved}
use Rattle.odb_live.specs.declared.run.LiveRun.TheInside.{Inside}
use Rattle.odb_engine.proofs.EngineLemmas.{Halted-weaker, reports}

-- an event that names no request
pub unknown-after : (policy : Policy) (batch : List Record) (bytes : List ℕ) (named : List EventValue) → AreEventsIn bytes named → (cause : ResolveFault) → RefusesNamed cause batch named
    → (shown : Printed) → resolve_row cause ≡ Some shown → IsLeastAfter policy batch bytes shown
unknown-after policy batch bytes named are (faults.Broken at UnknownEvent) first shown row = OfIds named are at first row
unknown-after policy batch bytes named are faults.OutOfMemory first shown row = absurd (cc row)

-- an event that may not come
pub barred-after : (policy : Policy) (batch : List Record) (bytes : List ℕ) (named : List EventValue) → AreEventsIn bytes named → (events : List Event) (cause : RunRefusal) → AreResolved batch named events
    → Refuses (first_state batch policy) events cause → (shown : Printed) → run_row cause ≡ Some shown → IsLeastAfter policy batch bytes shown
barred-after policy batch bytes named are events (refusals.Start at cause) resolved stops shown row = OfEvent named are events (refusals.Start at cause) resolved stops row
barred-after policy batch bytes named are events (refusals.Report at cause) resolved stops shown row = OfEvent named are events (refusals.Report at cause) resolved stops row
barred-after policy batch bytes named are events refusals.OutOfMemory resolved stops shown row = absurd (cc row)

-- a body that holds a number that is not whole
pub not-whole : (live : Live) → is_finished live.run ≡ true → (fault : TextFault) → ((at : ℕ) → fault ≡ texts.NotWhole at → IsFirstNotWholeValue live.texts live.run at)
    → (shown : Printed) → text_row fault ≡ Some shown → IsLeastOfLive live shown
not-whole live finished (texts.NotWhole at) first shown row = OfBody at finished (first at refl) row
not-whole live finished texts.OutOfMemory first shown row = absurd (cc row)

-- the fault of a run is shown of it
pub refused : (live : Live) (form : Form) (halt : Halt) → Halted (IsLeastOfLive live) halt → Found (Shows live) form (Err halt)
refused live form halt = Halted-weaker (IsLeastOfLive live) (λ refusal. Shows live form Refused (fault_text form refusal)) (λ refusal so. inl (reports (IsLeastOfLive live) form refusal so)) halt

-- a run that has gone on is of the same batch
pub kept-with : (kept : Inside) (run : State) → run.plan_graph ≡ kept.run.plan_graph → IsOfOneBatch kept → IsOfOneBatch (record kept { run = run })
kept-with kept run same of =
    let count = ap (λ (g : PlanGraph). length g.units) (sym same) in
    record { batch = of.batch; good = of.good; labels = of.labels; plan_graph = same ∙ of.plan_graph; each = of.each ∙ count; places = of.places ∙ count; marks = of.marks ∙ count }

-- there is no text where each is absent
pub no-text : (count : ℕ) → HasNoText (replicate count None)
no-text zero i = refl
no-text (suc count) zero = refl
no-text (suc count) (suc i) = no-text count i

-- an event keeps the units and needs, whether it comes or not
pub same-graph : {E : Type 0} (result : Result (Unit {0}) E) (old next new : State) → next.plan_graph ≡ old.plan_graph → OnOk result (new ≡ next) → OnErr result (new ≡ old) → new.plan_graph ≡ old.plan_graph
same-graph (Ok done) old next new same ok err = ap (λ (s : State). s.plan_graph) ok ∙ same
same-graph (Err cause) old next new same ok err = ap (λ (s : State). s.plan_graph) err
