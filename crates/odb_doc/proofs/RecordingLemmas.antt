-- A document of outcomes, or of events, has one least fault, or else one list of what it records.
use Rattle.std.proofs.Common.{◌≡◌, ◌∙◌, ℕ, ◌≤◌, List, [], ◌∷◌, All, Option, None, Some, IsSome, IfSome, option_and_then, codes, refl, ap, sym, subst, rules}
use Rattle.std.proofs.lemmas.Bool.{false≢true}
use Rattle.std.specs.List.{AllZip, AllByRecursion}
use Rattle.std.proofs.lemmas.List.Elements.{All-nil, All-cons}
use Rattle.serde_json.specs.Data.{Data, depth}
use Rattle.serde_json.specs.Find.{get, as_str}
use Rattle.odb_doc.specs.batch.Bodies.{body_of}
use Rattle.odb_doc.specs.declared.recorded.event_fault.EventRule.{EventRule}
use Rattle.odb_doc.specs.declared.recorded.event_fault.EventFault.{EventFault}
use Rattle.odb_doc.specs.declared.recorded.event_fault.EventFault.TheVariants as events
use Rattle.odb_doc.specs.declared.recorded.outcome.Outcome.{Outcome}
use Rattle.odb_doc.specs.declared.recorded.outcome_fault.OutcomeRule.{OutcomeRule}
use Rattle.odb_doc.specs.declared.recorded.outcome_fault.OutcomeFault.{OutcomeFault}
use Rattle.odb_doc.specs.declared.recorded.outcome_fault.OutcomeFault.TheVariants as outcomes
use Rattle.odb_doc.specs.recorded.EventFaults as event_faults
use Rattle.odb_doc.specs.recorded.Events.{EventValue, Start, Report, AreEventsOf, IsRecordableEvent}
use Rattle.odb_doc.specs.canonical.HeldValues.{IsHeld}
use Rattle.odb_doc.specs.recorded.OutcomeValues.{IsRecordable, IsShallow}
use Rattle.odb_doc.specs.recorded.Events as recorded_events
use Rattle.odb_doc.specs.Headers.{Header, HasHeaders}
use Rattle.odb_doc.specs.recorded.LeastEventFault.{BreaksEventAt, IsEventsDocument, RefusesEvents}
use Rattle.odb_doc.specs.recorded.LeastOutcomeFault.{BreaksOutcomeAt, IsOutcomesDocument, RefusesOutcomes}
use Rattle.odb_doc.specs.Members.{text_at}
use Rattle.odb_doc.proofs.OneLeast.{one_first, one_list}
use Rattle.odb_doc.specs.recorded.OutcomeFaults as outcome_faults
use Rattle.odb_doc.specs.recorded.Outcomes.{Recorded, AreOutcomesOf, ReadsAs}
use Rattle.odb_doc.specs.recorded.Outcomes as recorded_outcomes
use Rattle.odb_doc.proofs.CanonicalReads.{Nests, held-body, held-list_at, nests-body, nests-list_at}
use Rattle.odb_doc.proofs.OneHeaders.{one_headers}

-- ---- the least fault of outcomes

same_outcome_rule : (rule other : OutcomeRule) → outcome_faults.rule_number rule ≡ outcome_faults.rule_number other → rule ≡ other
same_outcome_rule rule other same = search rules

pub one_outcome_fault : (d : Data) (fault other : OutcomeFault) → IsSome (outcome_faults.outcome_row fault) → IsSome (outcome_faults.outcome_row other) → RefusesOutcomes fault d → RefusesOutcomes other d → fault ≡ other
one_outcome_fault d outcomes.Document outcomes.Document numbered numbered' one two = refl
one_outcome_fault d outcomes.Document (outcomes.Outcome at rule) numbered numbered' one two = absurd (one two.0)
one_outcome_fault d (outcomes.Outcome at rule) outcomes.Document numbered numbered' one two = absurd (two one.0)
one_outcome_fault d (outcomes.Outcome at rule) (outcomes.Outcome other_at other) numbered numbered' one two =
    let same = one_first outcome_faults.rule_number (BreaksOutcomeAt (recorded_outcomes.elements d)) same_outcome_rule at other_at rule other one.1 two.1 in
    cc (same.0, same.1)
one_outcome_fault d outcomes.OutOfMemory other numbered numbered' one two = absurd (false≢true numbered)
one_outcome_fault d fault outcomes.OutOfMemory numbered numbered' one two = absurd (false≢true numbered')

pub no_outcome_fault : (d : Data) (fault : OutcomeFault) → IsSome (outcome_faults.outcome_row fault) → RefusesOutcomes fault d → ¬ IsOutcomesDocument d
no_outcome_fault d outcomes.Document numbered refuses good = refuses good.0
no_outcome_fault d (outcomes.Outcome at rule) numbered refuses good = good.1 rule at refuses.1.here.broken
no_outcome_fault d outcomes.OutOfMemory numbered refuses good = false≢true numbered

-- ---- the least fault of events

same_event_rule : (rule other : EventRule) → event_faults.rule_number rule ≡ event_faults.rule_number other → rule ≡ other
same_event_rule rule other same = search rules

pub one_event_fault : (d : Data) (fault other : EventFault) → IsSome (event_faults.event_row fault) → IsSome (event_faults.event_row other) → RefusesEvents fault d → RefusesEvents other d → fault ≡ other
one_event_fault d events.Document events.Document numbered numbered' one two = refl
one_event_fault d events.Document (events.Event at rule) numbered numbered' one two = absurd (one two.0)
one_event_fault d (events.Event at rule) events.Document numbered numbered' one two = absurd (two one.0)
one_event_fault d (events.Event at rule) (events.Event other_at other) numbered numbered' one two =
    let same = one_first event_faults.rule_number (BreaksEventAt (recorded_events.elements d)) same_event_rule at other_at rule other one.1 two.1 in
    cc (same.0, same.1)
one_event_fault d events.OutOfMemory other numbered numbered' one two = absurd (false≢true numbered)
one_event_fault d fault events.OutOfMemory numbered numbered' one two = absurd (false≢true numbered')

pub no_event_fault : (d : Data) (fault : EventFault) → IsSome (event_faults.event_row fault) → RefusesEvents fault d → ¬ IsEventsDocument d
no_event_fault d events.Document numbered refuses good = refuses good.0
no_event_fault d (events.Event at rule) numbered refuses good = good.1 rule at refuses.1.here.broken
no_event_fault d events.OutOfMemory numbered refuses good = false≢true numbered

-- ---- what is recorded

-- an outcome of these parts
abbrev made : ℕ → List Header → Option Data → Outcome
made status headers body = record { status = status; headers = headers; body = body }

same_outcome : (d : Data) (outcome other : Outcome) → outcome.status ≡ other.status → HasHeaders d outcome.headers → HasHeaders d other.headers → body_of d ≡ outcome.body → body_of d ≡ other.body → outcome ≡ other
same_outcome d outcome other status one two body body' =
    let headers = one_headers d other.headers outcome.headers two one in
    let same_body : outcome.body ≡ other.body = sym body ∙ body' in
    let same : made outcome.status outcome.headers outcome.body ≡ made other.status other.headers other.body = cc (status, headers, same_body) in
    same

one_outcome : (d : Data) (entry other : Recorded) → ReadsAs d entry → ReadsAs d other → entry ≡ other
one_outcome d entry other one two =
    let id : entry.0 ≡ other.0 = cc (one.id, two.id) in
    let status : entry.1.status ≡ other.1.status = cc (one.status, two.status) in
    let same = same_outcome d entry.1 other.1 status one.headers two.headers one.body two.body in
    λ i. (id i, same i)

pub one_record : (d : Data) (entries others : List Recorded) → AreOutcomesOf d entries → AreOutcomesOf d others → entries ≡ others
one_record d entries others one two = one_list ReadsAs one_outcome (recorded_outcomes.elements d) entries others one two

no_start : (d : Data) (id : List ℕ) → text_at (codes "start") d ≡ Some id → get (codes "start") d ≡ None → ⊥
no_start d id starts reports = let none = ap (option_and_then as_str) reports in cc (starts, none)

one_event : (d : Data) (event other : EventValue) → recorded_events.ReadsAs d event → recorded_events.ReadsAs d other → event ≡ other
one_event d (Start id) (Start other) one two = cc (one, two)
one_event d (Start id) (Report other outcome) one two = absurd (no_start d id one two.reports)
one_event d (Report id outcome) (Start other) one two = absurd (no_start d other two one.reports)
one_event d (Report id outcome) (Report other outcome') one two =
    let named : id ≡ other = cc (one.names, two.names) in
    let status : outcome.status ≡ outcome'.status = cc (one.status, two.status) in
    let same = same_outcome d outcome outcome' status one.headers two.headers one.body two.body in
    cc (named, same)

pub one_events : (d : Data) (events others : List EventValue) → AreEventsOf d events → AreEventsOf d others → events ≡ others
one_events d events others one two = one_list recorded_events.ReadsAs one_event (recorded_events.elements d) events others one two

-- ---- what is recorded was in the document

recordable : (d : Data) (outcome : Outcome) → HasHeaders d outcome.headers → body_of d ≡ outcome.body → IsHeld d → depth d ≤ 125 → IsRecordable outcome
recordable d outcome headers body held shallow = (
  record { headers = headers.ordered; body = subst (λ (o : Option Data). IfSome o IsHeld) body (held-body d held) },
  subst (λ (o : Option Data). IsShallow o) body (nests-body 124 d shallow),
)

recordable-each : (ds : List Data) (entries : List Recorded) → AllZip ReadsAs ds entries → AllByRecursion IsHeld ds → AllByRecursion (Nests 125) ds → All (λ (entry : Recorded). IsRecordable entry.1) entries
recordable-each [] [] says held shallow = All-nil (λ (entry : Recorded). IsRecordable entry.1)
recordable-each [] (entry ∷ entries) says held shallow = absurd says
recordable-each (d ∷ ds) [] says held shallow = absurd says
recordable-each (d ∷ ds) (entry ∷ entries) says held shallow =
    All-cons (λ (e : Recorded). IsRecordable e.1) entry entries (recordable d entry.1 says.0.headers says.0.body held.0 shallow.0) (recordable-each ds entries says.1 held.1 shallow.1)

pub recordable-outcomes : (value : Data) (entries : List Recorded) → IsHeld value → depth value ≤ 127 → AreOutcomesOf value entries → All (λ (entry : Recorded). IsRecordable entry.1) entries
recordable-outcomes value entries held shallow says =
    recordable-each (recorded_outcomes.elements value) entries says (held-list_at (codes "outcomes") value held) (nests-list_at 125 (codes "outcomes") value shallow)

recordable-event : (d : Data) (event : EventValue) → recorded_events.ReadsAs d event → IsHeld d → depth d ≤ 125 → IsRecordableEvent event
recordable-event d (Start id) says held shallow = tt
recordable-event d (Report id outcome) says held shallow = recordable d outcome says.headers says.body held shallow

recordable-list : (ds : List Data) (events : List EventValue) → AllZip recorded_events.ReadsAs ds events → AllByRecursion IsHeld ds → AllByRecursion (Nests 125) ds → All IsRecordableEvent events
recordable-list [] [] says held shallow = All-nil IsRecordableEvent
recordable-list [] (event ∷ events) says held shallow = absurd says
recordable-list (d ∷ ds) [] says held shallow = absurd says
recordable-list (d ∷ ds) (event ∷ events) says held shallow =
    All-cons IsRecordableEvent event events (recordable-event d event says.0 held.0 shallow.0) (recordable-list ds events says.1 held.1 shallow.1)

pub recordable-events : (value : Data) (events : List EventValue) → IsHeld value → depth value ≤ 127 → AreEventsOf value events → All IsRecordableEvent events
recordable-events value events held shallow says =
    recordable-list (recorded_events.elements value) events says (held-list_at (codes "events") value held) (nests-list_at 125 (codes "events") value shallow)
