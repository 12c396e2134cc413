-- Runs by recorded outcomes: an outcome that is offered was recorded, so it is sound.
use Rattle.std.proofs.Common.{◌≡◌, ℕ, zero, suc, ◌∙◌, ap, sym, refl, subst, arith, Bool, true, false, cond, ◌&&◌, List, [], ◌∷◌, get_or, All, Contains, Option, Some, None, is_some, unwrap_or, option_map, not, if◌then◌else◌, IfSome, find, bytes_eq, Result, Ok, Err}
use Rattle.std.proofs.lemmas.Bool.{true≢false, both_ways}
use Rattle.std.proofs.lemmas.List.Elements.{All-contains, Contains-append_right}
use Rattle.odb_doc.specs.declared.recorded.outcome.Outcome.{Outcome}
use Rattle.odb_doc.specs.recorded.OutcomeValues.{IsRecordable}
use Rattle.odb_doc.specs.recorded.Outcomes.{Recorded, IsWellFormedOutcome}
use Rattle.odb_doc.specs.batch.Records.{Record}
use Rattle.odb_doc.specs.WholeNumbers.{IsWhole}
use Rattle.odb_check.specs.PlanGraph.{unit_of}
use Rattle.odb_sched.specs.declared.phase.Phase.{Phase}
use Rattle.odb_sched.specs.declared.phase.Phase.TheVariants.{Unstarted, Running, Reported}
use Rattle.odb_sched.specs.declared.policy.Policy.{Policy}
use Rattle.odb_exec.specs.declared.service.ServiceFault.{ServiceFault}
use Rattle.odb_exec.specs.declared.service.ServiceFault.TheVariants as service
use Rattle.odb_exec.specs.declared.execution.ExecFault.{ExecFault}
use Rattle.odb_exec.specs.declared.execution.ExecFault.TheVariants as fault
use Rattle.odb_sched.specs.run.Answers.{answer, answer_of, outcome_of, reported}
use Rattle.odb_sched.specs.run.Choosing.{Allowance}
use Rattle.odb_exec.specs.Courses.{IsReportEnabled, IsCausedBy}
use Rattle.odb_exec.specs.Faults.{exec_row}
use Rattle.odb_doc.specs.Refusals.{Printed}
use Rattle.std.proofs.lemmas.Option.{same_Some}
use Rattle.odb_exec.specs.Recordings.{outcome_for, recorded_for, offered, OffersRecorded}
use Rattle.odb_sched.specs.run.State.{State, phase_at, first_state}
use Rattle.odb_doc.specs.Statuses.{is_status, is_success}
use Rattle.odb_sched.specs.run.Steps.{unit_succeeded}
use Rattle.odb_reply.specs.NotWhole.{HasWholeBody, HasWholeBodies}
use Rattle.odb_reply.specs.Readable.{AnswersBy, IsReadable}
use Rattle.odb_engine.specs.Replays.{LacksOutcome, offers_of}

-- what is recorded for an id is in an entry
entry-for : (entries : List Recorded) (id : List ℕ) (outcome : Outcome) → outcome_for entries id ≡ Some outcome → (entry : Recorded) × Contains entries entry × (entry.1 ≡ outcome)
entry-for [] id outcome e = absurd (true≢false (sym (ap is_some e)))
entry-for (entry ∷ entries) id outcome e = at (bytes_eq entry.0 id) refl (entry-for entries id outcome) e
  where
    at : (b : Bool) → bytes_eq entry.0 id ≡ b → (outcome_for entries id ≡ Some outcome → (later : Recorded) × Contains entries later × (later.1 ≡ outcome))
        → option_map (λ found. found.1) (cond b (Some entry) (find (λ x. bytes_eq x.0 id) entries)) ≡ Some outcome
        → (found : Recorded) × Contains (entry ∷ entries) found × (found.1 ≡ outcome)
    at true same rest e = (entry, (0, omega arith, refl), ap (λ found. unwrap_or found outcome) e)
    at false same rest e = let (later, has, is) = rest e in (later, Contains-append_right (entry ∷ []) entries later has, is)

-- what is recorded at a position is recorded for an id
id-at : (batch : List Record) (entries : List Recorded) (i : ℕ) (outcome : Outcome) → get_or (recorded_for batch entries) i None ≡ Some outcome → (id : List ℕ) × (outcome_for entries id ≡ Some outcome)
id-at [] entries i outcome e = absurd (true≢false (sym (ap is_some e)))
id-at (request ∷ batch) entries zero outcome e = (request.id, e)
id-at (request ∷ batch) entries (suc i) outcome e = id-at batch entries i outcome e

abbrev outcome_in : Result Outcome ServiceFault → Option Outcome
outcome_in (Ok outcome) = Some outcome
outcome_in (Err cause) = None

pub offered-outcome : (slot : Option Outcome) (outcome : Outcome) → Ok outcome ≡ offered slot → slot ≡ Some outcome
offered-outcome None outcome e = absurd (true≢false (ap (λ answer. is_some (outcome_in answer)) e))
offered-outcome (Some other) outcome e = sym (ap outcome_in e)

-- an outcome that is offered is in an entry, so what holds of all entries holds of it
offered-entry : (Q : Recorded → Type 0) (batch : List Record) (entries : List Recorded) (i : ℕ) (outcome : Outcome) → All Q entries → OffersRecorded (recorded_for batch entries) i (Ok outcome)
    → (entry : Recorded) × Q entry × (entry.1 ≡ outcome)
offered-entry Q batch entries i outcome each offer =
    let (id, recorded) = id-at batch entries i outcome (offered-outcome (get_or (recorded_for batch entries) i None) outcome offer) in
    let (entry, has, is) = entry-for entries id outcome recorded in
    (entry, All-contains Q entries entry each has, is)

answer-reported : (phase : Phase) (b : Bool) (outcome : Outcome) → answer_of phase b ≡ Some outcome → outcome_of phase ≡ Some outcome
answer-reported Unstarted b outcome e = e
answer-reported Running b outcome e = e
answer-reported (Reported other) b outcome e = at (is_success other.status && not b) e
  where
    at : (undone : Bool) → (if undone then None else Some other) ≡ Some outcome → Some other ≡ Some outcome
    at true same = absurd (true≢false (sym (ap is_some same)))
    at false same = same

whole-body : (found : Option Outcome) → ((outcome : Outcome) → found ≡ Some outcome → IfSome outcome.body IsWhole) → HasWholeBody found
whole-body None each = tt
whole-body (Some outcome) each = each outcome refl

-- the outcomes of the state are those that are offered for their requests
abbrev OffersReported : List Record → List Recorded → State → Type 0
OffersReported batch entries state = (i : ℕ) (outcome : Outcome) → reported state i ≡ Some outcome → OffersRecorded (recorded_for batch entries) i (Ok outcome)

-- what holds of all entries holds of what is answered
answered-entry : (Q : Recorded → Type 0) (batch : List Record) (entries : List Recorded) (state : State) → All Q entries → OffersReported batch entries state → (i : ℕ) (outcome : Outcome) → answer state i ≡ Some outcome
    → (entry : Recorded) × Q entry × (entry.1 ≡ outcome)
answered-entry Q batch entries state each offers i outcome is =
    offered-entry Q batch entries i outcome each (offers i outcome (answer-reported (phase_at state i) (unit_succeeded state (unit_of state.plan_graph i)) outcome is))

-- a run by recorded outcomes answers whole bodies alone
pub whole-bodies : (batch : List Record) (entries : List Recorded) (state : State) → All IsWellFormedOutcome entries → OffersReported batch entries state → HasWholeBodies state
whole-bodies batch entries state sound offers i within = whole-body (answer state i) (λ outcome is.
    let (entry, fit, same) = answered-entry IsWellFormedOutcome batch entries state sound offers i outcome is in
    subst (λ o. IfSome o.body IsWhole) same fit.whole)

abbrev IsGoodEntry : Recorded → Type 0
IsGoodEntry entry = IsWellFormedOutcome entry × IsRecordable entry.1

-- what a document can record is read again from a response
pub readable-answers : (batch : List Record) (entries : List Recorded) (state : State) → All IsWellFormedOutcome entries → OffersReported batch entries state
    → All (λ (entry : Recorded). IsRecordable entry.1) entries → AnswersBy IsReadable state
readable-answers batch entries state sound offers recordable i outcome within is =
    let both : All IsGoodEntry entries = λ k d less. (sound k d less, recordable k d less) in
    let (entry, (fit, can), same) = answered-entry IsGoodEntry batch entries state both offers i outcome is in
    subst IsReadable same (record { held = can.0; whole = fit.whole; shallow = can.1 })

abbrev is_failed : Result Outcome ServiceFault → Bool
is_failed (Ok outcome) = false
is_failed (Err service.NoOutcome) = false
is_failed (Err service.Failed) = true
is_failed (Err service.OutOfMemory) = false

not_failed : (slot : Option Outcome) → Err service.Failed ≡ offered slot → ⊥
not_failed None e = true≢false (ap is_failed e)
not_failed (Some outcome) e = true≢false (ap is_failed e)

-- an execution by recorded outcomes fails only if an outcome is missing
pub lacks-outcome : (allows : Allowance) (policy : Policy) (batch : List Record) (entries : List Recorded) (cause : ExecFault) → All IsWellFormedOutcome entries
    → IsCausedBy (offers_of batch entries) (IsReportEnabled allows (offers_of batch entries) (first_state batch policy)) cause
    → (refusal : Printed) → exec_row cause ≡ Some refusal → LacksOutcome allows policy batch entries refusal
lacks-outcome allows policy batch entries (fault.NoOutcome i) sound (due, none) refusal row = record { at = i; due = due; none = none; is = same_Some _ _ (sym row) }
lacks-outcome allows policy batch entries (fault.Service i) sound (due, failed) refusal row = absurd (not_failed (get_or (recorded_for batch entries) i None) failed)
lacks-outcome allows policy batch entries (fault.BadStatus i) sound (due, (outcome, offer, bad)) refusal row =
    let (entry, fit, same) = offered-entry IsWellFormedOutcome batch entries i outcome sound offer in
    absurd (both_ways _ bad (ap (λ o. is_status o.status) (sym same) ∙ fit.status))
lacks-outcome allows policy batch entries fault.OutOfMemory sound none refusal row = absurd (cc row)
