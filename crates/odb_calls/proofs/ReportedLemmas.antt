-- What a request of a session is answered, and that its response is read again.
use Rattle.std.proofs.Common.{◌≡◌, ◌∙◌, ◌⊎◌, ℕ, refl, sym, ap, subst, arith, Bool, true, false, not, ◌&&◌, if◌then◌else◌, List, [], ◌∷◌, ◌++◌, map, Contains, All, Option, None, Some, inl, inr}
use Rattle.std.proofs.lemmas.Option.{same_Some}
use Rattle.std.specs.List.{AllZip}
use Rattle.std.proofs.lemmas.List.Elements.{All-head, All-tail}
use Rattle.odb_doc.specs.Statuses.{is_status, is_success}
use Rattle.odb_doc.specs.batch.Records.{Record}
use Rattle.odb_doc.specs.declared.recorded.outcome.Outcome.{Outcome}
use Rattle.odb_doc.specs.recorded.Events.{EventValue, IsRecordableEvent}
use Rattle.odb_doc.specs.recorded.Events as named
use Rattle.odb_doc.specs.recorded.OutcomeValues.{IsShallow}
use Rattle.odb_doc.proofs.ElementLemmas.{Contains-cases, Contains-head, Contains-tail}
use Rattle.odb_check.specs.PlanGraph.{unit_of}
use Rattle.odb_sched.specs.declared.event.Event.{Event}
use Rattle.odb_sched.specs.declared.event.Event.TheVariants as single
use Rattle.odb_sched.specs.declared.phase.Phase.{Phase}
use Rattle.odb_sched.specs.declared.phase.Phase.TheVariants.{Unstarted, Running, Reported}
use Rattle.odb_sched.specs.run.Answers.{HasStatuses, answer, answer_of, outcome_of, status_of}
use Rattle.odb_sched.specs.run.LiveEvents.{LiveEvent, Single, singles}
use Rattle.odb_sched.specs.run.LiveEvents as live_event
use Rattle.odb_sched.specs.run.Resolving.{IsResolved}
use Rattle.odb_sched.specs.run.State.{State, phase_at}
use Rattle.odb_sched.specs.run.Steps.{unit_succeeded}
use Rattle.odb_reply.specs.BodyTexts.{text_at, value_body}
use Rattle.odb_live.specs.Live.{Live}
use Rattle.odb_calls.specs.Live.{IsReported}
use Rattle.odb_calls.specs.Sessions.{Call, IsOfCall, IsReportedBy}
use Rattle.odb_calls.proofs.SessionLemmas.{TextOf}
use Rattle.odb_calls.proofs.SessionLemmas.TextOf.{Kept, Told}

-- ---- an answer was reported

answer-phase : (phase : Phase) (b : Bool) (outcome : Outcome) → answer_of phase b ≡ Some outcome → phase ≡ Reported outcome
answer-phase Unstarted b outcome e = absurd (cc e)
answer-phase Running b outcome e = absurd (cc e)
answer-phase (Reported other) b outcome e = at (is_success other.status && not b) e
  where
    at : (undone : Bool) → (if undone then None else Some other) ≡ Some outcome → Reported other ≡ Reported outcome
    at true same = absurd (cc same)
    at false same = ap Reported (same_Some other outcome same)

abbrev outcome_in : Phase → Outcome → Outcome
outcome_in Unstarted other = other
outcome_in Running other = other
outcome_in (Reported outcome) other = outcome

one-outcome : (phase : Phase) (o p : Outcome) → phase ≡ Reported o → phase ≡ Reported p → o ≡ p
one-outcome phase o p one two = ap (λ (x : Phase). outcome_in x o) (sym one ∙ two)

-- ---- the events of a session

singles-recorded : (events : List Event) → singles (map Single events) ≡ events
singles-recorded [] = refl
singles-recorded (e ∷ events) = ap (λ (es : List Event). e ∷ es) (singles-recorded events)

singles-joined : (before after : List LiveEvent) → singles (before ++ after) ≡ singles before ++ singles after
singles-joined [] after = refl
singles-joined (Single e ∷ before) after = ap (λ (es : List Event). e ∷ es) (singles-joined before after)
singles-joined (live_event.StartUnit u ∷ before) after = singles-joined before after
singles-joined (live_event.Stop ∷ before) after = singles-joined before after

in-either : {X : Type 0} (xs ys : List X) (x : X) → Contains (xs ++ ys) x → Contains xs x ⊎ Contains ys x
in-either [] ys x has = inr has
in-either (y ∷ xs) ys x has = elim (Contains-cases y x (xs ++ ys) has) [
  | inl here ↦ inl (subst (Contains (y ∷ xs)) here (Contains-head y xs))
  | inr later ↦ elim (in-either xs ys x later) [
    | inl first ↦ inl (Contains-tail y x xs first)
    | inr second ↦ inr second
  ]
]

in-later : {X : Type 0} (xs ys : List X) (x : X) → Contains ys x → Contains (xs ++ ys) x
in-later [] ys x has = has
in-later (y ∷ xs) ys x has = Contains-tail y x (xs ++ ys) (in-later xs ys x has)

-- ---- an answer is as it was reported

module _ (recorded : List Event) (events : List LiveEvent) (calls : List Call) (first last : Live) (reports : (i : ℕ) (outcome : Outcome) → (phase_at last.run i ≡ Reported outcome) → Contains (singles (map Single recorded ++ events)) (single.Report i outcome))
    (reported : (i : ℕ) (outcome : Outcome) → Contains (singles (map Single recorded ++ events)) (single.Report i outcome) → phase_at last.run i ≡ Reported outcome) (untold : (i : ℕ) → text_at first.texts i ≡ None) where
  all-singles : singles (map Single recorded ++ events) ≡ recorded ++ singles events
  all-singles = singles-joined (map Single recorded) events ∙ ap (λ (es : List Event). es ++ singles events) (singles-recorded recorded)

  by-text : (i : ℕ) (outcome : Outcome) → phase_at last.run i ≡ Reported outcome → TextOf calls events first last i → IsReportedBy calls recorded i outcome (text_at last.texts i)
  by-text i outcome is (Told other has of) =
      let there : Contains (singles (map Single recorded ++ events)) (single.Report i other) = subst (λ (es : List Event). Contains es (single.Report i other)) (sym all-singles) (in-later recorded (singles events) (single.Report i other) has) in
      let same : other ≡ outcome = one-outcome (phase_at last.run i) other outcome (reported i other there) is in
      inl (subst (λ (o : Outcome). IsOfCall calls i o (text_at last.texts i)) same of)
  by-text i outcome is (Kept kept none) = elim (in-either recorded (singles events) (single.Report i outcome) (subst (λ (es : List Event). Contains es (single.Report i outcome)) all-singles (reports i outcome is))) [
    | inl before ↦ inr (before, kept ∙ untold i)
    | inr later ↦ absurd (none outcome later)
  ]

  pub answered-as : ((i : ℕ) → TextOf calls events first last i) → (i : ℕ) (outcome : Outcome) → answer last.run i ≡ Some outcome → IsReportedBy calls recorded i outcome (text_at last.texts i)
  answered-as texts i outcome is = by-text i outcome (answer-phase (phase_at last.run i) (unit_succeeded last.run (unit_of last.run.plan_graph i)) outcome is) (texts i)

-- ---- a body that is a value nests at most 124 deep

no-report : (i : ℕ) (outcome : Outcome) → ¬ Contains [] (single.Report i outcome)
no-report i outcome has = omega (arith, has.1)

recorded-shallow : (requests : List Record) (ns : List EventValue) (events : List Event) → AllZip (IsResolved requests) ns events → All IsRecordableEvent ns → (i : ℕ) (outcome : Outcome) → Contains events (single.Report i outcome) → IsShallow outcome.body
recorded-shallow requests [] [] resolved can i outcome has = absurd (no-report i outcome has)
recorded-shallow requests [] (e ∷ events) resolved can i outcome has = absurd resolved
recorded-shallow requests (n ∷ ns) [] resolved can i outcome has = absurd resolved
recorded-shallow requests (n ∷ ns) (e ∷ events) resolved can i outcome has = elim (Contains-cases e (single.Report i outcome) events has) [
  | inl here ↦ at n (All-head IsRecordableEvent n ns can) (subst (IsResolved requests n) here resolved.0)
  | inr later ↦ recorded-shallow requests ns events resolved.1 (All-tail IsRecordableEvent n ns can) i outcome later
]
  where
    at : (n : EventValue) → IsRecordableEvent n → IsResolved requests n (single.Report i outcome) → IsShallow outcome.body
    at (named.Start id) can is = absurd is
    at (named.Report id o) can is = subst (λ (x : Outcome). IsShallow x.body) (sym is.1) can.1

no-body : (status : ℕ) (headers : List ℕ) (outcome : Outcome) → IsReported status headers outcome → outcome.body ≡ None
no-body status headers outcome is = is.parts.of_body

value-shallow : (answered : Option Outcome) (text : Option (List ℕ)) → ((outcome : Outcome) → answered ≡ Some outcome → IsShallow outcome.body) → IsShallow (value_body answered text)
value-shallow None None each = tt
value-shallow None (Some text) each = tt
value-shallow (Some outcome) None each = each outcome refl
value-shallow (Some outcome) (Some text) each = tt

pub shallow-answer : (requests : List Record) (ns : List EventValue) (recorded : List Event) (calls : List Call) (i : ℕ) (answered : Option Outcome) (text : Option (List ℕ)) → AllZip (IsResolved requests) ns recorded → All IsRecordableEvent ns
    → ((outcome : Outcome) → answered ≡ Some outcome → IsReportedBy calls recorded i outcome text) → IsShallow (value_body answered text)
shallow-answer requests ns recorded calls i answered text resolved can each = value-shallow answered text (λ outcome is. elim (each outcome is) [
  | inl of ↦ subst IsShallow (sym (no-body of.status of.headers outcome of.reported)) tt
  | inr was ↦ recorded-shallow requests ns recorded resolved can i outcome was.0
])

-- ---- the statuses of answers

answer-status : (phase : Phase) (b : Bool) → ((outcome : Outcome) → outcome_of phase ≡ Some outcome → is_status outcome.status ≡ true) → is_status (status_of (answer_of phase b)) ≡ true
answer-status Unstarted b each = refl
answer-status Running b each = refl
answer-status (Reported outcome) b each = at (is_success outcome.status && not b)
  where
    at : (undone : Bool) → is_status (status_of (if undone then None else Some outcome)) ≡ true
    at true = refl
    at false = each outcome refl

pub answer-statuses : (state : State) → HasStatuses state → (i : ℕ) → is_status (status_of (answer state i)) ≡ true
answer-statuses state has i = answer-status (phase_at state i) (unit_succeeded state (unit_of state.plan_graph i)) (has i)
