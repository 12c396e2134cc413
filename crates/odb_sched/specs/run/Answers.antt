-- What the requests of a finished run are answered (OData JSON Format 4.01, section 19.5).
use Rattle.std.specs.Prelude.{ℕ, ◌≡◌, ◌&&◌, Bool, false, not, List, Option, Some, None, is_none, IsTrue, if◌then◌else◌}
use Rattle.odb_doc.specs.declared.recorded.outcome.Outcome.{Outcome}
use Rattle.odb_check.specs.PlanGraph.{unit_of}
use Rattle.odb_sched.specs.declared.phase.Phase.{Phase}
use Rattle.odb_sched.specs.declared.phase.Phase.TheVariants.{Unstarted, Running, Reported}
use Rattle.odb_sched.specs.declared.answer.Answer.{Answer}
use Rattle.odb_sched.specs.declared.answer.Answer.TheVariants as answers
use Rattle.odb_check.specs.Firsts.{passing_below}
use Rattle.odb_doc.specs.Statuses.{is_success, is_status}
use Rattle.odb_sched.specs.run.State.{has_succeeded, State, size, phase_at}
use Rattle.odb_sched.specs.run.Steps.{unit_succeeded}

-- The answer of a request with this phase, by whether its unit succeeded. None is a failed dependency.
abbrev pub answer_of : Phase → Bool → Option Outcome
answer_of Unstarted succeeded = None
answer_of Running succeeded = None
answer_of (Reported outcome) succeeded = if is_success outcome.status && not succeeded then None else Some outcome

-- the outcome of a request with this phase
abbrev pub outcome_of : Phase → Option Outcome
outcome_of Unstarted = None
outcome_of Running = None
outcome_of (Reported outcome) = Some outcome

-- the outcome that a request has reported
abbrev pub reported : State → ℕ → Option Outcome
reported state i = outcome_of (phase_at state i)

abbrev pub answer : State → ℕ → Option Outcome
answer state i = answer_of (phase_at state i) (unit_succeeded state (unit_of state.plan_graph i))

-- reported 200 to 299, and is answered 424
abbrev pub is_undone : State → ℕ → Bool
is_undone state i = has_succeeded (phase_at state i) && is_none (answer state i)

-- the undone requests, from the last to the first
abbrev pub undone : State → List ℕ
undone state = passing_below (size state) (is_undone state)

abbrev pub is_answered_2xx : Option Outcome → Bool
is_answered_2xx None = false
is_answered_2xx (Some outcome) = is_success outcome.status

-- the outcome that an answer shows
abbrev pub shown : Answer → Option Outcome
shown (answers.Reported outcome) = Some outcome.now
shown answers.FailedDependency = None

-- the status of an answer: 424 is Failed Dependency
abbrev pub status_of : Option Outcome → ℕ
status_of None = 424
status_of (Some outcome) = outcome.status

-- each outcome that was reported has a status from 200 to 599
abbrev pub HasStatuses : State → Type 0
HasStatuses state = (i : ℕ) (outcome : Outcome) → reported state i ≡ Some outcome → IsTrue (is_status outcome.status)
