-- What is true of every live run, whatever its caller starts, reports and stops (OData JSON Format 4.01, sections 19.1, 19.4
-- and 19.5; OData Protocol 4.01, section 11.7).
use Rattle.std.specs.Prelude.{◌≡◌, ◌⊎◌, ◌↔◌, ℕ, ◌<◌, ◌≤◌, ◌+◌, ◌==◌, ◌&&◌, false, not, List, ◌∷◌, ◌++◌, length, Contains}
use Rattle.odb_doc.specs.batch.Records.{Record}
use Rattle.odb_doc.specs.declared.recorded.outcome.Outcome.{Outcome}
use Rattle.odb_doc.specs.Statuses.{is_error}
use Rattle.odb_check.specs.Firsts.{any_below, count_below}
use Rattle.odb_check.specs.PlanGraph.{unit_of}
use Rattle.odb_check.specs.Units.{unit_at}
use Rattle.odb_sched.specs.declared.event.Event.TheVariants.{Start, Report}
use Rattle.odb_sched.specs.declared.phase.Phase.TheVariants.{Reported}
use Rattle.odb_sched.specs.declared.policy.Mode.TheVariants as modes
use Rattle.odb_sched.specs.declared.policy.Policy.{Policy}
use Rattle.odb_sched.specs.run.State.{State, is_running, is_unstarted, size, phase_at}
use Rattle.odb_sched.specs.run.Answers.{HasStatuses}
use Rattle.odb_sched.specs.run.Laws.{HasSuccess, HoldsOfNamed, IsAllOrNone, IsNeverStuck, RestsOnSuccesses}
use Rattle.odb_sched.specs.run.LiveEvents.{LiveEvent, Single, StartUnit, Stop, singles, is_sent, live_state}

-- a live event starts the request: alone, or with its unit
abbrev pub StartsIt : List Record → LiveEvent → ℕ → Type 0
StartsIt requests (Single (Start j)) i = j ≡ i
StartsIt requests (Single (Report j outcome)) i = ⊥
StartsIt requests (StartUnit u) i = (i < length requests) × (unit_at requests i ≡ u)
StartsIt requests Stop i = ⊥

-- a live event sends the request with others of its unit, as one
abbrev pub SendsAsOne : List Record → LiveEvent → ℕ → Type 0
SendsAsOne requests (Single event) r = ⊥
SendsAsOne requests (StartUnit u) r = unit_at requests r ≡ u
SendsAsOne requests Stop r = ⊥

-- No request starts before all that it names has ended with success, but for what is sent with it as one (sections 19.1 and
-- 19.4 of JSON Format).
abbrev pub StartsAfterNamed : List Record → List LiveEvent → Type 0
StartsAfterNamed requests events = (before later : List LiveEvent) (event : LiveEvent) (i : ℕ) → events ≡ before ++ event ∷ later → StartsIt requests event i
    → HoldsOfNamed requests i (λ r. SendsAsOne requests event r ⊎ HasSuccess (singles before) r)

-- Nothing starts after a stop by the caller; nor, if an error stops the run, after a report with a status from 400 to 599
-- (section 11.7 of Protocol).
abbrev pub StartsNothingOnceStopped : List Record → Policy → List LiveEvent → Type 0
StartsNothingOnceStopped requests policy events = (before later : List LiveEvent) (event : LiveEvent) (i : ℕ) → events ≡ before ++ event ∷ later → StartsIt requests event i
    → ¬ Contains before Stop × (policy.mode ≡ modes.Stop → (r : ℕ) (outcome : Outcome) → Contains (singles before) (Report r outcome) → is_error outcome.status ≡ false)

-- how many of the requests that were started one by one are running
abbrev pub single_count : State → List LiveEvent → ℕ
single_count state events = count_below (size state) (λ i. is_running (phase_at state i) && not (is_sent events (unit_of state.plan_graph i)))

-- how many of the units that were sent as one have a member that is running
abbrev pub sent_count : State → List LiveEvent → ℕ
sent_count state events = count_below state.plan_graph.unit_count (λ u. is_sent events u && any_below (size state) (λ i. (unit_of state.plan_graph i == u) && is_running (phase_at state i)))

-- What every live run keeps of its requests, under its policy, at each moment: the events may be those up to any moment.
pub record KeepsPromises (requests : List Record) (policy : Policy) (events : List LiveEvent) : Type 0 where
  -- a request has started if and only if one of the events starts it, and has reported an outcome if and only if that is reported
  pub started : (i : ℕ) → i < length requests → (is_unstarted (phase_at (live_state requests policy events) i) ≡ false) ↔ ((event : LiveEvent) × Contains events event × StartsIt requests event i)
  pub reported : (i : ℕ) (outcome : Outcome) → (phase_at (live_state requests policy events) i ≡ Reported outcome) ↔ Contains (singles events) (Report i outcome)
  pub dependencies_first : StartsAfterNamed requests events
  pub stops : StartsNothingOnceStopped requests policy events
  -- no more run at once than the width allows, where a unit that was sent as one counts as one
  pub width : single_count (live_state requests policy events) events + sent_count (live_state requests policy events) events ≤ policy.width
  -- a run that is not finished has a request that runs or one that may start
  pub never_stuck : IsNeverStuck (live_state requests policy events)
  -- the requests of a group are all answered with a success, or none is (section 19.5 of JSON Format)
  pub all_or_none : IsAllOrNone (live_state requests policy events)
  -- what is answered with a success needs only what is answered with a success
  pub rests_on_successes : RestsOnSuccesses (live_state requests policy events)
  -- what is reported has a status from 200 to 599
  pub statuses : HasStatuses (live_state requests policy events)
