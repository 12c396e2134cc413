-- What is written of a run by a document is read again: what the document records nests no deeper than a response may.
use Rattle.std.proofs.Common.{◌≡◌, ◌<◌, ◌≤◌, ℕ, false, List, All, Some, inl, inr, sym, subst}
use Rattle.std.specs.List.{AllZip}
use Rattle.serde_json.specs.Data.{Data, depth}
use Rattle.serde_json.specs.Read.{read}
use Rattle.odb_doc.specs.recorded.Events.{EventValue, AreEventsOf, IsRecordableEvent}
use Rattle.odb_doc.specs.canonical.HeldValues.{IsHeld}
use Rattle.odb_doc.specs.recorded.OutcomeValues.{IsRecordable}
use Rattle.odb_doc.specs.recorded.Outcomes.{Recorded, AreOutcomesOf}
use Rattle.odb_doc.specs.batch.Records.{Record}
use Rattle.odb_sched.specs.declared.order.Order.{Order}
use Rattle.odb_sched.specs.declared.policy.Policy.{Policy}
use Rattle.odb_sched.specs.run.Choosing.{AllowsOrder}
use Rattle.odb_sched.specs.run.Answers.{answer, status_of}
use Rattle.odb_sched.specs.run.State.{State, size}
use Rattle.odb_reply.specs.Fits.{IsTableOf}
use Rattle.odb_reply.specs.ResponseDocuments.{Entry, ReadsAs, responses_in}
use Rattle.odb_reply.specs.Responses.{response_value}
use Rattle.odb_reply.specs.StatusFaults.{status_at}
use Rattle.odb_reply.specs.declared.strictness.Strictness.TheVariants.{Requests}
use Rattle.odb_engine.specs.declared.ending.Ended.TheVariants.{Done}
use Rattle.odb_engine.specs.declared.form.Form.{Form}
use Rattle.odb_engine.specs.Cascade.{WritesIn, Accepts, AcceptsValue, Answers, AnswersValue}
use Rattle.odb_engine.specs.ReadAgain.{IsReadAgain}
use Rattle.odb_engine.specs.Contents.Given.{InMemory}
use Rattle.odb_engine.specs.Replays.{Replays, ReplaysBatch, ReplaysValue}
use Rattle.odb_engine.specs.Runs.{Runs, RunsBatch, RunsValue}
use Rattle.odb_engine.specs.Tasks.{OfDocuments, OfTask}
use Rattle.odb_engine.specs.declared.tasks.task.Task.TheVariants as tasks

-- the statuses in a table of the response are those of the answers
abbrev pub ShowsTable : State → Type 0
ShowsTable state = (entries : List Entry) (places statuses : List ℕ) → AllZip ReadsAs (responses_in (response_value state)) entries → IsTableOf state.requests entries places statuses
    → (i : ℕ) → i < size state → status_of (answer state i) ≡ status_at statuses i

-- the laws of odb_doc on what is read from a text, and on what documents record
pub record AreReadings : Type 0 where
  pub held : (text : List ℕ) (value : Data) → read text ≡ Some value → IsHeld value
  pub nests : (text : List ℕ) (value : Data) → read text ≡ Some value → depth value ≤ 127
  pub outcomes : (value : Data) (entries : List Recorded) → IsHeld value → depth value ≤ 127 → AreOutcomesOf value entries → All (λ (entry : Recorded). IsRecordable entry.1) entries
  pub events : (value : Data) (events : List EventValue) → IsHeld value → depth value ≤ 127 → AreEventsOf value events → All IsRecordableEvent events

-- a result is written of a value, and of a batch that is accepted
value-done : (P : List Record → WritesIn) (Q : List Record → Type 0) (value : Data) (form : Form) (text : List ℕ) → ((batch : List Record) → P batch form Done text → Q batch) → AnswersValue P value form Done text → AcceptsValue value Q
value-done P Q value form text so (inl x) = absurd (cc (x.ends))
value-done P Q value form text so (inr x) = record { batch = x.batch; shaped = x.shaped; is_batch = x.is_batch; holds = (x.holds.0, so x.batch x.holds.1) }

answers-done : (P : List Record → WritesIn) (Q : List Record → Type 0) (bytes text : List ℕ) (form : Form) → ((batch : List Record) → P batch form Done text → Q batch) → Answers P bytes form Done text → Accepts bytes Q
answers-done P Q bytes text form so (inl x) = absurd (cc (x.ends))
answers-done P Q bytes text form so (inr x) = record { value = x.value; document = x.document; holds = value-done P Q x.value form text so x.holds }

replays-batch : AreReadings → (order : Order) (policy : Policy) (document text : List ℕ) (form : Form) (batch : List Record) → ReplaysBatch (AllowsOrder order) policy false batch document form Done text → IsReadAgain Requests batch text
replays-batch law order policy document text form batch (inl x) = absurd (cc (x.ends))
replays-batch law order policy document text form batch (inr has) = at has.holds
  where
    at : ReplaysValue (AllowsOrder order) policy false batch has.value form Done text → IsReadAgain Requests batch text
    at (inl x) = absurd (cc (x.ends))
    at (inr (entries, is, inl result)) =
        let reads = has.document.1.1 in
        let recordable = law.outcomes has.value entries (law.held document has.value reads) (law.nests document has.value reads) is.1 in
        subst (IsReadAgain Requests batch) (sym result.result) (result.read_again recordable)
    at (inr (entries, is, inr lacks)) = absurd (cc (lacks.ends))

replays-again : AreReadings → (order : Order) (policy : Policy) (outcomes text : List ℕ) (form : Form) (batch : List Record) → Replays (AllowsOrder order) policy false (Some outcomes) batch form Done text → IsReadAgain Requests batch text
replays-again law order policy outcomes text form batch (document, gives, so) = replays-batch law order policy document text form batch so

runs-batch : AreReadings → (policy : Policy) (document text : List ℕ) (form : Form) (batch : List Record) → RunsBatch policy batch document form Done text → IsReadAgain Requests batch text
runs-batch law policy document text form batch (inl x) = absurd (cc (x.ends))
runs-batch law policy document text form batch (inr has) = at has.holds
  where
    at : RunsValue policy batch has.value form Done text → IsReadAgain Requests batch text
    at (inl x) = absurd (cc (x.ends))
    at (inr (named, is, inl x)) = absurd (cc (x.ends))
    at (inr (named, is, inr result)) =
        let reads = has.document.1.1 in
        let recordable = law.events has.value named (law.held document has.value reads) (law.nests document has.value reads) is.1 in
        subst (IsReadAgain Requests batch) (sym result.result) (result.read_again recordable)

runs-again : AreReadings → (policy : Policy) (events text : List ℕ) (form : Form) (batch : List Record) → Runs policy (Some events) batch form Done text → IsReadAgain Requests batch text
runs-again law policy events text form batch (document, gives, so) = runs-batch law policy document text form batch so

pub replay-again : AreReadings → (order : Order) (policy : Policy) (form : Form) (bytes outcomes text : List ℕ) → Answers (Replays (AllowsOrder order) policy false (Some outcomes)) bytes form Done text → Accepts bytes (λ batch. IsReadAgain Requests batch text)
replay-again law order policy form bytes outcomes text = answers-done (Replays (AllowsOrder order) policy false (Some outcomes)) (λ batch. IsReadAgain Requests batch text) bytes text form (replays-again law order policy outcomes text form)

pub run-again : AreReadings → (policy : Policy) (form : Form) (bytes events text : List ℕ) → Answers (Runs policy (Some events)) bytes form Done text → Accepts bytes (λ batch. IsReadAgain Requests batch text)
run-again law policy form bytes events text = answers-done (Runs policy (Some events)) (λ batch. IsReadAgain Requests batch text) bytes text form (runs-again law policy events text form)

-- ---- of documents in memory

pub replayed-again : AreReadings → (order : Order) (policy : Policy) (form : Form) (bytes outcomes text : List ℕ) → OfDocuments (tasks.Replay policy order false) (InMemory outcomes) bytes form Done text → Accepts bytes (λ batch. IsReadAgain Requests batch text)
replayed-again law order policy form bytes outcomes text = answers-done (OfTask (tasks.Replay policy order false) bytes (InMemory outcomes)) (λ batch. IsReadAgain Requests batch text) bytes text form (replays-batch law order policy outcomes text form)

pub ran-again : AreReadings → (policy : Policy) (form : Form) (bytes events text : List ℕ) → OfDocuments (tasks.Run policy) (InMemory events) bytes form Done text → Accepts bytes (λ batch. IsReadAgain Requests batch text)
ran-again law policy form bytes events text = answers-done (OfTask (tasks.Run policy) bytes (InMemory events)) (λ batch. IsReadAgain Requests batch text) bytes text form (runs-batch law policy events text form)
