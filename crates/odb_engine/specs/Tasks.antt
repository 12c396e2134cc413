-- What a task writes: of the requests of a batch and a second document, and of one line of a log.
use Rattle.std.specs.Prelude.{◌≡◌, ◌⊎◌, ℕ, Bool, true, false, List, [], Option, None, Some, is_some}
use Rattle.serde_json.specs.Data.{Data}
use Rattle.odb_doc.specs.declared.fault.Place.{Place}
use Rattle.odb_doc.specs.declared.fault.Place.TheVariants as places
use Rattle.odb_doc.specs.Documents.{IsDocument}
use Rattle.odb_doc.specs.batch.Records.{Record}
use Rattle.odb_doc.specs.Refusals.{Printed}
use Rattle.odb_spans.specs.Positions as spans
use Rattle.odb_spans.specs.Spans.{bytes_of}
use Rattle.odb_spans.specs.declared.span.Span.{Span}
use Rattle.odb_sched.specs.run.Choosing.{AllowsOrder}
use Rattle.odb_engine.specs.declared.ending.Ended.{Ended}
use Rattle.odb_engine.specs.declared.form.Form.{Form}
use Rattle.odb_engine.specs.declared.tasks.task.Task.{Task}
use Rattle.odb_engine.specs.declared.tasks.task.Task.TheVariants as tasks
use Rattle.odb_engine.specs.AllFaults.{AreFaultsIn, Lists}
use Rattle.odb_engine.specs.Cascade.{WritesIn, Answers, AnswersValue, OfDocument, Reports}
use Rattle.odb_engine.specs.Commands.{Canonical, Counts, Drawings, Plans}
use Rattle.odb_engine.specs.Contents.{Given, OfTaken}
use Rattle.odb_engine.specs.Contents.Given.{InHand, InMemory}
use Rattle.odb_engine.specs.FullPlans.{ShowsPlaces}
use Rattle.odb_engine.specs.Matches.{MatchesValue}
use Rattle.odb_engine.specs.Replays.{ReplaysValue}
use Rattle.odb_engine.specs.Rests.{RestsValue}
use Rattle.odb_engine.specs.Rules.{rule_row}
use Rattle.odb_engine.specs.declared.rule.EngineRule.TheVariants.{NotPair}
use Rattle.odb_engine.specs.Runs.{RunsValue}

-- the plan, or the full plan of the batch in these bytes
abbrev pub PlansBy : Bool → List ℕ → List Record → WritesIn
PlansBy false document = Plans
PlansBy true document = ShowsPlaces document

-- what a task writes of the requests of the batch in these bytes, by the value of the second document if it takes one
abbrev pub OfValues : Task → List ℕ → Data → List Record → WritesIn
OfValues (tasks.Check all) document second batch = Counts batch
OfValues (tasks.Plan full) document second batch = PlansBy full document batch
OfValues tasks.Draw document second batch = Drawings batch
OfValues tasks.Canon document second batch = Canonical batch
OfValues (tasks.Match mode strict) document second batch = MatchesValue mode strict batch second
OfValues (tasks.Rest mode) document second batch = RestsValue mode document batch second
OfValues (tasks.Replay policy order traced) document second batch = ReplaysValue (AllowsOrder order) policy traced batch second
OfValues (tasks.Run policy) document second batch = RunsValue policy batch second

-- the place of the second document of a task, if it takes one
abbrev pub second_place : Task → Option Place
second_place (tasks.Check all) = None
second_place (tasks.Plan full) = None
second_place tasks.Draw = None
second_place tasks.Canon = None
second_place (tasks.Match mode strict) = Some places.Responses
second_place (tasks.Rest mode) = Some places.Responses
second_place (tasks.Replay policy order traced) = Some places.Outcomes
second_place (tasks.Run policy) = Some places.Events

-- whether a task takes a second document
abbrev pub takes_second : Task → Bool
takes_second task = is_some (second_place task)

-- what a task writes of the requests of the batch in these bytes, by the second document if it takes one
abbrev pub OfTask : Task → List ℕ → Given → List Record → WritesIn
OfTask task document given batch = OfTaken (second_place task) (λ second. OfValues task document second batch) given

-- whether a task takes the bytes of the batch document, beside its value
abbrev pub takes_bytes : Task → Bool
takes_bytes (tasks.Check all) = false
takes_bytes (tasks.Plan full) = full
takes_bytes tasks.Draw = false
takes_bytes tasks.Canon = false
takes_bytes (tasks.Match mode strict) = false
takes_bytes (tasks.Rest mode) = true
takes_bytes (tasks.Replay policy order traced) = false
takes_bytes (tasks.Run policy) = false

-- whether all faults of a batch document are listed
abbrev pub lists_all : Task → Bool
lists_all (tasks.Check all) = all
lists_all (tasks.Plan full) = false
lists_all tasks.Draw = false
lists_all tasks.Canon = false
lists_all (tasks.Match mode strict) = false
lists_all (tasks.Rest mode) = false
lists_all (tasks.Replay policy order traced) = false
lists_all (tasks.Run policy) = false

-- what a task writes of a batch document in memory, by the second document if it takes one
abbrev pub OfDocuments : Task → Given → List ℕ → WritesIn
OfDocuments task second batch = Lists (lists_all task) (Answers (OfTask task batch second) batch) (AreFaultsIn batch)

-- the fault of a value that is not an array of two values
pub record IsNoPair (value : Data) (refusal : Printed) : Type 0 where
  pub none : (first second : Data) → ¬ value ≡ spans.pair first second
  pub is : refusal ≡ rule_row NotPair

-- the bytes are those of the first of the two documents in a line with this value
pub record IsFirstIn (line : List ℕ) (value : Data) (bytes : List ℕ) : Type 0 where
  pub first : Span
  pub other : Span
  pub parts : spans.ArePartsOf line first other value
  pub is : bytes ≡ bytes_of line first

-- the same, or no bytes if they are not taken
abbrev pub IsTakenOf : Bool → List ℕ → Data → List ℕ → Type 0
IsTakenOf false line value bytes = bytes ≡ []
IsTakenOf true line value bytes = IsFirstIn line value bytes

-- what is written of a line whose value is an array of two: of the first as a batch document, with its bytes if they are taken, and by the second
pub record WritesPair (takes : Bool) (P : List ℕ → Given → List Record → WritesIn) (line : List ℕ) (value : Data) (form : Form) (ended : Ended) (text : List ℕ) : Type 0 where
  pub first : Data
  pub second : Data
  pub pair : value ≡ spans.pair first second
  pub document : List ℕ
  pub taken : IsTakenOf takes line value document
  pub so : AnswersValue (P document (InHand second)) first form ended text

-- what is written of the two documents in the value of a line
abbrev pub AnswersPair : Bool → (List ℕ → Given → List Record → WritesIn) → List ℕ → Data → WritesIn
AnswersPair takes P line value form ended text = Reports (IsNoPair value) form ended text ⊎ WritesPair takes P line value form ended text

-- the same of the bytes of a line
abbrev pub OfPair : Bool → (List ℕ → Given → List Record → WritesIn) → List ℕ → WritesIn
OfPair takes P line = OfDocument places.Batch (AnswersPair takes P line) line

-- what is written of a line: of the document in it, or of the two documents in it
abbrev pub InLine : Bool → Bool → (List ℕ → Given → List Record → WritesIn) → List ℕ → WritesIn
InLine false takes P line = Answers (P line (InMemory [])) line
InLine true takes P line = OfPair takes P line

-- what a task writes of a line: the result, or the first fault
abbrev pub OfLine : Task → List ℕ → WritesIn
OfLine task = InLine (takes_second task) (takes_bytes task) (OfTask task)

-- what a task writes of a line: the result, or the faults
abbrev pub OfWholeLine : Task → List ℕ → WritesIn
OfWholeLine task line = Lists (lists_all task) (OfLine task line) (AreFaultsIn line)

-- the two documents lie in a line with this value, and this is written of them
pub record WritesParts (task : Task) (line : List ℕ) (value : Data) (form : Form) (ended : Ended) (text : List ℕ) : Type 0 where
  pub first : Span
  pub other : Span
  pub parts : spans.ArePartsOf line first other value
  pub so : OfDocuments task (InMemory (bytes_of line other)) (bytes_of line first) form ended text

-- the line holds the values of two documents, as an array
pub record IsLineOf (batch second line : List ℕ) : Type 0 where
  pub batch_value : Data
  pub second_value : Data
  pub batch_is : IsDocument batch batch_value
  pub second_is : IsDocument second second_value
  pub line_is : IsDocument line (spans.pair batch_value second_value)
