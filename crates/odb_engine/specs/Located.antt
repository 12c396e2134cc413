-- What is written of documents whose faults are reported with where they are: a result as it is, and a fault with the position
-- that odb_spans finds for its place.
use Rattle.std.specs.Prelude.{◌≡◌, ◌⊎◌, ℕ, List, [], Bool, true, false, Option, Some, None, if◌then◌else◌, is_some, map, IsSomeAnd}
use Rattle.std.specs.List.{All}
use Rattle.odb_doc.specs.declared.fault.Place.{Place}
use Rattle.odb_doc.specs.Refusals.{Printed}
use Rattle.odb_doc.specs.batch.Records.{Record}
use Rattle.serde_json.specs.Data.{Data}
use Rattle.odb_spans.specs.declared.position.Position.{Position}
use Rattle.odb_spans.specs.Positions.{Stands, StandsInPair, is_in_batch}
use Rattle.odb_text.specs.Lines.{PrintedAt}
use Rattle.odb_text.specs.Places.{FitsWord}
use Rattle.odb_engine.specs.declared.ending.Ended.{Ended}
use Rattle.odb_engine.specs.declared.ending.Ended.TheVariants.{Done, Refused}
use Rattle.odb_engine.specs.declared.form.Form.{Form}
use Rattle.odb_engine.specs.AllFaults.{AreFaultsIn, Lists}
use Rattle.odb_engine.specs.Cascade.{Answers, WritesIn}
use Rattle.odb_engine.specs.Contents.{AreFaultsOfContent, Content, OfBatch, bytes_in, given_of}
use Rattle.odb_engine.specs.Contents.Given.{InMemory}
use Rattle.odb_engine.specs.Forms.{all_located_text, fault_text, located_text}
use Rattle.odb_engine.specs.declared.tasks.task.Task.{Task}
use Rattle.odb_engine.specs.Tasks.{OfLine, OfTask, lists_all, takes_second}

-- where a fault with this place is: in the document of this name, at this position
abbrev pub Whereabouts : Type 1
Whereabouts = Place → List ℕ → Position → Type 0

-- the fault that a command reports is printed with where it is
pub record ReportsAt (P : WritesIn) (IsAt : Whereabouts) (form : Form) (ended : Ended) (text : List ℕ) : Type 0 where
  pub refusal : Printed
  pub fits : FitsWord refusal.place
  pub reported : P form Refused (fault_text form refusal)
  pub name : List ℕ
  pub position : Position
  pub is_at : IsAt refusal.place name position
  pub ends : ended ≡ Refused
  pub prints : text ≡ located_text form name (record { refusal = refusal; position = Some position })

-- the result that a command writes, or its fault with where it is
abbrev pub Locates : WritesIn → Whereabouts → WritesIn
Locates P IsAt form ended text = ((ended ≡ Done) × P form Done text) ⊎ ReportsAt P IsAt form ended text

-- ---- one document, or the line of a log

-- a position in a line is printed with the number of the line in its log
abbrev pub numbered : Option ℕ → Position → Position
numbered None position = position
numbered (Some number) position = record { line = number; column = position.column; offset = position.offset; end = position.end }

-- a fault with this place is at this position in a document, or in an array of two documents
abbrev pub StandsIn : Bool → List ℕ → Place → Position → Type 0
StandsIn true = StandsInPair
StandsIn false = Stands

-- this position is printed of it
pub record HasPosition (number : Option ℕ) (is_pair : Bool) (document : List ℕ) (place : Place) (position : Position) : Type 0 where
  pub found : Position
  pub stands : StandsIn is_pair document place found
  pub is : position ≡ numbered number found

-- it is in the document of this name
abbrev pub IsInDocument : List ℕ → Option ℕ → Bool → List ℕ → Whereabouts
IsInDocument name number is_pair document place shown position = (shown ≡ name) × HasPosition number is_pair document place position

-- the faults are those, each with where it is in a document
pub record AreLocated (number : Option ℕ) (document : List ℕ) (refusals : List Printed) (faults : List PrintedAt) : Type 0 where
  pub are : map (λ fault. fault.refusal) faults ≡ refusals
  pub positions : All (λ fault. IsSomeAnd fault.position (HasPosition number false document fault.refusal.place)) faults

-- faults of a document are printed with where they are
pub record PrintsAll (name : List ℕ) (number : Option ℕ) (document : List ℕ) (form : Form) (refusals : List Printed) (ended : Ended) (text : List ℕ) : Type 0 where
  pub faults : List PrintedAt
  pub located : AreLocated number document refusals faults
  pub ends : ended ≡ Refused
  pub prints : text ≡ all_located_text form name faults

-- where a command writes a fault, all such faults of a document are printed with where they are
pub record ReportsAllAt (P : WritesIn) (Are : List Printed → Type 0) (name : List ℕ) (number : Option ℕ) (document : List ℕ) (form : Form) (ended : Ended) (text : List ℕ) : Type 0 where
  pub line : List ℕ
  pub refused : P form Refused line
  pub refusals : List Printed
  pub all : Are refusals
  pub prints : PrintsAll name number document form refusals ended text

-- the result that a command writes, or all faults with where they are
abbrev pub LocatesAll : WritesIn → (List Printed → Type 0) → List ℕ → Option ℕ → List ℕ → WritesIn
LocatesAll P Are name number document form ended text = ((ended ≡ Done) × P form Done text) ⊎ ReportsAllAt P Are name number document form ended text

-- ---- a batch document and a second document

-- a fault is in the batch document if its place is there, and else in the second document
abbrev pub IsInEither : List ℕ → List ℕ → List ℕ → List ℕ → Whereabouts
IsInEither batch_name batch second_name second place name position =
    (name ≡ (if is_in_batch place then batch_name else second_name)) × Stands (if is_in_batch place then batch else second) place position

-- The result that a command writes, or its fault with where it is: in either of two documents, or in one, which may be the line of a log.
-- If all faults are listed, they are those of the batch document.
abbrev pub LocatesBoth : Bool → Bool → Option ℕ → Bool → WritesIn → (List Printed → Type 0) → List ℕ → List ℕ → List ℕ → List ℕ → WritesIn
LocatesBoth true two number is_pair P Are batch_name batch second_name second = LocatesAll P Are batch_name number batch
LocatesBoth false true number is_pair P Are batch_name batch second_name second = Locates P (IsInEither batch_name batch second_name second)
LocatesBoth false false number is_pair P Are batch_name batch second_name second = Locates P (IsInDocument batch_name number is_pair batch)

-- what a task writes of the line of this number in a log, with where the faults are
abbrev pub LocatesLine : Task → List ℕ → ℕ → List ℕ → WritesIn
LocatesLine task name number line = LocatesBoth (lists_all task) false (Some number) (takes_second task) (OfLine task line) (AreFaultsIn line) name line [] []

-- what a command writes by the values of both documents, with where the faults are
abbrev pub LocatesContents : Bool → Option Place → (List ℕ → Data → List Record → WritesIn) → List ℕ → Content → List ℕ → Content → WritesIn
LocatesContents all place writes batch_name batch second_name second =
    LocatesBoth all (is_some place) None false (OfBatch place writes (given_of second) batch) (AreFaultsOfContent batch) batch_name (bytes_in batch) second_name (bytes_in second)

-- the same of what a task writes
abbrev pub LocatesDocuments : Task → List ℕ → List ℕ → List ℕ → List ℕ → WritesIn
LocatesDocuments task batch_name batch second_name second =
    LocatesBoth (lists_all task) (takes_second task) None false (Answers (OfTask task batch (InMemory second)) batch) (AreFaultsIn batch) batch_name batch second_name second

-- what a command writes of both documents, with its faults as they are, or with where they are
abbrev pub OfContents : Bool → Bool → Option Place → (List ℕ → Data → List Record → WritesIn) → List ℕ → Content → List ℕ → Content → WritesIn
OfContents false all place writes batch_name batch second_name second = Lists all (OfBatch place writes (given_of second) batch) (AreFaultsOfContent batch)
OfContents true all place writes batch_name batch second_name second = LocatesContents all place writes batch_name batch second_name second
