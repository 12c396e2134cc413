-- For private clauses: what is written of an answer in memory, of all faults, and of a fault with where it is.
use Rattle.std.specs.Prelude.{◌≡◌, ℕ, Bool, true, false, List, Option, None, Some, Result, Ok, Err, String, string_bytes, if◌then◌else◌}
use Rattle.std.specs.declared.alloc.Global.{Global}
use Rattle.serde_json.specs.Data.{Data}
use Rattle.odb_doc.specs.declared.fault.Place.{Place}
use Rattle.odb_doc.specs.Refusals.{Printed, printed}
use Rattle.odb_doc.specs.batch.Records.{Record}
use Rattle.odb_check.specs.AllNameFaults.{AreNameFaults}
use Rattle.odb_check.specs.FaultTable.{check_row}
use Rattle.odb_spans.specs.Positions.{Stands, is_in_batch}
use Rattle.odb_spans.specs.declared.position.Position.{Position}
use Rattle.odb_text.specs.Places.{FitsWord}
use Rattle.odb_engine.specs.declared.tasks.answer.Answer.{Answer}
use Rattle.odb_engine.specs.declared.ending.Ended.{Ended}
use Rattle.odb_engine.specs.declared.ending.Ended.TheVariants.{Refused}
use Rattle.odb_engine.specs.declared.form.Form.{Form}
use Rattle.odb_engine.specs.declared.halt.Halt.{Halt}
use Rattle.odb_engine.specs.declared.halt.Halt.TheVariants as halts
use Rattle.odb_engine.specs.AllFaults.{ArePrinted}
use Rattle.odb_engine.specs.Cascade.{Prints, Writes}
use Rattle.odb_engine.specs.Contents.{Content, IsBytesOf, IsValueOf, RefusesContent, nothing}
use Rattle.odb_engine.specs.Forms.{fault_text, faults_text, located_text}
use Rattle.odb_engine.specs.Located.{HasPosition, PrintsAll}

-- what is written of an answer, if there is one
abbrev pub answer_found : Result Answer Halt → Writes
answer_found (Ok answer) ended text = (ended ≡ answer.ended) × (text ≡ answer.text.items)
answer_found (Err halt) ended text = ⊥

-- the list has what is printed of all faults of the names of these requests
abbrev pub AreNameFaultsOf : List Record → List Printed → Type 0
AreNameFaultsOf batch refusals = ArePrinted check_row (AreNameFaults batch) refusals

-- what is written of a fault, or of all these if they are listed
abbrev pub refused_text : Bool → Form → List Printed → Printed → List ℕ
refused_text false form refusals refusal = fault_text form refusal
refused_text true form refusals refusal = faults_text form refusals

-- what is written of what was found, or of all these faults if they are listed
abbrev pub listed_found : Bool → Form → List Printed → Result (String Global) Halt → Writes
listed_found all form refusals (Ok found) ended text = Prints (string_bytes found) ended text
listed_found all form refusals (Err (halts.Refused refusal)) ended text = (ended ≡ Refused) × (text ≡ refused_text all form refusals (printed refusal))
listed_found all form refusals (Err halts.Read) ended text = ⊥
listed_found all form refusals (Err halts.OutOfMemory) ended text = ⊥

-- a fault is printed with where it is, under this name
pub record LocatesFault (IsAt : Position → Type 0) (form : Form) (name : List ℕ) (refusal : Printed) (ended : Ended) (text : List ℕ) : Type 0 where
  pub fits : FitsWord refusal.place
  pub position : Position
  pub is_at : IsAt position
  pub ends : ended ≡ Refused
  pub prints : text ≡ located_text form name (record { refusal = refusal; position = Some position })

-- a fault of one of two documents is printed with where it is
abbrev pub LocatesEither : Form → List ℕ → List ℕ → List ℕ → List ℕ → Printed → Writes
LocatesEither form batch_name batch second_name second refusal =
    LocatesFault (Stands (if is_in_batch refusal.place then batch else second) refusal.place) form (if is_in_batch refusal.place then batch_name else second_name) refusal

-- a fault is printed with where it is, or all these are if they are listed
abbrev pub LocatesRefused : Bool → Bool → Option ℕ → Bool → Form → List ℕ → List ℕ → List ℕ → List ℕ → List Printed → Printed → Writes
LocatesRefused true two number is_pair form batch_name batch second_name second faults refusal = PrintsAll batch_name number batch form faults
LocatesRefused false true number is_pair form batch_name batch second_name second faults refusal = LocatesEither form batch_name batch second_name second refusal
LocatesRefused false false number is_pair form batch_name batch second_name second faults refusal = LocatesFault (HasPosition number is_pair batch refusal.place) form batch_name refusal

-- what is written of what was found
abbrev pub LocatesFound : Bool → Bool → Option ℕ → Bool → Form → List ℕ → List ℕ → List ℕ → List ℕ → List Printed → Result (String Global) Halt → Writes
LocatesFound all two number is_pair form batch_name batch second_name second faults (Ok found) ended text = Prints (string_bytes found) ended text
LocatesFound all two number is_pair form batch_name batch second_name second faults (Err (halts.Refused refusal)) ended text = LocatesRefused all two number is_pair form batch_name batch second_name second faults (printed refusal) ended text
LocatesFound all two number is_pair form batch_name batch second_name second faults (Err halts.Read) ended text = ⊥
LocatesFound all two number is_pair form batch_name batch second_name second faults (Err halts.OutOfMemory) ended text = ⊥

-- the same, with where the faults are if they are located
abbrev pub PrintsFound : Bool → Bool → Bool → Option ℕ → Bool → Form → List ℕ → List ℕ → List ℕ → List ℕ → List Printed → Result (String Global) Halt → Writes
PrintsFound false all two number is_pair form batch_name batch second_name second faults = listed_found all form faults
PrintsFound true all two number is_pair form batch_name batch second_name second faults = LocatesFound all two number is_pair form batch_name batch second_name second faults

-- ---- the second document of a command

-- this is its value, or nothing if there is none
abbrev pub IsSecond : Option Place → Content → Data → Type 0
IsSecond None content value = value ≡ nothing
IsSecond (Some place) content value = IsValueOf content value

-- its bytes have this refusal
abbrev pub RefusesSecond : Option Place → Content → Printed → Type 0
RefusesSecond None content refusal = ⊥
RefusesSecond (Some place) content refusal = RefusesContent place content refusal

-- these are its bytes, if there is one
abbrev pub HasSecond : Option Place → Content → List ℕ → Type 0
HasSecond None content bytes = Unit {0}
HasSecond (Some place) content bytes = IsBytesOf content bytes
