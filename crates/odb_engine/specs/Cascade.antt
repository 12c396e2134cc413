-- What is written of a batch document: its least fault, or what a command prints of its requests.
use Rattle.std.specs.Prelude.{◌≡◌, ◌⊎◌, ℕ, List, Option, Some, option_map}
use Rattle.serde_json.specs.Data.{Data}
use Rattle.odb_doc.specs.declared.fault.Place.{Place}
use Rattle.odb_doc.specs.declared.fault.Place.TheVariants.{Batch}
use Rattle.odb_doc.specs.declared.fault.DocFault.{DocFault}
use Rattle.odb_doc.specs.Documents.{IsDocument, RefusesDocument}
use Rattle.odb_doc.specs.Faults.{document_row}
use Rattle.odb_doc.specs.Refusals.{Printed}
use Rattle.odb_doc.specs.batch.LeastFault.{IsWellShaped, IsLeastFault}
use Rattle.odb_doc.specs.batch.Records.{Record, IsBatchOf}
use Rattle.odb_check.specs.FaultTable.{CheckFault, check_row}
use Rattle.odb_check.specs.LeastNameFault.{HasGoodNames, RefusesNames}
use Rattle.odb_engine.specs.declared.ending.Ended.{Ended}
use Rattle.odb_engine.specs.declared.ending.Ended.TheVariants.{Done, Refused}
use Rattle.odb_engine.specs.declared.form.Form.{Form}
use Rattle.odb_engine.specs.Forms.{fault_text}

-- how a command ends, and what it has written then
abbrev pub Writes : Type 1
Writes = Ended → List ℕ → Type 0

-- the same in each form
abbrev pub WritesIn : Type 1
WritesIn = Form → Writes

-- the result is this text
abbrev pub Prints : List ℕ → Writes
Prints text ended written = (ended ≡ Done) × (written ≡ text)

-- what is printed of a fault in another document than that of its row
abbrev pub at_place : Place → Printed → Printed
at_place place refusal = record { code = refusal.code; name = refusal.name; place = place }

-- the bytes of the document at this place have this refusal
pub record RefusesBytes (place : Place) (bytes : List ℕ) (refusal : Printed) : Type 0 where
  pub fault : DocFault
  pub refuses : RefusesDocument fault bytes
  pub is : option_map (at_place place) (document_row fault) ≡ Some refusal

-- the bytes are a document whose value has this property
pub record HasValue (bytes : List ℕ) (P : Data → Type 0) : Type 0 where
  pub value : Data
  pub document : IsDocument bytes value
  pub holds : P value

-- such a fault is printed in a form
pub record Reports (Is : Printed → Type 0) (form : Form) (ended : Ended) (text : List ℕ) : Type 0 where
  pub refusal : Printed
  pub is : Is refusal
  pub ends : ended ≡ Refused
  pub prints : text ≡ fault_text form refusal

-- what is written of the document at a place: the fault of its bytes, or what P writes of its value
abbrev pub OfDocument : Place → (Data → WritesIn) → List ℕ → WritesIn
OfDocument place P bytes form ended text = Reports (RefusesBytes place bytes) form ended text ⊎ HasValue bytes (λ value. P value form ended text)

-- the value has a fault that is printed so
pub record HasFault {F : Type 0} (Refuses : F → Data → Type 0) (row : F → Option Printed) (value : Data) (refusal : Printed) : Type 0 where
  pub fault : F
  pub refuses : Refuses fault value
  pub is : row fault ≡ Some refusal

-- the least fault of a document: of its bytes, or else of its value
abbrev pub IsLeastOf : Place → (Data → Printed → Type 0) → List ℕ → Printed → Type 0
IsLeastOf place Is bytes refusal = RefusesBytes place bytes refusal ⊎ HasValue bytes (λ value. Is value refusal)

-- the value has no fault of shape, and its requests have this property
pub record HasBatch (value : Data) (P : List Record → Type 0) : Type 0 where
  pub batch : List Record
  pub shaped : IsWellShaped value
  pub is_batch : IsBatchOf value batch
  pub holds : P batch

-- the names of its requests have this fault
abbrev pub RefusesBatch : CheckFault → Data → Type 0
RefusesBatch fault value = HasBatch value (RefusesNames fault)

-- the least fault of the value of a batch document: of its shape, or else of the names of its requests
abbrev pub IsLeastOfBatch : Data → Printed → Type 0
IsLeastOfBatch value refusal = HasFault IsLeastFault document_row value refusal ⊎ HasFault RefusesBatch check_row value refusal

-- the value is a batch that the check accepts, and its requests have this property
abbrev pub AcceptsValue : Data → (List Record → Type 0) → Type 0
AcceptsValue value P = HasBatch value (λ batch. HasGoodNames batch × P batch)

-- the cascade of every command: the least fault of the batch, or what P writes of its requests
abbrev pub AnswersValue : (List Record → WritesIn) → Data → WritesIn
AnswersValue P value form ended text = Reports (IsLeastOfBatch value) form ended text ⊎ AcceptsValue value (λ batch. P batch form ended text)

-- the same of the bytes of a batch document
abbrev pub Answers : (List Record → WritesIn) → List ℕ → WritesIn
Answers P = OfDocument Batch (AnswersValue P)

-- the least fault of the bytes of a batch document
abbrev pub IsLeast : List ℕ → Printed → Type 0
IsLeast = IsLeastOf Batch IsLeastOfBatch

-- the bytes are a batch that the check accepts, and its requests have this property
abbrev pub Accepts : List ℕ → (List Record → Type 0) → Type 0
Accepts bytes P = HasValue bytes (λ value. AcceptsValue value P)

-- two texts that may be written are equal, and so are the ends
abbrev pub IsOne : Writes → Type 0
IsOne writes = (ended other : Ended) (text different : List ℕ) → writes ended text → writes other different → (ended ≡ other) × (text ≡ different)
