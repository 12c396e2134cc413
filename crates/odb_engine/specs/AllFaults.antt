-- All faults of a batch document, and what is written where they are listed.
use Rattle.std.specs.Prelude.{◌≡◌, ◌⊎◌, ℕ, Bool, true, false, List, [], ◌∷◌, Option}
use Rattle.std.specs.List.{filter_map}
use Rattle.serde_json.specs.Data.{Data}
use Rattle.odb_doc.specs.declared.fault.Place.TheVariants.{Batch}
use Rattle.odb_doc.specs.Faults.{document_row}
use Rattle.odb_doc.specs.Refusals.{Printed}
use Rattle.odb_doc.specs.batch.LeastFault.{IsWellShaped}
use Rattle.odb_doc.specs.batch.ShapeFaults.{AreShapeFaults}
use Rattle.odb_check.specs.AllNameFaults.{AreNameFaults}
use Rattle.odb_check.specs.FaultTable.{check_row}
use Rattle.odb_engine.specs.declared.ending.Ended.{Ended}
use Rattle.odb_engine.specs.declared.ending.Ended.TheVariants.{Done, Refused}
use Rattle.odb_engine.specs.declared.form.Form.{Form}
use Rattle.odb_engine.specs.Cascade.{HasBatch, HasValue, RefusesBytes, WritesIn}
use Rattle.odb_engine.specs.Forms.{faults_text}

-- the list has what is printed of such faults
pub record ArePrinted {F : Type 0} (row : F → Option Printed) (Are : List F → Type 0) (refusals : List Printed) : Type 0 where
  pub faults : List F
  pub are : Are faults
  pub is : refusals ≡ filter_map row faults

-- the list has all faults of the value of a batch document: of its shape if it has any, and else of the names of its requests
abbrev pub AreFaultsOf : Data → List Printed → Type 0
AreFaultsOf value refusals =
    ((¬ IsWellShaped value) × ArePrinted document_row (AreShapeFaults value) refusals) ⊎ HasBatch value (λ batch. ArePrinted check_row (AreNameFaults batch) refusals)

-- the bytes are no document, and the list has this fault alone
pub record HasOne (bytes : List ℕ) (refusals : List Printed) : Type 0 where
  pub refusal : Printed
  pub refuses : RefusesBytes Batch bytes refusal
  pub is : refusals ≡ refusal ∷ []

-- the list has all faults of the bytes of a batch document: that of the bytes if there is one, and else those of their value
abbrev pub AreFaultsIn : List ℕ → List Printed → Type 0
AreFaultsIn bytes refusals = HasOne bytes refusals ⊎ HasValue bytes (λ value. AreFaultsOf value refusals)

-- where a command writes a fault, all such faults are printed
pub record ReportsAll (P : WritesIn) (Are : List Printed → Type 0) (form : Form) (ended : Ended) (text : List ℕ) : Type 0 where
  pub line : List ℕ
  pub refused : P form Refused line
  pub refusals : List Printed
  pub all : Are refusals
  pub ends : ended ≡ Refused
  pub prints : text ≡ faults_text form refusals

-- its result, or all of them
abbrev pub ListsAll : WritesIn → (List Printed → Type 0) → WritesIn
ListsAll P Are form ended text = ((ended ≡ Done) × P form Done text) ⊎ ReportsAll P Are form ended text

-- what a command writes, or if all faults are listed its result or all of them
abbrev pub Lists : Bool → WritesIn → (List Printed → Type 0) → WritesIn
Lists false P Are = P
Lists true P Are = ListsAll P Are
