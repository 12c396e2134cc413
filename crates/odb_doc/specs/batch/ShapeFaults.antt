-- All faults of the shape of a batch document: those of the first phase that has any.
use Rattle.std.specs.Prelude.{ℕ, List}
use Rattle.serde_json.specs.Data.{Data}
use Rattle.odb_doc.specs.declared.fault.DocFault.{DocFault}
use Rattle.odb_doc.specs.declared.fault.DocFault.TheVariants as faults
use Rattle.odb_doc.specs.AllFaults.{ListsAll}
use Rattle.odb_doc.specs.Faults.{document_number, request_number}
use Rattle.odb_doc.specs.batch.LeastFault.{IsBatchObject, BreaksRequestAt}
use Rattle.odb_doc.specs.batch.Shapes.{BreaksDocument, elements}

-- the position and the number of a fault
abbrev pub shape_place : DocFault → ℕ × ℕ
shape_place (faults.Document rule) = (0, document_number rule)
shape_place (faults.Request at rule) = (at, request_number rule)
shape_place faults.OutOfMemory = (0, 0)

-- the document breaks this rule as a whole, or it breaks none as a whole and its request breaks this rule
abbrev pub IsShapeFault : Data → DocFault → Type 0
IsShapeFault d (faults.Document rule) = BreaksDocument rule d
IsShapeFault d (faults.Request at rule) = IsBatchObject d × BreaksRequestAt (elements d) rule at
IsShapeFault d faults.OutOfMemory = ⊥

-- the list has all faults of shape, each once, in order
abbrev pub AreShapeFaults : Data → List DocFault → Type 0
AreShapeFaults d faults = ListsAll shape_place (IsShapeFault d) faults
