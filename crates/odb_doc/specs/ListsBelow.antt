-- All faults of one kind below a place, while a list of them is made: for private clauses, nothing to believe.
use Rattle.std.specs.Prelude.{ℕ, List, length, Contains}
use Rattle.std.specs.List.{AllAdjacentBelow}
use Rattle.serde_json.specs.Data.{Data}
use Rattle.odb_doc.specs.declared.fault.DocFault.{DocFault}
use Rattle.odb_doc.specs.declared.fault.DocFault.TheVariants as faults
use Rattle.odb_doc.specs.AllFaults.{IsBefore}
use Rattle.odb_doc.specs.batch.LeastFault.{BreaksRequestAt}
use Rattle.odb_doc.specs.batch.Shapes.{BreaksDocument}

-- the list has the faults of this kind before this position and number, and no others, in order
pub record ListsBelow {F : Type 0} (place : F → ℕ × ℕ) (IsFault : F → Type 0) (bound : ℕ × ℕ) (faults : List F) : Type 0 where
  pub sound : (fault : F) → Contains faults fault → IsFault fault × IsBefore (place fault) bound
  pub complete : (fault : F) → IsFault fault → IsBefore (place fault) bound → Contains faults fault
  pub ordered : AllAdjacentBelow (λ x y. IsBefore (place x) (place y)) faults (length faults)

-- the faults of a document as a whole
abbrev pub IsWholeFault : Data → DocFault → Type 0
IsWholeFault d (faults.Document rule) = BreaksDocument rule d
IsWholeFault d _ = ⊥

-- the faults of the requests of a list
abbrev pub IsRequestFault : List Data → DocFault → Type 0
IsRequestFault ds (faults.Request at rule) = BreaksRequestAt ds rule at
IsRequestFault ds _ = ⊥
