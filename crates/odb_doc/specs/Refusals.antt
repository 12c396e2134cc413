-- What is printed of a fault: its code, its name and its place.
use Rattle.std.specs.Prelude.{ℕ, ◌+◌, ◌/◌, ◌%◌, List, [], ◌∷◌, ◌++◌, codes}
use Rattle.odb_doc.specs.declared.fault.Place.{Place}
use Rattle.odb_doc.specs.declared.refusal.Refusal.{Refusal}

pub record Printed : Type 0 where
  pub code : List ℕ
  pub name : List ℕ
  pub place : Place

-- what a refusal prints
abbrev pub printed : Refusal → Printed
printed refusal = record { code = refusal.code.now; name = refusal.name.now; place = refusal.place }

-- `F` and the number in two digits
abbrev pub code_of : ℕ → List ℕ
code_of number = codes "F" ++ (48 + number / 10) ∷ (48 + number % 10) ∷ []

-- the fault of this number and this name
abbrev pub fault_at : ℕ → List ℕ → Place → Printed
fault_at number name place = record { code = code_of number; name = name; place = place }

-- the fault with the number and the name of this row of a table
abbrev pub fault_of : ℕ × List ℕ → Place → Printed
fault_of label place = fault_at label.0 label.1 place
