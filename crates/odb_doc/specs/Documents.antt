-- The JSON value that the bytes of a document are.
use Rattle.std.specs.Prelude.{◌≡◌, ◌≤◌, ◌<◌, ℕ, List, length, Some, IsUtf8}
use Rattle.serde_json.specs.Data.{Data}
use Rattle.serde_json.specs.Read.{read}
use Rattle.odb_doc.specs.declared.fault.DocumentRule.TheVariants as rules
use Rattle.odb_doc.specs.declared.fault.DocFault.{DocFault}
use Rattle.odb_doc.specs.declared.fault.DocFault.TheVariants as faults

-- how many bytes a document may have
abbrev pub most_bytes : ℕ
most_bytes = 16777216

-- what `serde_json` reads from the bytes
abbrev pub IsJson : List ℕ → Data → Type 0
IsJson bytes d = IsUtf8 bytes × (read bytes ≡ Some d)

-- the value of a document that is not too long
abbrev pub IsDocument : List ℕ → Data → Type 0
IsDocument bytes d = (length bytes ≤ most_bytes) × IsJson bytes d

-- Why the bytes are not a document. Out of memory may come in place of any reason.
abbrev pub RefusesDocument : DocFault → List ℕ → Type 0
RefusesDocument (faults.Document rules.TooLong) bytes = most_bytes < length bytes
RefusesDocument (faults.Document rules.NotJson) bytes = (length bytes ≤ most_bytes) × ((d : Data) → ¬ IsJson bytes d)
RefusesDocument (faults.Document _) bytes = ⊥
RefusesDocument (faults.Request at rule) bytes = ⊥
RefusesDocument faults.OutOfMemory bytes = Unit {0}
