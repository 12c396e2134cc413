-- Why an engine halts before it writes, and what it writes of what it found.
use Rattle.std.specs.Prelude.{◌≡◌, Bool, true, false, List, Option, Some, None, Result, Ok, Err, String, string_bytes}
use Rattle.std.specs.declared.alloc.Global.{Global}
use Rattle.odb_doc.specs.batch.Records.{Record}
use Rattle.odb_check.specs.FaultTable.{CheckFault, check_row}
use Rattle.odb_check.specs.LeastNameFault.{RefusesNames}
use Rattle.odb_engine.specs.declared.ending.Ended.TheVariants.{Done, Refused}
use Rattle.odb_engine.specs.declared.halt.Halt.{Halt}
use Rattle.odb_engine.specs.declared.halt.Halt.TheVariants as halts
use Rattle.odb_engine.specs.declared.form.Form.{Form}
use Rattle.odb_doc.specs.Refusals.{Printed}
use Rattle.odb_doc.specs.Refusals as refusals
use Rattle.odb_engine.specs.Cascade.{Writes, WritesIn, Prints}
use Rattle.odb_engine.specs.Forms.{fault_text}

-- a halt by a fault is one by such a fault
abbrev pub Halted : (Printed → Type 0) → Halt → Type 0
Halted Is (halts.Refused refusal) = Is (refusals.printed refusal)
Halted Is halts.Read = Unit {0}
Halted Is halts.OutOfMemory = Unit {0}

-- whether a document is refused
abbrev pub is_refused : Halt → Bool
is_refused (halts.Refused refusal) = true
is_refused halts.Read = false
is_refused halts.OutOfMemory = false

-- a halt by a fault is one that may be written in this form
abbrev pub Refuses : WritesIn → Form → Halt → Type 0
Refuses P form halt = Halted (λ refusal. P form Refused (fault_text form refusal)) halt

-- what was found may be written in this form
abbrev pub Found : WritesIn → Form → Result (String Global) Halt → Type 0
Found P form (Ok text) = P form Done (string_bytes text)
Found P form (Err halt) = Refuses P form halt

-- what is written of what was found
abbrev pub text_found : Form → Result (String Global) Halt → Writes
text_found form (Ok found) ended text = Prints (string_bytes found) ended text
text_found form (Err (halts.Refused refusal)) ended text = (ended ≡ Refused) × (text ≡ fault_text form (refusals.printed refusal))
text_found form (Err halts.Read) ended text = ⊥
text_found form (Err halts.OutOfMemory) ended text = ⊥

-- the halt of a fault with this row: it is refused if it has one, and else out of memory
abbrev pub HaltsBy : Option Printed → Halt → Type 0
HaltsBy row (halts.Refused refusal) = row ≡ Some (refusals.printed refusal)
HaltsBy row halts.Read = ⊥
HaltsBy row halts.OutOfMemory = row ≡ None

-- the names of these requests have a fault
pub record RefusesNamesOf (batch : List Record) (refusal : Printed) : Type 0 where
  pub fault : CheckFault
  pub refuses : RefusesNames fault batch
  pub is : check_row fault ≡ Some refusal
