-- The exits of a canonical text.
use Rattle.std.proofs.Common.{◌≡◌, ℕ, List, inl, refl}
use Rattle.odb_doc.specs.declared.fault.TextFault.{TextFault}
use Rattle.odb_doc.specs.declared.fault.TextFault.TheVariants.{NotWhole, OutOfMemory}
use Rattle.odb_doc.specs.canonical.Canonical.{IsFirstNotWhole}
use Rattle.odb_doc.specs.batch.Records.{Record}
use Rattle.odb_doc.specs.Faults.{text_row}
use Rattle.odb_engine.specs.declared.ending.Ended.TheVariants.{Refused}
use Rattle.odb_engine.specs.declared.halt.Halt.{Halt}
use Rattle.odb_engine.specs.declared.form.Form.{Form}
use Rattle.odb_engine.specs.Forms.{fault_text}
use Rattle.odb_engine.specs.Commands.{Canonical, IsNotWhole}
use Rattle.odb_engine.specs.Halts.{Refuses, HaltsBy}
use Rattle.odb_engine.proofs.EngineLemmas.{reports, halted-by}

-- a body holds a number that is not whole
pub halt-text : (batch : List Record) (form : Form) (fault : TextFault) → ((at : ℕ) → fault ≡ NotWhole at → IsFirstNotWhole batch at)
    → (halt : Halt) → HaltsBy (text_row fault) halt → Refuses (Canonical batch) form halt
halt-text batch form (NotWhole at) first = halted-by (λ refusal. Canonical batch form Refused (fault_text form refusal)) _ (λ refusal row. inl (reports (IsNotWhole batch) form refusal (record { at = at; first = first at refl; is = row })))
halt-text batch form OutOfMemory first = halted-by (λ refusal. Canonical batch form Refused (fault_text form refusal)) _ (λ refusal row. absurd (cc row))
