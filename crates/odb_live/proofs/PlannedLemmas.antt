-- What is made of a batch that was read, and why nothing is.
use Rattle.std.proofs.Common.{◌≡◌, ℕ, List, Some, inl, inr, subst, sym}
use Rattle.serde_json.specs.Data.{Data}
use Rattle.odb_doc.specs.declared.fault.DocFault.{DocFault}
use Rattle.odb_doc.specs.Documents.{IsDocument}
use Rattle.odb_doc.specs.Faults.{document_row}
use Rattle.odb_doc.specs.Refusals.{Printed}
use Rattle.odb_doc.specs.batch.LeastFault.{IsWellShaped, IsLeastFault}
use Rattle.odb_doc.specs.batch.Records.{Record, IsBatchOf}
use Rattle.odb_check.specs.LeastNameFault.{HasGoodNames}
use Rattle.odb_send.specs.Parts.{IsBatchIn}
use Rattle.odb_engine.specs.Cascade.{Accepts, IsLeast}
use Rattle.odb_engine.specs.Halts.{RefusesNamesOf}
use Rattle.odb_live.specs.Planned.{AcceptsAs}
use Rattle.odb_engine.proofs.EngineLemmas.{accepted-value}

-- the batch that was read is accepted
pub accepted : (bytes : List ℕ) (value : Data) (batch planned : List Record) (P : List Record → Type 0) → IsDocument bytes value → IsWellShaped value → IsBatchOf value batch → HasGoodNames batch
    → planned ≡ batch → P planned → Accepts bytes P
accepted bytes value batch planned P is shaped is_batch names same so = record { value = value; document = is; holds = accepted-value value batch planned P shaped is_batch names same so }

-- a fault of the shape of a batch document
pub least-shape : (bytes : List ℕ) (fault : DocFault) (value : Data) → IsDocument bytes value → IsLeastFault fault value → (shown : Printed) → document_row fault ≡ Some shown → IsLeast bytes shown
least-shape bytes fault value is least shown row = inr (record { value = value; document = is; holds = inl (record { fault = fault; refuses = least; is = row }) })

-- a fault of the names of its requests
pub least-names : (bytes : List ℕ) (value : Data) (batch : List Record) → IsDocument bytes value → IsWellShaped value → IsBatchOf value batch → (shown : Printed) → RefusesNamesOf batch shown → IsLeast bytes shown
least-names bytes value batch is shaped is_batch shown refuses =
    inr (record { value = value; document = is; holds = inr (record { fault = refuses.fault; refuses = record { batch = batch; shaped = shaped; is_batch = is_batch; holds = refuses.refuses }; is = refuses.is }) })

-- the batch that was read is in the document, also as it is planned
pub in-document : (bytes : List ℕ) (value : Data) (batch planned : List Record) → IsDocument bytes value → IsBatchOf value batch → planned ≡ batch → IsBatchIn bytes value planned
in-document bytes value batch planned is is_batch same = record { json = is.1; is = subst (λ (rs : List Record). IsBatchOf value rs) (sym same) is_batch }

-- what is true of the batch of a document makes something weaker true of it
pub accepts-weaker : (bytes : List ℕ) (P Q : Data → List Record → Type 0) → ((value : Data) (batch : List Record) → P value batch → Q value batch) → AcceptsAs bytes P → AcceptsAs bytes Q
accepts-weaker bytes P Q to x = record {
  value = x.value;
  document = x.document;
  holds = record { batch = x.holds.batch; shaped = x.holds.shaped; is_batch = x.holds.is_batch; holds = (x.holds.holds.0, to x.value x.holds.batch x.holds.holds.1) };
}
