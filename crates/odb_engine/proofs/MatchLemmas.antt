-- The exits of a match, and its result.
use Rattle.std.proofs.Common.{◌≡◌, ℕ, List, Option, Some, inl, inr, refl}
use Rattle.serde_json.specs.Data.{Data}
use Rattle.odb_doc.specs.Refusals.{Printed}
use Rattle.odb_doc.specs.batch.Records.{Record}
use Rattle.odb_check.specs.Plans.{batch_plan_graph}
use Rattle.odb_sched.specs.declared.policy.Mode.{Mode}
use Rattle.odb_reply.specs.StatusFaults.{StatusFault, RefusesStatuses, status_at, status_row}
use Rattle.odb_reply.specs.declared.strictness.Strictness.{Strictness}
use Rattle.odb_engine.specs.declared.ending.Ended.{Ended}
use Rattle.odb_engine.specs.declared.ending.Ended.TheVariants.{Done, Refused}
use Rattle.odb_engine.specs.declared.form.Form.{Form}
use Rattle.odb_engine.specs.declared.halt.Halt.{Halt}
use Rattle.odb_engine.specs.Cascade.{WritesIn}
use Rattle.odb_engine.specs.Forms.{fault_text}
use Rattle.odb_engine.specs.Halts.{Refuses, HaltsBy}
use Rattle.odb_engine.specs.Matches.{AreImpossible, HasNoTable, IsAnswered, IsFaultOfResponses, IsTableIn, MatchesValue, Misfits, OfResponses, WritesStatuses, decided, match_text}
use Rattle.odb_engine.specs.Matches.HasNoTable.{OfMatch, OfValue}
use Rattle.odb_engine.proofs.EngineLemmas.{reports, halted-by}

-- there is no table
pub no-table : (W : List ℕ → List ℕ → WritesIn) (mode : Mode) (batch : List Record) (value : Data) (form : Form) (refusal : Printed) → HasNoTable mode batch value refusal → OfResponses W mode batch value form Refused (fault_text form refusal)
no-table W mode batch value form refusal (OfValue is) = inl (reports (IsFaultOfResponses value) form refusal is)
no-table W mode batch value form refusal (OfMatch entries lists misfits) = inr (entries, lists, inl (reports (Misfits batch (decided mode batch entries)) form refusal misfits))

-- what is written by the table
pub by-table : (W : List ℕ → List ℕ → WritesIn) (mode : Mode) (batch : List Record) (value : Data) (places statuses : List ℕ) (form : Form) (ended : Ended) (text : List ℕ) → IsTableIn mode batch value places statuses
    → W places statuses form ended text → OfResponses W mode batch value form ended text
by-table W mode batch value places statuses form ended text is so = inr (is.entries, is.lists, inr (record { fits = is.fits; places = places; statuses = statuses; table = is.table; writes = so }))

-- some finished run answers the statuses, if that is asked
pub found-match : (mode : Mode) (strict : Option Strictness) (form : Form) (batch : List Record) (value : Data) (places statuses text : List ℕ) → IsTableIn mode batch value places statuses → IsAnswered strict batch statuses → text ≡ match_text form batch statuses
    → MatchesValue mode strict batch value form Done text
found-match mode strict form batch value places statuses text table answered is = by-table (λ _ all. WritesStatuses strict batch all) mode batch value places statuses form Done text table (inr (answered, (refl, is)))

-- none does, and that is asked
pub halt-statuses : (mode : Mode) (strict : Option Strictness) (form : Form) (batch : List Record) (value : Data) (places statuses : List ℕ) (fault : StatusFault) → IsTableIn mode batch value places statuses
    → (by : Strictness) → strict ≡ Some by → RefusesStatuses fault by (batch_plan_graph batch) (status_at statuses) → (halt : Halt) → HaltsBy (status_row fault) halt → Refuses (MatchesValue mode strict batch value) form halt
halt-statuses mode strict form batch value places statuses fault table by asked least = halted-by (λ refusal. MatchesValue mode strict batch value form Refused (fault_text form refusal)) _
    (λ refusal row. by-table (λ _ all. WritesStatuses strict batch all) mode batch value places statuses form Refused (fault_text form refusal) table (inl (reports (AreImpossible strict batch statuses) form refusal (record { by = by; asked = asked; fault = fault; least = least; is = row }))))
