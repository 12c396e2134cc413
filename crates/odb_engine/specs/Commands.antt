-- What each command prints of the requests of a batch that is accepted.
use Rattle.std.specs.Prelude.{◌≡◌, ◌++◌, ◌∷◌, ◌⊎◌, ℕ, List, [], Some, length}
use Rattle.odb_doc.specs.declared.fault.TextFault.TheVariants.{NotWhole}
use Rattle.odb_doc.specs.canonical.Canonical.{HasWholeBodies, IsFirstNotWhole, canonical_text}
use Rattle.odb_doc.specs.batch.Records.{Record}
use Rattle.odb_doc.specs.Faults.{text_row}
use Rattle.odb_check.specs.Units.{groups_of}
use Rattle.odb_check.specs.Texts.{plan_text, newline}
use Rattle.odb_doc.specs.Refusals.{Printed}
use Rattle.odb_engine.specs.declared.form.Form.{Form}
use Rattle.odb_engine.specs.declared.form.Form.TheVariants.{Lines, Json}
use Rattle.odb_engine.specs.Cascade.{WritesIn, Prints, Reports}
use Rattle.odb_text.specs.Results.{json_line, counts_value, plan_value}
use Rattle.odb_text.specs.Drawings.{drawing_text}
use Rattle.odb_text.specs.Lines.{accepted_line}

-- how many requests and groups there are
abbrev pub counts_text : Form → List Record → List ℕ
counts_text Lines batch = accepted_line (length batch) (length (groups_of batch))
counts_text Json batch = json_line (counts_value (length batch) (length (groups_of batch)))

-- the counts
abbrev pub Counts : List Record → WritesIn
Counts batch form = Prints (counts_text form batch)

-- the text of the plan
abbrev pub planned_text : Form → List Record → List ℕ
planned_text Lines batch = plan_text batch
planned_text Json batch = json_line (plan_value batch)

-- the plan
abbrev pub Plans : List Record → WritesIn
Plans batch form = Prints (planned_text form batch)

-- the drawing of the plan
abbrev pub Drawings : List Record → WritesIn
Drawings batch form = Prints (drawing_text batch)

-- the first request whose body holds a number that is not whole is reported
pub record IsNotWhole (batch : List Record) (refusal : Printed) : Type 0 where
  pub at : ℕ
  pub first : IsFirstNotWhole batch at
  pub is : text_row (NotWhole at) ≡ Some refusal

-- the canonical text, if it exists
abbrev pub Canonical : List Record → WritesIn
Canonical batch form ended text = Reports (IsNotWhole batch) form ended text ⊎ (HasWholeBodies batch × Prints (canonical_text batch ++ newline ∷ []) ended text)
