-- The forms of what is printed: lines of words, or one line of compact JSON.
use Rattle.std.specs.Prelude.{ℕ, List, [], map}
use Rattle.odb_doc.specs.Refusals.{Printed}
use Rattle.odb_text.specs.Lines.{PrintedAt, located_line, located_lines, unlocated}
use Rattle.odb_text.specs.Results.{fault_value, faults_value, json_line}
use Rattle.odb_engine.specs.declared.form.Form.{Form}
use Rattle.odb_engine.specs.declared.form.Form.TheVariants.{Lines, Json}

-- what is printed of a fault, with where it is in the document of this name if it has a position
abbrev pub located_text : Form → List ℕ → PrintedAt → List ℕ
located_text Lines name fault = located_line name fault
located_text Json name fault = json_line (fault_value fault)

-- the same of faults that are listed
abbrev pub all_located_text : Form → List ℕ → List PrintedAt → List ℕ
all_located_text Lines name faults = located_lines name faults
all_located_text Json name faults = json_line (faults_value faults)

-- what is printed of a fault alone
abbrev pub fault_text : Form → Printed → List ℕ
fault_text form refusal = located_text form [] (unlocated refusal)

-- the same of faults that are listed
abbrev pub faults_text : Form → List Printed → List ℕ
faults_text form refusals = all_located_text form [] (map unlocated refusals)
