-- Why something could not be read from an element, and which rule a request breaks: for private clauses, nothing to believe.
use Rattle.std.specs.Prelude.{◌≡◌, ℕ}
use Rattle.serde_json.specs.Data.{Data}
use Rattle.odb_doc.specs.declared.broken.Broken.{Broken}
use Rattle.odb_doc.specs.declared.broken.Broken.TheVariants.{Rule, OutOfMemory}
use Rattle.odb_doc.specs.declared.fault.RequestRule.{RequestRule}
use Rattle.odb_doc.specs.declared.fault.DocFault.{DocFault}
use Rattle.odb_doc.specs.declared.fault.DocFault.TheVariants as faults
use Rattle.odb_doc.specs.Faults.{request_number}
use Rattle.odb_doc.specs.LeastRules.{IsLeast}
use Rattle.odb_doc.specs.batch.Shapes.{BreaksRequest}

-- the rule has the property. Out of memory may come with any.
abbrev pub OnRule : {R : Type 0} → (R → Type 0) → Broken R → Type 0
OnRule fits (Rule rule) = fits rule
OnRule fits OutOfMemory = Unit {0}

-- the rule is this one, and the reason holds. Out of memory may come with any.
abbrev pub OnlyIf : {R : Type 0} → R → Type 0 → Broken R → Type 0
OnlyIf bad reason (Rule rule) = (rule ≡ bad) × reason
OnlyIf bad reason OutOfMemory = Unit {0}

-- the broken rule, with the position of its element
abbrev pub broken_at : {R : Type 0} → ℕ → Broken R → Broken (ℕ × R)
broken_at at (Rule rule) = Rule (at, rule)
broken_at at OutOfMemory = OutOfMemory

-- the position and the rule have the property. Out of memory may come with any.
abbrev pub OnPlace : {R : Type 0} → (ℕ → R → Type 0) → Broken (ℕ × R) → Type 0
OnPlace fits broken = OnRule (λ place. fits place.0 place.1) broken

-- no rule of the request is broken
abbrev pub IsRequestObject : Data → Type 0
IsRequestObject d = (rule : RequestRule) → ¬ BreaksRequest rule d

-- the rule is broken by the request, and none with a smaller number is
abbrev pub IsLeastRequestRule : Data → RequestRule → Type 0
IsLeastRequestRule d rule = IsLeast request_number (λ other. BreaksRequest other d) rule

-- the fault is of a request, whose position and rule have the property. Out of memory may come with any.
abbrev pub OnRequest : (ℕ → RequestRule → Type 0) → DocFault → Type 0
OnRequest fits (faults.Request at rule) = fits at rule
OnRequest fits (faults.Document rule) = ⊥
OnRequest fits faults.OutOfMemory = Unit {0}
