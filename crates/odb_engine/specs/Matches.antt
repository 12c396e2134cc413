-- What a match writes of a batch and of the response document of a service (OData JSON Format 4.01, section 19.5).
use Rattle.std.specs.Prelude.{◌≡◌, ◌⊎◌, ℕ, List, ◌++◌, Option, None, Some, length}
use Rattle.std.specs.List.{AllZip}
use Rattle.serde_json.specs.Data.{Data}
use Rattle.odb_doc.specs.declared.fault.Place.TheVariants as places
use Rattle.odb_doc.specs.batch.Records.{Record}
use Rattle.odb_check.specs.Plans.{batch_plan_graph}
use Rattle.odb_sched.specs.declared.policy.Mode.{Mode}
use Rattle.odb_sched.specs.declared.policy.Mode.TheVariants.{Continue, Stop}
use Rattle.odb_reply.specs.MatchFaults.{MatchFault, match_row}
use Rattle.odb_reply.specs.StatusFaults.{StatusFault, IsPossibleBy, RefusesStatuses, status_at, status_row}
use Rattle.odb_reply.specs.declared.strictness.Strictness.{Strictness}
use Rattle.odb_reply.specs.Completed.{completed}
use Rattle.odb_reply.specs.Fits.{Fits, IsTableOf}
use Rattle.odb_reply.specs.LeastMatchFault.{RefusesMatch}
use Rattle.odb_reply.specs.ResponseDocuments.{Entry, IsResponseDocument, RefusesResponses, ReadsAs, responses_in, responses_row}
use Rattle.odb_engine.specs.declared.ending.Ended.{Ended}
use Rattle.odb_engine.specs.declared.form.Form.{Form}
use Rattle.odb_engine.specs.declared.form.Form.TheVariants.{Lines, Json}
use Rattle.odb_doc.specs.Refusals.{Printed}
use Rattle.odb_engine.specs.Cascade.{WritesIn, Prints, Reports, HasFault, OfDocument}
use Rattle.odb_text.specs.Lines.{fit_line, status_lines}
use Rattle.odb_text.specs.Results.{json_line, match_value}

-- `ok N responses`, and the lines; or all of it as JSON
abbrev pub match_text : Form → List Record → List ℕ → List ℕ
match_text Lines batch statuses = fit_line (length batch) ++ status_lines batch statuses
match_text Json batch statuses = json_line (match_value batch statuses)

-- the least fault of the value of a response document
abbrev pub IsFaultOfResponses : Data → Printed → Type 0
IsFaultOfResponses = HasFault RefusesResponses responses_row

-- the value is a response document that lists these responses
abbrev pub Lists : Data → List Entry → Type 0
Lists value entries = IsResponseDocument value × AllZip ReadsAs (responses_in value) entries

-- the responses by which a match is decided: if the service stops at its first error, with those that it may leave out
abbrev pub decided : Mode → List Record → List Entry → List Entry
decided Continue batch entries = entries
decided Stop batch entries = completed batch entries

-- the responses do not fit the batch, and this is the least fault
pub record Misfits (batch : List Record) (entries : List Entry) (refusal : Printed) : Type 0 where
  pub fault : MatchFault
  pub least : RefusesMatch fault batch entries
  pub is : match_row fault ≡ Some refusal

-- the responses of the value fit the batch, and this is their table
pub record IsTableIn (mode : Mode) (batch : List Record) (value : Data) (places statuses : List ℕ) : Type 0 where
  pub entries : List Entry
  pub lists : Lists value entries
  pub fits : Fits batch (decided mode batch entries)
  pub table : IsTableOf batch (decided mode batch entries) places statuses

-- why there is no such table: the least fault of the value, or that its responses do not fit
pub data HasNoTable (mode : Mode) (batch : List Record) (value : Data) (refusal : Printed) : Type 0 where
  OfValue : IsFaultOfResponses value refusal → HasNoTable mode batch value refusal
  OfMatch : (entries : List Entry) → Lists value entries → Misfits batch (decided mode batch entries) refusal → HasNoTable mode batch value refusal

-- if it is asked, some finished run answers these statuses
abbrev pub IsAnswered : Option Strictness → List Record → List ℕ → Type 0
IsAnswered None batch statuses = Unit {0}
IsAnswered (Some by) batch statuses = IsPossibleBy by (batch_plan_graph batch) (status_at statuses)

-- it is asked, no finished run does, and this is the least fault
pub record AreImpossible (strict : Option Strictness) (batch : List Record) (statuses : List ℕ) (refusal : Printed) : Type 0 where
  pub by : Strictness
  pub asked : strict ≡ Some by
  pub fault : StatusFault
  pub least : RefusesStatuses fault by (batch_plan_graph batch) (status_at statuses)
  pub is : status_row fault ≡ Some refusal

-- what is written of the statuses of responses that fit
abbrev pub WritesStatuses : Option Strictness → List Record → List ℕ → WritesIn
WritesStatuses strict batch statuses form ended text = Reports (AreImpossible strict batch statuses) form ended text ⊎ (IsAnswered strict batch statuses × Prints (match_text form batch statuses) ended text)

-- the responses fit the batch, and this is written by the place and the status of the response to each request
pub record WritesFit (W : List ℕ → List ℕ → WritesIn) (batch : List Record) (entries : List Entry) (form : Form) (ended : Ended) (text : List ℕ) : Type 0 where
  pub fits : Fits batch entries
  pub places : List ℕ
  pub statuses : List ℕ
  pub table : IsTableOf batch entries places statuses
  pub writes : W places statuses form ended text

-- what is written of a batch and of responses: why they do not fit, or else this
abbrev pub OfEntries : (List ℕ → List ℕ → WritesIn) → List Record → List Entry → WritesIn
OfEntries W batch entries form ended text = Reports (Misfits batch entries) form ended text ⊎ WritesFit W batch entries form ended text

-- what is written of a batch and the value of a response document, by whether an error stops the service
abbrev pub OfResponses : (List ℕ → List ℕ → WritesIn) → Mode → List Record → Data → WritesIn
OfResponses W mode batch value form ended text = Reports (IsFaultOfResponses value) form ended text ⊎ ((entries : List Entry) × Lists value entries × OfEntries W batch (decided mode batch entries) form ended text)

-- what a match writes of these, by whether some finished run has to answer the statuses
abbrev pub MatchesValue : Mode → Option Strictness → List Record → Data → WritesIn
MatchesValue mode strict batch = OfResponses (λ places statuses. WritesStatuses strict batch statuses) mode batch

-- the same of the bytes of a response document
abbrev pub MatchesIn : Mode → Option Strictness → List Record → List ℕ → WritesIn
MatchesIn mode strict batch = OfDocument places.Responses (MatchesValue mode strict batch)

-- of a service that continues after an error, whatever a run answers
abbrev pub Matches : List Record → List ℕ → WritesIn
Matches = MatchesIn Continue None
