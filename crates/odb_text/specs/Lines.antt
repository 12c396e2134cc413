-- The lines that are printed.
use Rattle.std.specs.Prelude.{ℕ, List, [], ◌∷◌, ◌++◌, Option, None, Some, codes, length, map, slice_index, unwrap_or}
use Rattle.std.specs.Fmt.{decimal}
use Rattle.odb_check.specs.Firsts.{joined_below}
use Rattle.odb_check.specs.Positions.{id_at}
use Rattle.odb_check.specs.Texts.{newline}
use Rattle.odb_doc.specs.Refusals.{Printed, printed}
use Rattle.odb_doc.specs.batch.Records.{Record}
use Rattle.odb_doc.specs.declared.fault.Place.{Place}
use Rattle.odb_doc.specs.declared.fault.Place.TheVariants.{Batch, Request, Outcomes, Outcome, Responses, Response, Events, Event}
use Rattle.odb_spans.specs.declared.position.Position.{Position}
use Rattle.odb_text.specs.declared.faults.Located.{Located}

abbrev pub place_text : Place → List ℕ
place_text Batch = codes "batch"
place_text (Request at) = codes "/requests/" ++ decimal at
place_text Outcomes = codes "outcomes"
place_text (Outcome at) = codes "/outcomes/" ++ decimal at
place_text Responses = codes "responses"
place_text (Response at) = codes "/responses/" ++ decimal at
place_text Events = codes "events"
place_text (Event at) = codes "/events/" ++ decimal at

-- `fault CODE NAME PLACE`
abbrev pub fault_line : List ℕ → List ℕ → Place → List ℕ
fault_line code name place = codes "fault " ++ code ++ codes " " ++ name ++ codes " " ++ place_text place ++ newline ∷ []

-- `NAME:LINE:COLUMN: `, in the document of this name; nothing without a position
abbrev pub position_text : List ℕ → Option Position → List ℕ
position_text name None = []
position_text name (Some position) = name ++ codes ":" ++ decimal position.line ++ codes ":" ++ decimal position.column ++ codes ": "

-- what is printed of a fault, and where it is in its document, if that is printed
pub record PrintedAt : Type 0 where
  pub refusal : Printed
  pub position : Option Position

-- what is printed of a fault, which may be located
abbrev pub printed_at : Located → PrintedAt
printed_at located = record { refusal = printed located.refusal; position = located.position }

-- a fault without where it is
abbrev pub unlocated : Printed → PrintedAt
unlocated refusal = record { refusal = refusal; position = None }

-- `NAME:LINE:COLUMN: fault CODE NAME PLACE`, in the document of this name
abbrev pub located_line : List ℕ → PrintedAt → List ℕ
located_line name fault = position_text name fault.position ++ fault_line fault.refusal.code fault.refusal.name fault.refusal.place

-- a line for each fault
abbrev pub located_lines : List ℕ → List PrintedAt → List ℕ
located_lines name [] = []
located_lines name (fault ∷ faults) = located_line name fault ++ located_lines name faults

-- the same of faults without where they are
abbrev pub fault_lines : List Printed → List ℕ
fault_lines refusals = located_lines [] (map unlocated refusals)

-- `ok N requests M groups`
abbrev pub accepted_line : ℕ → ℕ → List ℕ
accepted_line requests groups = codes "ok " ++ decimal requests ++ codes " requests " ++ decimal groups ++ codes " groups" ++ newline ∷ []

-- `ok N responses`
abbrev pub fit_line : ℕ → List ℕ
fit_line responses = codes "ok " ++ decimal responses ++ codes " responses" ++ newline ∷ []

-- the id of the request at a position
abbrev pub id_text : List Record → ℕ → List ℕ
id_text rs i = unwrap_or (id_at rs i) []

-- `ID STATUS`, of the request at a position and its response
abbrev pub status_line : List Record → List ℕ → ℕ → List ℕ
status_line rs statuses i = id_text rs i ++ codes " " ++ decimal (slice_index statuses i) ++ newline ∷ []

-- a line for each request, with the status of its response
abbrev pub status_lines : List Record → List ℕ → List ℕ
status_lines rs statuses = joined_below (length rs) (status_line rs statuses)
