-- The rest of a batch: the requests of the units that are in it, as a batch of their own (OData JSON Format 4.01, sections
-- 19.1 to 19.3).
use Rattle.std.specs.Prelude.{◌≡◌, ◌≢◌, ◌+◌, ◌++◌, ◌<◌, ◌==◌, ℕ, Bool, true, false, List, [], ◌∷◌, length, map, Option, Some, None, option_map, option_and_then, unwrap_or, slice_get, slice_index_or, if◌then◌else◌, codes, bytes_eq, string_bytes, nat_lt}
use Rattle.std.specs.Map.{lookup}
use Rattle.odb_check.specs.PlanGraph.{unit_needed}
use Rattle.odb_send.specs.declared.changes.Change as declared
use Rattle.odb_send.specs.declared.rest.Rest.{Rest}
use Rattle.std.specs.List.{filter}
use Rattle.odb_names.specs.Fronts.{HasFront, plain}
use Rattle.odb_names.specs.Segments.{IsAfterFirstSegment, IsNestedBatch}
use Rattle.odb_doc.specs.Headers.{Header}
use Rattle.odb_doc.specs.batch.Records.{Record}
use Rattle.odb_check.specs.declared.need.Need.{Need}
use Rattle.odb_check.specs.Needs.{need_of}
use Rattle.odb_check.specs.Units.{position_of, referred_at, unit_at}
use Rattle.odb_send.specs.Answers.{Answer}
use Rattle.odb_send.specs.Units.{AreMarksOf, IsInRest, marked}

-- whether the request at a position is in the rest, by the marks of the units
abbrev pub is_kept : List Record → List Bool → ℕ → Bool
is_kept rs kept i = marked kept (unit_at rs i)

-- whether what a name resolves to is in the rest
abbrev pub is_kept_need : List Record → List Bool → Option Need → Bool
is_kept_need rs kept None = false
is_kept_need rs kept (Some need) = marked kept (unit_needed (unit_at rs) need)

abbrev pub is_kept_name : List Record → List Bool → List ℕ → Bool
is_kept_name rs kept name = is_kept_need rs kept (need_of rs name)

-- the request at i is in the rest, and refers to one at p that is not, by this function from positions
pub record RefersOut (rs : List Record) (kept : List Bool) (target : ℕ → Option ℕ) (i p : ℕ) : Type 0 where
  pub stays : is_kept rs kept i ≡ true
  pub refers : target i ≡ Some p
  pub leaves : is_kept rs kept p ≡ false

-- its URL refers to one that is not
abbrev pub Leaves : List Record → List Bool → ℕ → ℕ → Type 0
Leaves rs kept = RefersOut rs kept (referred_at rs)

-- a URL that refers to no request, reserves no name, and names no batch
abbrev pub IsPlain : List ℕ → Type 0
IsPlain url = HasFront url plain × ¬ IsNestedBatch url

-- the Location, and what follows the first segment of the URL
pub record IsJoined (location url made : List ℕ) : Type 0 where
  pub rest : List ℕ
  pub after : IsAfterFirstSegment url rest
  pub is : made ≡ location ++ rest

-- The request at i gets this URL in the rest, by the answers to the requests: the Location of the request that it refers to, and
-- what follows the first segment of its own URL. An empty Location is as none (RFC 9110, section 10.2.2).
pub record Moves (rs : List Record) (kept : List Bool) (answers : ℕ → Answer) (i : ℕ) (url : List ℕ) : Type 0 where
  pub position : ℕ
  pub leaves : Leaves rs kept i position
  pub request : Record
  pub is : slice_get rs i ≡ Some request
  pub location : List ℕ
  pub recorded : (answers position).location ≡ Some location
  pub filled : location ≢ []
  pub joined : IsJoined location request.url url
  pub plain : IsPlain url

-- The URL that a request gets in the rest: none if it stays as it is, since it refers to nothing that is not in the rest.
pub data IsUrl (rs : List Record) (kept : List Bool) (answers : ℕ → Answer) (i : ℕ) : Option (List ℕ) → Type 0 where
  same : ((p : ℕ) → ¬ Leaves rs kept i p) → IsUrl rs kept answers i None
  moved : (url : List ℕ) → Moves rs kept answers i url → IsUrl rs kept answers i (Some url)

-- ---- conditions

-- the id in the value of a condition, which follows `$`
abbrev pub tag_id : List ℕ → Option (List ℕ)
tag_id [] = None
tag_id (first ∷ id) = if first == 36 then Some id else None

-- the value of the header with the name, of the request at i
abbrev pub header_at : List Record → List ℕ → ℕ → Option (List ℕ)
header_at rs name i = option_and_then (λ r. lookup (bytes_eq name) r.headers) (slice_get rs i)

-- the position, if it comes before i
abbrev pub before : ℕ → ℕ → Option ℕ
before i p = if nat_lt p i then Some p else None

-- the position of the earlier request of the batch whose ETag this header refers to, if it refers to one
abbrev pub tagged_at : List Record → List ℕ → ℕ → Option ℕ
tagged_at rs name i = option_and_then (before i) (option_and_then (position_of rs) (option_and_then tag_id (header_at rs name i)))

-- the request at i is in the rest, and this header refers to the ETag of one at p that is not
abbrev pub LeavesTag : List Record → List Bool → List ℕ → ℕ → ℕ → Type 0
LeavesTag rs kept name = RefersOut rs kept (tagged_at rs name)

-- The value that this header gets in the rest: that ETag, or none if it stays as it is.
pub data IsTag (rs : List Record) (kept : List Bool) (answers : ℕ → Answer) (name : List ℕ) (i : ℕ) : Option (List ℕ) → Type 0 where
  stays : ((p : ℕ) → ¬ LeavesTag rs kept name i p) → IsTag rs kept answers name i None
  replaced : (p : ℕ) (tag : List ℕ) → LeavesTag rs kept name i p → (answers p).etag ≡ Some tag → IsTag rs kept answers name i (Some tag)

-- ---- requests

-- What changes of a request in the rest: its URL, and the values of its `If-Match` and its `If-None-Match`.
pub record Change : Type 0 where
  pub url : Option (List ℕ)
  pub if_match : Option (List ℕ)
  pub if_none_match : Option (List ℕ)

abbrev pub unchanged : Change
unchanged = record { url = None; if_match = None; if_none_match = None }

pub record IsChange (rs : List Record) (kept : List Bool) (answers : ℕ → Answer) (i : ℕ) (change : Change) : Type 0 where
  pub url : IsUrl rs kept answers i change.url
  pub if_match : IsTag rs kept answers (codes "if-match") i change.if_match
  pub if_none_match : IsTag rs kept answers (codes "if-none-match") i change.if_none_match

-- with this URL, if there is one: it refers to no request
abbrev pub with_url : Option (List ℕ) → Record → Record
with_url None r = r
with_url (Some url) r = record r { url = url; reference = None }

-- a header with this value, if there is one
abbrev pub header_if : List ℕ → Option (List ℕ) → List Header
header_if name None = []
header_if name (Some value) = (name, value) ∷ []

-- the headers that change, with their new values
abbrev pub new_headers : Change → List Header
new_headers change = header_if (codes "if-match") change.if_match ++ header_if (codes "if-none-match") change.if_none_match

-- a header with its new value, if its name has one
abbrev pub rest_header : Change → Header → Header
rest_header change header = (header.0, unwrap_or (lookup (bytes_eq header.0) (new_headers change)) header.1)

-- a request as the rest has it: with what changes, and those names of its `dependsOn` that are in the rest
abbrev pub rest_record : List Record → List Bool → Change → Record → Record
rest_record rs kept change r = with_url change.url (record r { names = filter (is_kept_name rs kept) r.names; headers = map (rest_header change) r.headers })

-- what is made of the elements at the positions that pass, where the first has position i
abbrev pub select : {X Y : Type 0} → (ℕ → Bool) → (ℕ → X → Y) → ℕ → List X → List Y
select passes make i [] = []
select passes make i (x ∷ xs) = if passes i then make i x ∷ select passes make (i + 1) xs else select passes make (i + 1) xs

-- the change at a position; none past the end
abbrev pub change_at : List Change → ℕ → Change
change_at changes i = slice_index_or changes i unchanged

-- the requests of the rest, in the order of the batch
abbrev pub rest_records : List Record → List Bool → List Change → List Record
rest_records rs kept changes = select (is_kept rs kept) (λ i r. rest_record rs kept (change_at changes i) r) 0 rs

-- what changes of each request, in memory
abbrev pub change_of : declared.Change → Change
change_of change = record {
  url = option_map string_bytes change.url;
  if_match = option_map string_bytes change.if_match;
  if_none_match = option_map string_bytes change.if_none_match;
}

-- each request changes as it does in the rest
pub record HasChanges (rs : List Record) (kept : List Bool) (answers : ℕ → Answer) (changes : List Change) : Type 0 where
  pub count : length changes ≡ length rs
  pub each : (i : ℕ) → i < length rs → IsChange rs kept answers i (change_at changes i)

-- the marks of the units in a rest, and what changes of its requests
abbrev pub kept : Rest → List Bool
kept rest = rest.kept.items

abbrev pub changes : Rest → List Change
changes rest = map change_of rest.changes.items

-- the requests of a rest of a batch
abbrev pub records_in : List Record → Rest → List Record
records_in rs rest = rest_records rs (kept rest) (changes rest)

-- the rest has the units that may be sent again by these statuses, and its requests change by these answers
pub record IsRestOf (rs : List Record) (statuses : List ℕ) (answers : ℕ → Answer) (rest : Rest) : Type 0 where
  pub units : AreMarksOf rs (IsInRest rs statuses) (kept rest)
  pub changes_are : HasChanges rs (kept rest) answers (changes rest)
