-- When the responses of a service fit a batch (OData JSON Format 4.01, section 19.5; OData Protocol 4.01, section 11.7).
use Rattle.std.specs.Prelude.{◌≡◌, ◌<◌, ℕ, Bool, true, false, List, length, Option, Some, option_map, slice_get, slice_index, Contains, IsTrue}
use Rattle.std.specs.List.{AllZip}
use Rattle.serde_json.specs.Data.{Data}
use Rattle.odb_doc.specs.batch.Records.{Record}
use Rattle.odb_check.specs.declared.need.Need.{Need}
use Rattle.odb_check.specs.declared.need.Need.TheVariants.{One, Group}
use Rattle.odb_check.specs.Needs.{needs_at}
use Rattle.odb_check.specs.Positions.{id_at, group_at, IsId}
use Rattle.odb_check.specs.PlanGraph.{PlanGraph, ArePassing}
use Rattle.odb_check.specs.Units.{unit_at}
use Rattle.odb_doc.specs.Statuses.{is_success}
use Rattle.odb_reply.specs.declared.table.Table.{Table}
use Rattle.odb_reply.specs.ResponseDocuments.{Entry, ReadsAs, responses_in}

-- the id of the response at a place
abbrev pub id_in : List Entry → ℕ → Option (List ℕ)
id_in es k = option_map (λ e. e.id) (slice_get es k)

-- the response at place k has the id, and no other has it
pub record IsOnlyOne (es : List Entry) (id : List ℕ) (k : ℕ) : Type 0 where
  pub has : id_in es k ≡ Some id
  pub only : (j : ℕ) → id_in es j ≡ Some id → j ≡ k

-- this is a response, and it has the id of the request at i
pub record Responds (rs : List Record) (es : List Entry) (i : ℕ) (e : Entry) : Type 0 where
  pub place : ℕ
  pub given : slice_get es place ≡ Some e
  pub id : id_at rs i ≡ Some e.id

-- each response to the request has a status from 200 to 299
abbrev pub Succeeds : List Record → List Entry → ℕ → Type 0
Succeeds rs es r = (e : Entry) → Responds rs es r e → IsTrue (is_success e.status)

-- a dependency is satisfied: each response to the request, or to a member of the group, is a success
abbrev pub IsSatisfied : List Record → List Entry → Need → Type 0
IsSatisfied rs es (One r) = Succeeds rs es r
IsSatisfied rs es (Group u) = (r : ℕ) → unit_at rs r ≡ u → Succeeds rs es r

-- Each id of the batch is that of exactly one response, and no response has another id; a response has the group of its
-- request; and what a request with a success needs has succeeded.
pub record Fits (rs : List Record) (es : List Entry) : Type 0 where
  pub one : (i : ℕ) (id : List ℕ) → id_at rs i ≡ Some id → (k : ℕ) × IsOnlyOne es id k
  pub known : (k : ℕ) (id : List ℕ) → id_in es k ≡ Some id → IsId rs id
  pub groups : (i : ℕ) (e : Entry) → Responds rs es i e → e.group ≡ group_at rs i
  pub rests_on_successes : (i : ℕ) (e : Entry) (need : Need) → Responds rs es i e → IsTrue (is_success e.status) → Contains (needs_at rs i) need → IsSatisfied rs es need

-- the places of the responses in a table, by the positions of their requests
abbrev pub places : Table → List ℕ
places table = table.places.items

-- their statuses
abbrev pub statuses : Table → List ℕ
statuses table = table.statuses.items

-- of each unit, whether the statuses of all its members are successes
abbrev pub AreUnits : PlanGraph → List ℕ → List Bool → Type 0
AreUnits plan statuses units = ArePassing plan (λ i. is_success (slice_index statuses i)) (length plan.units) units

-- the response at place k is to the request at i, and has the status
pub record IsRow (rs : List Record) (es : List Entry) (i k status : ℕ) : Type 0 where
  pub entry : Entry
  pub given : slice_get es k ≡ Some entry
  pub id : id_at rs i ≡ Some entry.id
  pub status_is : entry.status ≡ status

-- the place of the response to each request, and its status
pub record IsTableOf (rs : List Record) (es : List Entry) (places statuses : List ℕ) : Type 0 where
  pub places_count : length places ≡ length rs
  pub statuses_count : length statuses ≡ length rs
  pub each : (i k status : ℕ) → slice_get places i ≡ Some k → slice_get statuses i ≡ Some status → IsRow rs es i k status

-- the responses that a response document lists fit the batch
pub record ListsFit (rs : List Record) (d : Data) : Type 0 where
  pub listed : List Entry
  pub says : AllZip ReadsAs (responses_in d) listed
  pub fits : Fits rs listed
