-- The response document of a service (OData JSON Format 4.01, section 19.5): which of its elements are responses, and what
-- they have; its least fault, and what is printed of that.
use Rattle.std.specs.Prelude.{◌≡◌, ◌≤◌, ◌<◌, ℕ, List, map, slice_get, Option, Some, None, IsSome, IfSome, IsSomeAnd, option_map, codes, All}
use Rattle.serde_json.specs.Data.{Data, Num, unsigned, negative, float, string, Items}
use Rattle.serde_json.specs.Find.{get, as_str}
use Rattle.odb_doc.specs.Refusals.{Printed, fault_at}
use Rattle.odb_doc.specs.declared.fault.Place.TheVariants as places
use Rattle.odb_doc.specs.Members.{array_at, elements_at, given}
use Rattle.odb_doc.specs.recorded.Outcomes.{id_of, status_of}
use Rattle.odb_reply.specs.declared.responses.Response.{Response}
use Rattle.odb_reply.specs.declared.responses.Responses.{Responses}
use Rattle.odb_reply.specs.declared.response_fault.ResponseFault.{ResponseFault}
use Rattle.odb_reply.specs.declared.response_fault.ResponseFault.TheVariants as faults

-- the array at `responses`
abbrev pub array_in : Data → Option Items
array_in d = array_at (codes "responses") d

-- the elements of `responses`
abbrev pub responses_in : Data → List Data
responses_in d = elements_at (codes "responses") d

-- the value at `atomicityGroup`; null is treated as absent
abbrev pub group_in : Data → Option Data
group_in d = given (get (codes "atomicityGroup") d)

-- a status that a response may have: a whole number from 100 to 599
abbrev pub IsStatus : Num → Type 0
IsStatus (unsigned n) = (100 ≤ n) × (n ≤ 599)
IsStatus (negative z) = ⊥
IsStatus (float x) = ⊥

-- an object with a string `id`, a `status`, and maybe a string `atomicityGroup`. Other members are not looked at.
pub record IsResponse (d : Data) : Type 0 where
  pub id : IsSome (id_of d)
  pub status : IsSomeAnd (status_of d) IsStatus
  pub group : IfSome (group_in d) (λ group. IsSome (as_str group))

-- a response by its texts, wherever they are in memory
pub record Entry : Type 0 where
  pub id : List ℕ
  pub group : Option (List ℕ)
  pub status : ℕ

abbrev pub entry_of : Response → Entry
entry_of response = record {
  id = response.id.now;
  group = option_map (λ group. group.now) response.group;
  status = response.status;
}

-- the responses, in the order of their document
abbrev pub entries : Responses → List Entry
entries responses = map entry_of responses.list.items

-- the element has the id, the status and the group of this response
pub record ReadsAs (d : Data) (entry : Entry) : Type 0 where
  pub id : id_of d ≡ Some entry.id
  pub status : status_of d ≡ Some (unsigned entry.status)
  pub group : group_in d ≡ option_map string entry.group

-- an object with an array `responses` of responses
pub record IsResponseDocument (d : Data) : Type 0 where
  pub array : IsSome (array_in d)
  pub each : All IsResponse (responses_in d)

-- the element at the position is not a response, and each before it is one
pub record IsFirstBad (ds : List Data) (at : ℕ) : Type 0 where
  pub bad : IsSomeAnd (slice_get ds at) (λ d. ¬ IsResponse d)
  pub before : (i : ℕ) → i < at → IsSomeAnd (slice_get ds i) IsResponse

-- the fault is the first of the document: that of the whole, or else of an element. Out of memory says nothing.
abbrev pub RefusesResponses : ResponseFault → Data → Type 0
RefusesResponses faults.Document d = ¬ IsSome (array_in d)
RefusesResponses (faults.Response at) d = IsSome (array_in d) × IsFirstBad (responses_in d) at
RefusesResponses faults.OutOfMemory d = Unit {0}

-- what is printed of a fault
abbrev pub responses_row : ResponseFault → Option Printed
responses_row faults.Document = Some (fault_at 70 (codes "BadResponses") places.Responses)
responses_row (faults.Response at) = Some (fault_at 70 (codes "BadResponses") (places.Response at))
responses_row faults.OutOfMemory = None
