-- Recorded outcomes: what the elements of `outcomes` are, and what they mean. An outcome is what a service
-- answered to a request (OData JSON Format 4.01, section 19.5); the document of many is this product's own.
use Rattle.std.specs.Prelude.{◌≡◌, ℕ, List, Option, Some, IsSome, IfSome, IsTrue, option_and_then, codes, string_bytes, String}
use Rattle.std.specs.declared.alloc.Global.{Global}
use Rattle.std.specs.List.{AllZip, filter_map}
use Rattle.serde_json.specs.Data.{Data, Num, unsigned, negative, float}
use Rattle.serde_json.specs.Find.{get, as_number}
use Rattle.odb_doc.specs.declared.member.Object.{Object}
use Rattle.odb_doc.specs.declared.member.Object.TheVariants as objects
use Rattle.odb_doc.specs.declared.recorded.outcome.Outcome.{Outcome}
use Rattle.odb_doc.specs.batch.Bodies.{body_of}
use Rattle.odb_doc.specs.Headers.{HasHeaders, IsHeaders}
use Rattle.odb_doc.specs.Members.{elements_at, text_at, HasOther, IsListObject}
use Rattle.odb_doc.specs.Statuses.{is_status}
use Rattle.odb_doc.specs.WholeNumbers.{IsWhole}

-- the elements of `outcomes`
abbrev pub elements : Data → List Data
elements d = elements_at (codes "outcomes") d

-- an object whose one member is `outcomes`, an array
abbrev pub IsOutcomesObject : Data → Type 0
IsOutcomesObject d = IsListObject objects.Outcomes (codes "outcomes") d

-- the string at `id`
abbrev pub id_of : Data → Option (List ℕ)
id_of d = text_at (codes "id") d

-- the number at `status`
abbrev pub status_of : Data → Option Num
status_of d = option_and_then as_number (get (codes "status") d)

-- an object with a string at this member and a number `status`, maybe `headers` and a `body`, and no member that its
-- kind does not have
pub record HasOutcome (kind : Object) (name : List ℕ) (d : Data) : Type 0 where
  pub known : ¬ HasOther kind d
  pub id : IsSome (text_at name d)
  pub status : IsSome (status_of d)
  pub headers : IsHeaders (get (codes "headers") d)

-- an object with a string `id` and a number `status`, maybe `headers` and a `body`, and no other member
abbrev pub IsOutcomeObject : Data → Type 0
IsOutcomeObject d = HasOutcome objects.Outcome (codes "id") d

-- a status that an outcome may have: a whole number from 200 to 599
abbrev pub IsStatus : Num → Type 0
IsStatus (unsigned n) = IsTrue (is_status n)
IsStatus (negative z) = ⊥
IsStatus (float x) = ⊥

-- the ids of the elements, as far as they have some
abbrev pub ids : List Data → List (List ℕ)
ids ds = filter_map id_of ds

-- an outcome with the id of the request that it is for
abbrev pub Recorded : Type 0
Recorded = List ℕ × Outcome

abbrev pub recorded : String Global × Outcome → Recorded
recorded entry = (string_bytes entry.0, entry.1)

-- the element reads as this id and this outcome
pub record ReadsAs (d : Data) (entry : Recorded) : Type 0 where
  pub id : id_of d ≡ Some entry.0
  pub status : status_of d ≡ Some (unsigned entry.1.status)
  pub headers : HasHeaders d entry.1.headers
  pub body : body_of d ≡ entry.1.body

-- the elements of the document read as these outcomes, one by one
abbrev pub AreOutcomesOf : Data → List Recorded → Type 0
AreOutcomesOf d entries = AllZip ReadsAs (elements d) entries

-- what holds of each outcome that was read: its status is from 200 to 599, and its body holds whole numbers alone
pub record IsWellFormedOutcome (entry : Recorded) : Type 0 where
  pub status : IsTrue (is_status entry.1.status)
  pub whole : IfSome entry.1.body IsWhole
