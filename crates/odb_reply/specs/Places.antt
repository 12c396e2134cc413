-- For invariants and private clauses: the places at which the responses to requests were found, their statuses, and which
-- requests have a response.
use Rattle.std.specs.Prelude.{◌≡◌, ◌<◌, ℕ, List, length, take, Option, Some, None, Bool, false, slice_get, slice_set, slice_index, slice_index_or}
use Rattle.odb_doc.specs.LeastRules.{NoneBroken, BreaksIn, IsFirst, IsLeast}
use Rattle.odb_doc.specs.batch.Records.{Record}
use Rattle.odb_check.specs.declared.need.Need.{Need}
use Rattle.odb_check.specs.declared.need.Need.TheVariants.{One, Group}
use Rattle.odb_check.specs.Positions.{id_at, IsId}
use Rattle.odb_doc.specs.Statuses.{is_success}
use Rattle.odb_reply.specs.declared.match_fault.MatchRule.{MatchRule}
use Rattle.odb_reply.specs.declared.match_fault.MatchRule.TheVariants.{UnknownResponse, ResponseTwice}
use Rattle.odb_reply.specs.MatchFaults.{MatchFault, Breaks, number}
use Rattle.odb_doc.specs.declared.rule_fault.RuleFault.TheVariants as faults
use Rattle.odb_reply.specs.ResponseDocuments.{Entry}
use Rattle.odb_reply.specs.Completed.{is_answered}
use Rattle.odb_reply.specs.Fits.{id_in, Responds, IsTableOf}
use Rattle.odb_reply.specs.LeastMatchFault.{phase}

-- the place of the response to each request, by position; none if no response was found
abbrev pub Places : Type 0
Places = List (Option ℕ)

-- no two positions have the same id
abbrev pub IsOnce : List Record → Type 0
IsOnce rs = (i j : ℕ) (id : List ℕ) → id_at rs i ≡ Some id → id_at rs j ≡ Some id → i ≡ j

-- the response with this id was noted at a free position, which has the id
pub record IsNoted (rs : List Record) (id : List ℕ) (at_place : ℕ) (old new : Places) : Type 0 where
  pub position : ℕ
  pub is : id_at rs position ≡ Some id
  pub free : slice_get old position ≡ Some None
  pub noted : new ≡ slice_set old position (Some at_place)

-- a response was noted at the position with this id
pub record IsTaken (rs : List Record) (id : List ℕ) (found : Places) : Type 0 where
  pub position : ℕ
  pub is : id_at rs position ≡ Some id
  pub other : ℕ
  pub taken : slice_get found position ≡ Some (Some other)

-- why a response with this id cannot be noted
abbrev pub IsMisplaced : List Record → List ℕ → Places → MatchRule → Type 0
IsMisplaced rs id found UnknownResponse = ¬ IsId rs id
IsMisplaced rs id found ResponseTwice = IsTaken rs id found
IsMisplaced rs id found rule = ⊥

-- the response at place k is noted at position i, which has its id
pub record IsNotedAt (rs : List Record) (es : List Entry) (i k : ℕ) : Type 0 where
  pub id : List ℕ
  pub has : id_in es k ≡ Some id
  pub is : id_at rs i ≡ Some id

-- the first n responses are noted, each at the position with its id, and nothing else is
pub record AreNoted (rs : List Record) (es : List Entry) (n : ℕ) (found : Places) : Type 0 where
  pub count : length found ≡ length rs
  pub noted : (i k : ℕ) → slice_get found i ≡ Some (Some k) → (k < n) × IsNotedAt rs es i k
  pub each : (k : ℕ) (id : List ℕ) → k < n → id_in es k ≡ Some id → (i : ℕ) × (id_at rs i ≡ Some id) × (slice_get found i ≡ Some (Some k))

-- the mark of each request: whether one of the first n responses has its id
pub record AreMarks (rs : List Record) (es : List Entry) (n : ℕ) (marks : List Bool) : Type 0 where
  pub count : length marks ≡ length rs
  pub each : (i : ℕ) (r : Record) → slice_get rs i ≡ Some r → slice_get marks i ≡ Some (is_answered (take n es) r.id)

-- this place was found at position i, and the response there has this status
pub record IsListed (es : List Entry) (found : Places) (i k status : ℕ) : Type 0 where
  pub found_at : slice_get found i ≡ Some (Some k)
  pub response : Entry
  pub given : slice_get es k ≡ Some response
  pub status_is : response.status ≡ status

-- a place was found at each of the first n positions, and these are the places and the statuses there
pub record AreListed (es : List Entry) (found : Places) (n : ℕ) (places statuses : List ℕ) : Type 0 where
  pub places_count : length places ≡ n
  pub statuses_count : length statuses ≡ n
  pub each : (i k status : ℕ) → slice_get places i ≡ Some k → slice_get statuses i ≡ Some status → IsListed es found i k status

-- the table is that of the responses, and each request has one response at most
pub record HasRows (rs : List Record) (es : List Entry) (places statuses : List ℕ) : Type 0 where
  pub table : IsTableOf rs es places statuses
  pub only : (i k : ℕ) (e : Entry) → Responds rs es i e → slice_get places i ≡ Some k → slice_get es k ≡ Some e

-- whether a dependency is satisfied, by the statuses of the requests and by the results of the units
abbrev pub is_satisfied : List ℕ → List Bool → Need → Bool
is_satisfied statuses units (One r) = is_success (slice_index statuses r)
is_satisfied statuses units (Group u) = slice_index_or units u false

-- no rule of this phase is broken at the position
abbrev pub NoneIn : ℕ → List Record → List Entry → ℕ → Type 0
NoneIn ph rs es at = (rule : MatchRule) → ¬ BreaksIn phase (Breaks rs es) ph rule at

-- no rule of the first two phases is broken
abbrev pub HasAllPlaces : List Record → List Entry → Type 0
HasAllPlaces rs es = (ph : ℕ) → ph < 3 → NoneBroken (BreaksIn phase (Breaks rs es) ph)

-- the rule is the first of its phase that is broken at the position
abbrev pub IsFirstIn : ℕ → List Record → List Entry → ℕ → MatchRule → Type 0
IsFirstIn ph rs es at rule = IsLeast number (λ other. BreaksIn phase (Breaks rs es) ph other at) rule

-- the fault is the first of the last phase. Out of memory says nothing.
abbrev pub IsFirstOfLast : List Record → List Entry → MatchFault → Type 0
IsFirstOfLast rs es (faults.Broken at_place rule) = IsFirst number (BreaksIn phase (Breaks rs es) 3) at_place rule
IsFirstOfLast rs es faults.OutOfMemory = Unit {0}
