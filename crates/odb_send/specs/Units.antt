-- Which units of a batch are done, which are left out, and which are in the rest (OData JSON Format 4.01, sections 19.1 and
-- 19.4). A unit is an atomicity group, or a request without one.
use Rattle.std.specs.Prelude.{◌≡◌, ◌↔◌, ◌<◌, ℕ, Bool, true, false, List, length, Contains, slice_index, slice_index_or}
use Rattle.odb_doc.specs.Statuses.{is_success}
use Rattle.odb_doc.specs.batch.Records.{Record}
use Rattle.odb_check.specs.declared.need.Need.{Need}
use Rattle.odb_check.specs.Needs.{needs_at}
use Rattle.odb_check.specs.PlanGraph.{unit_needed}
use Rattle.odb_check.specs.Units.{unit_at, unit_count}
use Rattle.odb_send.specs.Repeats.{may_repeat_at}

-- each request of the unit passes a test
abbrev pub IsWhole : List Record → (ℕ → Bool) → ℕ → Type 0
IsWhole rs test u = (i : ℕ) → i < length rs → unit_at rs i ≡ u → test i ≡ true

-- a unit is done if all its requests were answered with 200 to 299
abbrev pub IsDone : List Record → List ℕ → ℕ → Type 0
IsDone rs statuses = IsWhole rs (λ i. is_success (slice_index statuses i))

-- A unit is barred, unless it is exempt, if one of its requests fails a test, or needs something of a unit that is barred.
pub data IsBarred (rs : List Record) (exempt test : ℕ → Bool) : ℕ → Type 0 where
  own : (i : ℕ) → i < length rs → exempt (unit_at rs i) ≡ false → test i ≡ false → IsBarred rs exempt test (unit_at rs i)
  needing : (i : ℕ) (need : Need) → i < length rs → exempt (unit_at rs i) ≡ false → Contains (needs_at rs i) need → IsBarred rs exempt test (unit_needed (unit_at rs) need) → IsBarred rs exempt test (unit_at rs i)

-- a unit is left out if one of its requests may not be sent again, or needs something of a unit that is left out
abbrev pub IsLeftOut : List Record → List ℕ → ℕ → Type 0
IsLeftOut rs statuses = IsBarred rs (λ u. false) (may_repeat_at rs statuses)

-- a unit is in the rest if it is neither done nor left out
pub record IsInRest (rs : List Record) (statuses : List ℕ) (u : ℕ) : Type 0 where
  pub known : u < unit_count rs
  pub not_done : ¬ IsDone rs statuses u
  pub not_left_out : ¬ IsLeftOut rs statuses u

-- the mark of a unit
abbrev pub marked : List Bool → ℕ → Bool
marked units u = slice_index_or units u false

-- a mark for each unit, which says whether this is true of it
pub record AreMarksOf (rs : List Record) (P : ℕ → Type 0) (units : List Bool) : Type 0 where
  pub count : length units ≡ unit_count rs
  pub each : (u : ℕ) → u < unit_count rs → (marked units u ≡ true) ↔ P u
