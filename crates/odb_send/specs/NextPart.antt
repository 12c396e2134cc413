-- The next part of a batch: requests that may be sent together as a batch of their own, in the order of the batch (OData JSON
-- Format 4.01, sections 19.1 and 19.4). `done` marks the units whose requests have all succeeded, `left` those that are not
-- sent yet and may be sent.
use Rattle.std.specs.Prelude.{◌≡◌, ◌⊎◌, ◌+◌, ◌<◌, ◌≤◌, ◌==◌, ℕ, Bool, true, false, List, [], ◌∷◌, length, Contains, slice_index_or, if◌then◌else◌}
use Rattle.odb_doc.specs.Statuses.{is_success}
use Rattle.odb_doc.specs.batch.Records.{Record}
use Rattle.odb_doc.specs.declared.rule_fault.RuleFault.TheVariants as faults
use Rattle.odb_check.specs.PlanGraph.{unit_needed}
use Rattle.odb_check.specs.declared.need.Need.{Need}
use Rattle.odb_check.specs.Firsts.{count_below, joined_below}
use Rattle.odb_check.specs.Needs.{needs_at}
use Rattle.odb_check.specs.Units.{unit_at, unit_count, unit_size}
use Rattle.odb_sched.specs.declared.states.RequestState.{RequestState}
use Rattle.odb_sched.specs.declared.states.RequestState.TheVariants.{Waiting, Ready, Running, Reported, Skipped}
use Rattle.odb_send.specs.declared.rest.Rest.{Rest}
use Rattle.odb_send.specs.declared.fault.RestRule.{RestRule}
use Rattle.odb_send.specs.Answers.{Answer}
use Rattle.odb_send.specs.Faults.{Breaks, Lacks, RestFault}
use Rattle.odb_send.specs.Rests.{HasChanges, changes, is_kept, kept}
use Rattle.odb_send.specs.Units.{AreMarksOf, IsBarred, IsWhole, marked}

-- A unit has to wait, unless it is done, if it is not left, or needs something of a unit that has to wait.
abbrev pub HasToWait : List Record → (done left : List Bool) → ℕ → Type 0
HasToWait rs done left = IsBarred rs (marked done) (λ i. marked left (unit_at rs i))

-- a unit may go if it is not done, and need not wait; so it is left
pub record MayGo (rs : List Record) (done left : List Bool) (u : ℕ) : Type 0 where
  pub known : u < unit_count rs
  pub not_done : marked done u ≡ false
  pub free : ¬ HasToWait rs done left u

-- how many requests these units have
abbrev pub request_count : List Record → List Bool → ℕ
request_count rs units = count_below (length rs) (is_kept rs units)

-- These are the units that fit: those that may be sent, from the first up to one that does not fit any more, at most so many
-- requests.
pub record AreFitting (rs : List Record) (done left : List Bool) (limit : ℕ) (fitting : List Bool) : Type 0 where
  pub end : ℕ
  pub units : AreMarksOf rs (λ u. (u < end) × MayGo rs done left u) fitting
  pub within : request_count rs fitting ≤ limit
  pub next : (end ≡ unit_count rs) ⊎ (MayGo rs done left end × (limit < request_count rs fitting + unit_size rs end))

-- a request is in the part
abbrev pub HasSome : List Record → List Bool → Type 0
HasSome rs part = (i : ℕ) × (i < length rs) × (is_kept rs part i ≡ true)

-- a request of the unit, which is one of those that fit, lacks a Location or an ETag
abbrev pub HasLack : List Record → List Bool → (ℕ → Answer) → ℕ → Type 0
HasLack rs fitting answers u = (i : ℕ) × (i < length rs) × (unit_at rs i ≡ u) × Lacks rs fitting answers i

-- The part has the units that fit, from the first up to one that lacks a Location or an ETag; the first of all lacks none.
pub record IsCut (rs : List Record) (fitting : List Bool) (answers : ℕ → Answer) (part : List Bool) : Type 0 where
  pub end : ℕ
  pub units : AreMarksOf rs (λ u. (u < end) × (marked fitting u ≡ true)) part
  pub placed : (u : ℕ) → u < end → ¬ HasLack rs fitting answers u
  pub next : (end ≡ unit_count rs) ⊎ (HasSome rs part × HasLack rs fitting answers end)

-- The next part has the units that may be sent, from the first up to one that does not fit any more, or lacks a Location or an ETag.
pub record IsNextPart (rs : List Record) (done left : List Bool) (limit : ℕ) (answers : ℕ → Answer) (part : List Bool) : Type 0 where
  pub fitting : List Bool
  pub fits : AreFitting rs done left limit fitting
  pub cut : IsCut rs fitting answers part

-- the part, with the URLs that its requests get by these Locations
pub record IsPartOf (rs : List Record) (done left : List Bool) (limit : ℕ) (answers : ℕ → Answer) (part : Rest) : Type 0 where
  pub units : IsNextPart rs done left limit answers (kept part)
  pub changes_are : HasChanges rs (kept part) answers (changes part)

-- the request is the first of all that fit that breaks a rule, and no unit that fits comes before its own
pub record BreaksFirst (rule : RestRule) (rs : List Record) (fitting : List Bool) (answers : ℕ → Answer) (at : ℕ) : Type 0 where
  pub breaks : Breaks rule rs fitting answers at
  pub least : (i : ℕ) → i < at → ¬ Lacks rs fitting answers i
  pub begins : (u : ℕ) → u < unit_at rs at → marked fitting u ≡ false

-- The fault, by which there is no part, is at the first request that lacks a Location or an ETag, of the first unit that fits. Out
-- of memory says nothing.
abbrev pub RefusesPart : RestFault → List Record → List Bool → (ℕ → Answer) → Type 0
RefusesPart (faults.Broken at rule) rs fitting answers = BreaksFirst rule rs fitting answers at
RefusesPart faults.OutOfMemory rs fitting answers = Unit {0}

-- ---- by what has become of each request of a run

abbrev pub has_succeeded : RequestState → Bool
has_succeeded Waiting = false
has_succeeded Ready = false
has_succeeded Running = false
has_succeeded (Reported status) = is_success status
has_succeeded Skipped = false

-- it has not started, and may still start
abbrev pub may_start : RequestState → Bool
may_start Waiting = true
may_start Ready = true
may_start Running = false
may_start (Reported status) = false
may_start Skipped = false

abbrev pub state_at : List RequestState → ℕ → RequestState
state_at states i = slice_index_or states i Skipped

-- A unit is done if all its requests have succeeded, and left if each of them may still start.
pub record HasProgress (rs : List Record) (states : List RequestState) (done left : List Bool) : Type 0 where
  pub succeeded : AreMarksOf rs (IsWhole rs (λ i. has_succeeded (state_at states i))) done
  pub starting : AreMarksOf rs (IsWhole rs (λ i. may_start (state_at states i))) left

-- the next part of a run in which this has become of each request
pub record IsPartAfter (rs : List Record) (states : List RequestState) (limit : ℕ) (answers : ℕ → Answer) (part : Rest) : Type 0 where
  pub done : List Bool
  pub left : List Bool
  pub progress : HasProgress rs states done left
  pub part_is : IsPartOf rs done left limit answers part

-- ---- what holds of every part

-- each request of the part may still start
abbrev pub IsFresh : List Record → List RequestState → List Bool → Type 0
IsFresh rs states part = (i : ℕ) → i < length rs → is_kept rs part i ≡ true → may_start (state_at states i) ≡ true

-- what a request of the part needs is in the part, or of a unit whose requests have all succeeded
abbrev pub NeedsMet : List Record → List RequestState → List Bool → Type 0
NeedsMet rs states part = (i : ℕ) (need : Need) → i < length rs → is_kept rs part i ≡ true → Contains (needs_at rs i) need
    → (marked part (unit_needed (unit_at rs) need) ≡ true) ⊎ IsWhole rs (λ j. has_succeeded (state_at states j)) (unit_needed (unit_at rs) need)

-- no unit has more requests than the limit
abbrev pub HasNoLonger : List Record → ℕ → Type 0
HasNoLonger rs limit = (u : ℕ) → u < unit_count rs → unit_size rs u ≤ limit

-- the positions of the requests of the part, in order
abbrev pub position_in : List Record → List Bool → ℕ → List ℕ
position_in rs part i = if is_kept rs part i then i ∷ [] else []

abbrev pub positions_in : List Record → List Bool → List ℕ
positions_in rs part = joined_below (length rs) (position_in rs part)
