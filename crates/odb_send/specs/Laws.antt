-- What is true of the rest of every batch (OData JSON Format 4.01, sections 19.1 and 19.4).
use Rattle.std.specs.Prelude.{◌≡◌, ◌↔◌, ◌⊎◌, ◌<◌, ◌++◌, ℕ, Bool, true, not, List, length, Contains, slice_index}
use Rattle.std.specs.List.{AllZip, filter}
use Rattle.odb_doc.specs.Statuses.{is_success}
use Rattle.odb_doc.specs.batch.Records.{Record}
use Rattle.odb_check.specs.PlanGraph.{unit_needed}
use Rattle.odb_check.specs.declared.need.Need.{Need}
use Rattle.odb_check.specs.declared.need.Need.TheVariants.{One, Group}
use Rattle.odb_check.specs.Needs.{needs_at}
use Rattle.odb_check.specs.Units.{unit_at, unit_count}
use Rattle.odb_reply.specs.Completed.{is_answered}
use Rattle.odb_reply.specs.ResponseDocuments.{Entry}
use Rattle.odb_send.specs.Repeats.{may_repeat_at}
use Rattle.odb_send.specs.Rests.{is_kept}
use Rattle.odb_send.specs.Units.{IsDone, IsInRest, marked}

-- what a unit needs is done or in the rest
abbrev pub IsMet : List Record → List ℕ → Need → Type 0
IsMet rs statuses need = IsDone rs statuses (unit_needed (unit_at rs) need) ⊎ IsInRest rs statuses (unit_needed (unit_at rs) need)

-- A unit that is not done may be sent: each of its requests may be sent again, and needs only what is done or in the rest.
pub record MayBeSent (rs : List Record) (statuses : List ℕ) (u : ℕ) : Type 0 where
  pub known : u < unit_count rs
  pub not_done : ¬ IsDone rs statuses u
  pub repeats : (i : ℕ) → i < length rs → unit_at rs i ≡ u → may_repeat_at rs statuses i ≡ true
  pub met : (i : ℕ) (need : Need) → i < length rs → unit_at rs i ≡ u → Contains (needs_at rs i) need → IsMet rs statuses need

-- all requests were answered with a success
abbrev pub HasSucceeded : List Record → List ℕ → Type 0
HasSucceeded rs statuses = (i : ℕ) → i < length rs → is_success (slice_index statuses i) ≡ true

-- A dependency of the rest is one of the batch: the same request, or the same unit. `source` gives for a position of the rest
-- the one of the batch.
abbrev pub IsSameNeed : List Record → List Record → (ℕ → ℕ) → Need → Need → Type 0
IsSameNeed rest rs source (One m) (One p) = source m ≡ p
IsSameNeed rest rs source (Group v) (Group u) = (m : ℕ) → m < length rest → (unit_at rest m ≡ v) ↔ (unit_at rs (source m) ≡ u)
IsSameNeed rest rs source need other = ⊥

-- The plan of the rest is that of the batch over the requests that are in the rest: in their order, in the same units, and
-- with those of their dependencies that are in the rest, in the same order.
pub record IsPartOfPlan (rs : List Record) (kept : List Bool) (rest : List Record) : Type 0 where
  pub source : ℕ → ℕ
  pub in_order : (m n : ℕ) → m < n → n < length rest → source m < source n
  pub all : (i : ℕ) → i < length rs → (is_kept rs kept i ≡ true) ↔ ((m : ℕ) × (m < length rest) × (source m ≡ i))
  pub units : (m n : ℕ) → m < length rest → n < length rest → (unit_at rest m ≡ unit_at rest n) ↔ (unit_at rs (source m) ≡ unit_at rs (source n))
  pub needs : (m : ℕ) → m < length rest → AllZip (IsSameNeed rest rs source) (needs_at rest m) (filter (λ need. marked kept (unit_needed (unit_at rs) need)) (needs_at rs (source m)))

-- the responses to a batch, with those to its rest in place of the responses to the same requests
abbrev pub with_rest : List Entry → List Entry → List Entry
with_rest responses others = filter (λ e. not (is_answered others e.id)) responses ++ others
