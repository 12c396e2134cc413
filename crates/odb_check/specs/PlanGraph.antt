-- A plan as data, its laws, and what the names of a batch have to do with it.
use Rattle.std.specs.Prelude.{◌≡◌, ◌≢◌, ◌↔◌, ◌⊎◌, ◌<◌, ◌≤◌, ℕ, Bool, true, false, List, [], length, Some, Contains, slice_index_or, AllPairs}
use Rattle.odb_doc.specs.batch.Records.{Record}
use Rattle.odb_check.specs.declared.need.Need.{Need}
use Rattle.odb_check.specs.declared.need.Need.TheVariants.{One, Group}
use Rattle.odb_check.specs.Firsts.{list_below}
use Rattle.odb_check.specs.Needs.{needs_at, needs_of_each}
use Rattle.odb_check.specs.Positions.{id_at, group_at, names_at, reference_at}
use Rattle.odb_check.specs.Units as all

-- the unit and the needs of each position
pub record PlanGraph : Type 0 where
  pub units : List ℕ
  pub unit_count : ℕ
  pub needs : List (List Need)

-- the unit of a position
abbrev pub unit_of : PlanGraph → ℕ → ℕ
unit_of plan i = slice_index_or plan.units i 0

-- the needs of a position
abbrev pub needs_of : PlanGraph → ℕ → List Need
needs_of plan i = slice_index_or plan.needs i []

-- the plan of a list of requests
abbrev pub plan_graph_of : List Record → PlanGraph
plan_graph_of rs = record { units = list_below (length rs) (all.unit_at rs); unit_count = all.unit_count rs; needs = needs_of_each rs }

-- position by position these are the units and needs of the requests
pub record IsPlanGraphOf (rs : List Record) (plan : PlanGraph) : Type 0 where
  pub size : length plan.units ≡ length rs
  pub unit_count : plan.unit_count ≡ all.unit_count rs
  pub units : (i : ℕ) → i < length rs → unit_of plan i ≡ all.unit_at rs i
  pub needs : (i : ℕ) → i < length rs → needs_of plan i ≡ needs_at rs i

-- the positions of the unit are those from one number up to another, one at least
pub record IsSpan (plan : PlanGraph) (u from to : ℕ) : Type 0 where
  pub begins : from < to
  pub within : to ≤ length plan.units
  pub exact : (i : ℕ) → i < length plan.units → (unit_of plan i ≡ u) ↔ ((from ≤ i) × (i < to))

-- a batch of so many requests and units has the request, or the unit, that is needed
abbrev pub IsNeedAmong : ℕ → ℕ → Need → Type 0
IsNeedAmong requests units (One r) = r < requests
IsNeedAmong requests units (Group u) = u < units

-- the plan has what is needed
abbrev pub IsNeed : PlanGraph → Need → Type 0
IsNeed plan need = IsNeedAmong (length plan.units) plan.unit_count need

-- the unit that a need is about, by the unit of each position
abbrev pub unit_needed : (ℕ → ℕ) → Need → ℕ
unit_needed unit (One r) = unit r
unit_needed unit (Group u) = u

-- what the request at i needs precedes it: an earlier position, or an earlier unit
abbrev pub IsEarlier : PlanGraph → ℕ → Need → Type 0
IsEarlier plan i (One r) = r < i
IsEarlier plan i (Group u) = u < unit_of plan i

-- of each unit, whether all its members among the first n positions pass a test
pub record ArePassing (plan : PlanGraph) (test : ℕ → Bool) (n : ℕ) (units : List Bool) : Type 0 where
  pub count : length units ≡ plan.unit_count
  pub passed : (u i : ℕ) → slice_index_or units u false ≡ true → i < n → unit_of plan i ≡ u → test i ≡ true
  pub failed : (u : ℕ) → u < plan.unit_count → slice_index_or units u false ≡ false → (i : ℕ) × (i < length plan.units) × (unit_of plan i ≡ u) × (test i ≡ false)

-- what the calls at the first n positions answer is this test
abbrev pub AreAnswers : ℕ → (ℕ → Bool → Type 0) → (ℕ → Bool) → Type 0
AreAnswers n post test = (i : ℕ) (answer : Bool) → i < n → post i answer → answer ≡ test i

-- no other position is in the unit of this one
abbrev pub IsAlone : PlanGraph → ℕ → Type 0
IsAlone plan r = (j : ℕ) → j < length plan.units → unit_of plan j ≡ unit_of plan r → j ≡ r

-- The laws of a plan: units are adjacent and in order, what is needed precedes, and a need of a member of another
-- group comes with a need of that group.
pub record IsPlan (plan : PlanGraph) : Type 0 where
  pub few : length plan.units ≤ 10000
  pub as_long : length plan.needs ≡ length plan.units
  pub few_units : plan.unit_count ≤ length plan.units
  pub counted : (i : ℕ) → i < length plan.units → unit_of plan i < plan.unit_count
  pub in_order : (i j : ℕ) → i ≤ j → j < length plan.units → unit_of plan i ≤ unit_of plan j
  pub earlier : (i : ℕ) (need : Need) → i < length plan.units → Contains (needs_of plan i) need → IsEarlier plan i need
  pub earlier_unit : (i r : ℕ) → i < length plan.units → Contains (needs_of plan i) (One r) → unit_of plan r ≢ unit_of plan i → unit_of plan r < unit_of plan i
  pub listed : (i r : ℕ) → i < length plan.units → Contains (needs_of plan i) (One r) → (unit_of plan r ≡ unit_of plan i) ⊎ (IsAlone plan r ⊎ Contains (needs_of plan i) (Group (unit_of plan r)))
  pub distinct : (i : ℕ) → i < length plan.units → AllPairs (λ need other. need ≢ other) (needs_of plan i)

-- Each name is among the needs of its request: an identifier by its position, a group by its unit; and so is the
-- reference, by its position.
pub record HasNamesAsNeeds (rs : List Record) (plan : PlanGraph) : Type 0 where
  pub names_id : (i : ℕ) (name : List ℕ) (r : ℕ) → Contains (names_at rs i) name → id_at rs r ≡ Some name → Contains (needs_of plan i) (One r)
  pub names_group : (i : ℕ) (name : List ℕ) (j : ℕ) → Contains (names_at rs i) name → group_at rs j ≡ Some name → Contains (needs_of plan i) (Group (unit_of plan j))
  pub refers : (i : ℕ) (id : List ℕ) (r : ℕ) → reference_at rs i ≡ Some id → id_at rs r ≡ Some id → Contains (needs_of plan i) (One r)
