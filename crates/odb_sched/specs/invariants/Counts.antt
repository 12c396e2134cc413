-- What a run counts beside the phases of its requests.
use Rattle.std.specs.Prelude.{◌≡◌, ℕ, ◌<◌, ◌==◌, ◌&&◌, ◌+◌, Bool, false, not, List, length, map, slice_index_or, count_by, if◌then◌else◌}
use Rattle.odb_dense.specs.declared.worklist.Mark.{Mark}
use Rattle.odb_dense.specs.declared.worklist.Mark.TheVariants.{Unvisited}
use Rattle.odb_dense.specs.Marks.{is_marked, is_visited}
use Rattle.odb_check.specs.Firsts.{count_below, list_below}
use Rattle.odb_check.specs.PlanGraph.{PlanGraph, unit_of, needs_of}
use Rattle.odb_sched.specs.declared.phase.Phase.{Phase}
use Rattle.odb_sched.specs.declared.phase.Phase.TheVariants.{Unstarted}
use Rattle.odb_sched.specs.declared.counts.Counts.{Counts}
use Rattle.odb_sched.specs.run.State.{is_unstarted, is_running, has_succeeded}
pub use Rattle.odb_sched.specs.run.State.{members_in}
use Rattle.odb_sched.specs.run.Steps.{succeeded_in, satisfied_in, failed_in}
use Rattle.odb_sched.specs.invariants.Dependents.{need_count}
use Rattle.odb_sched.specs.invariants.Openings.{AreOpenings}

-- how many needs of a request are not satisfied
abbrev pub unmet_in : PlanGraph → List Phase → ℕ → ℕ
unmet_in plan phases i = count_by (λ need. not (satisfied_in plan phases need)) (needs_of plan i)

-- how many needs of a request a unit satisfies
abbrev pub satisfied_by_unit : PlanGraph → List Phase → ℕ → ℕ → ℕ
satisfied_by_unit plan phases u i = if succeeded_in plan phases u then need_count plan (length plan.units + u) i else 0

-- of each request, how many of its needs are not satisfied
abbrev pub AreUnmet : PlanGraph → List Phase → List ℕ → Type 0
AreUnmet plan phases unmet = (i : ℕ) → i < length plan.units → slice_index_or unmet i 0 ≡ unmet_in plan phases i

-- how many members of a unit have not reported a success
abbrev pub pending_in : PlanGraph → List Phase → ℕ → ℕ
pending_in plan phases u = count_below (length plan.units) (λ i. (unit_of plan i == u) && not (has_succeeded (slice_index_or phases i Unstarted)))

-- of each unit, how many members have not reported a success
abbrev pub ArePending : PlanGraph → List Phase → List ℕ → Type 0
ArePending plan phases pending = (u : ℕ) → u < plan.unit_count → slice_index_or pending u 0 ≡ pending_in plan phases u

-- whether the unit of a request was taken from the worklist
abbrev pub is_skipped : PlanGraph → List Mark → ℕ → Bool
is_skipped plan units i = is_visited (slice_index_or units (unit_of plan i) Unvisited)

-- each list has an entry for each request or unit
pub record HaveEntries (plan : PlanGraph) (phases : List Phase) (t : Counts) : Type 0 where
  pub phased : length phases ≡ length plan.units
  pub unmet : length t.unmet.items ≡ length plan.units
  pub pending : length t.pending.items ≡ plan.unit_count
  pub units : length t.failed ≡ plan.unit_count
  pub ready : length t.ready ≡ length plan.units

-- the ready requests are those that are unstarted, are not skipped and have no unmet need
pub record AreReady (plan : PlanGraph) (skipped : ℕ → Bool) (phases : List Phase) (t : Counts) : Type 0 where
  pub entries : HaveEntries plan phases t
  pub exact : (i : ℕ) → i < length plan.units → slice_index_or t.ready i false ≡ (is_unstarted (slice_index_or phases i Unstarted) && not (skipped i) && (slice_index_or t.unmet.items i 0 == 0))

-- the ready requests, where those of the units that were taken from the worklist are skipped
abbrev pub HasReady : PlanGraph → List Phase → Counts → Type 0
HasReady plan phases t = AreReady plan (is_skipped plan t.failed) phases t

-- the units that have failed were taken from the worklist, and no others were ever on it
pub record ArePropagated (plan : PlanGraph) (phases : List Phase) (units : List Mark) : Type 0 where
  pub each : length units ≡ plan.unit_count
  pub failed : (u : ℕ) → u < plan.unit_count → is_visited (slice_index_or units u Unvisited) ≡ failed_in plan phases u
  pub marked : (u : ℕ) → is_marked (slice_index_or units u Unvisited) ≡ is_visited (slice_index_or units u Unvisited)

-- the counts are those of the requests in these phases
pub record AreCounts (plan : PlanGraph) (phases : List Phase) (t : Counts) : Type 0 where
  pub ready : HasReady plan phases t
  pub unmet : AreUnmet plan phases t.unmet.items
  pub pending : ArePending plan phases t.pending.items
  pub units : ArePropagated plan phases t.failed
  pub running : t.running ≡ map is_running phases
  pub openings : AreOpenings plan phases t.unmet.items t.openings

-- how many needs a request has
abbrev pub needs_in : PlanGraph → ℕ → ℕ
needs_in plan i = length (needs_of plan i)

-- of each request, how many needs it has
abbrev pub need_counts : PlanGraph → List ℕ
need_counts plan = list_below (length plan.units) (needs_in plan)

-- of each unit, how many members it has
abbrev pub member_counts : PlanGraph → List ℕ
member_counts plan = list_below plan.unit_count (members_in plan)
