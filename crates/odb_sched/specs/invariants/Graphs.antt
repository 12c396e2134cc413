-- How a graph keeps the numbers of a plan, and the needs of a plan as pairs of what is needed and the request that needs it.
use Rattle.std.specs.Prelude.{ℕ, ◌<◌, List, length, slice_index_or, map}
use Rattle.odb_check.specs.Firsts.{joined_below}
use Rattle.odb_check.specs.PlanGraph.{PlanGraph, IsPlan, IsSpan, needs_of}
use Rattle.odb_sched.specs.declared.graph.Graph.TheInside.{Inside}
use Rattle.odb_sched.specs.invariants.Dependents.{Numbers, AreDependents, key_of}

-- each unit has the positions from one number up to another
abbrev pub AreSpans : PlanGraph → List (ℕ × ℕ) → Type 0
AreSpans plan members = (u : ℕ) → u < plan.unit_count → IsSpan plan u (slice_index_or members u (0, 0)).0 (slice_index_or members u (0, 0)).1

-- the units and needs that these lists keep
abbrev pub plan_graph_kept : Inside → PlanGraph
plan_graph_kept g = record { units = g.units.items; unit_count = length g.members.items; needs = g.needs }

abbrev pub numbers_of : Inside → Numbers
numbers_of g = record { plan_graph = plan_graph_kept g; dependents = g.dependents }

-- they are those of a plan
pub record IsGraph (g : Inside) : Type 0 where
  pub order : IsPlan (plan_graph_kept g)
  pub spans : AreSpans (plan_graph_kept g) g.members.items
  pub dependents : AreDependents (plan_graph_kept g) g.dependents

-- a pair for each need of a request
abbrev pub need_pairs : PlanGraph → ℕ → List (ℕ × ℕ)
need_pairs plan i = map (λ need. (key_of plan need, i)) (needs_of plan i)

-- those of all requests, in order
abbrev pub all_pairs : PlanGraph → List (ℕ × ℕ)
all_pairs plan = joined_below (length plan.units) (need_pairs plan)
