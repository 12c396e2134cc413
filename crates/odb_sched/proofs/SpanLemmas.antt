-- A walk over the members of a unit, against a statement of all positions.
use Rattle.std.proofs.Common.{ℕ, ◌<◌, arith, length, get_or, Contains, All}
use Rattle.std.proofs.lemmas.List.Elements.{Contains-get_or}
use Rattle.odb_check.specs.declared.need.Need.{Need}
use Rattle.odb_check.specs.declared.need.Need.TheVariants.{One, Group}
use Rattle.odb_check.specs.PlanGraph.{PlanGraph, IsPlan, unit_of, needs_of, IsNeed}

-- each need of a request is a request or a unit of the plan
known_need : (plan : PlanGraph) (i : ℕ) (need : Need) → IsPlan plan → i < length plan.units → Contains (needs_of plan i) need → IsNeed plan need
known_need plan i (One r) laws within has = let earlier : r < i = laws.earlier i (One r) within has in omega arith
known_need plan i (Group u) laws within has =
    let earlier : u < unit_of plan i = laws.earlier i (Group u) within has in
    let counted : unit_of plan i < plan.unit_count = laws.counted i within in
    omega arith

pub known_needs : (plan : PlanGraph) (i : ℕ) → IsPlan plan → i < length plan.units → All (IsNeed plan) (needs_of plan i)
known_needs plan i laws within k d below = known_need plan i (get_or (needs_of plan i) k d) laws within (Contains-get_or (needs_of plan i) k d below)
