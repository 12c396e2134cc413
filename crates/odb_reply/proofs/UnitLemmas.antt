-- Needs are of requests and units of the plan.
use Rattle.std.proofs.Common.{◌<◌, ℕ, List, length, sym, subst, arith, Contains}
use Rattle.odb_doc.specs.batch.Records.{Record}
use Rattle.odb_check.specs.declared.need.Need.{Need}
use Rattle.odb_check.specs.declared.need.Need.TheVariants.{One, Group}
use Rattle.odb_check.specs.Needs.{needs_at}
use Rattle.odb_check.specs.PlanGraph.{PlanGraph, IsPlan, IsPlanGraphOf, IsNeed, IsNeedAmong, IsEarlier}
use Rattle.odb_check.specs.Units.{unit_count}

-- a dependency that the plan has is a request or a unit of the batch
pub known_within : (rs : List Record) (plan : PlanGraph) (need : Need) → IsPlanGraphOf rs plan → IsNeed plan need → IsNeedAmong (length rs) (unit_count rs) need
known_within rs plan need same known = rw (same.size, same.unit_count) at known

-- each dependency of a request is a request or a unit of the batch
pub need_within : (rs : List Record) (plan : PlanGraph) (i : ℕ) (need : Need) → IsPlanGraphOf rs plan → IsPlan plan → i < length rs → Contains (needs_at rs i) need → IsNeedAmong (length rs) (unit_count rs) need
need_within rs plan i need same laws within needed =
    let inside : i < length plan.units = omega (arith, same.size) in
    known_within rs plan need same (at_need need (laws.earlier i need inside (subst (λ (needs : List Need). Contains needs need) (sym (same.needs i within)) needed)))
  where
    at_need : (other : Need) → IsEarlier plan i other → IsNeed plan other
    at_need (One r) earlier = omega (arith, earlier, same.size)
    at_need (Group u) earlier = omega (arith, earlier, laws.counted i (omega (arith, same.size)))
