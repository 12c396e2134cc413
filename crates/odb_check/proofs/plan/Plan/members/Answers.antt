use Rattle.std.proofs.Common.{arith, length}
use Rattle.odb_check.specs.declared.fault.NameRule.TheVariants.{GroupSplit}
use Rattle.odb_check.specs.Plans.{plan_records, batch_plan_graph}
use Rattle.odb_check.proofs.PlanLemmas.{has_span}
use Rattle.odb_check.proofs.UnitLemmas.{in_order, unit_at_begin}
use Rattle.odb_check.proofs.plan.Plan.members.Goals as goal

pub returns-then-u-count : goal.returns-then-u-count
unfolding batch_plan_graph
returns-then-u-count c =
    let rs = plan_records c.args.self.now in
    let end = c.start_of-end.result in
    record {
      span = has_span rs (c.args.self.now.good GroupSplit) c.args.u c.start_of-start.result end c.start_of-start.ensures (omega (arith, c.start_of-end.ensures.within)) c.start_of-end.ensures.number
          (λ i h more. omega (arith, in_order rs (c.args.self.now.good GroupSplit) end i more, unit_at_begin rs end c.start_of-end.ensures.begins, c.start_of-end.ensures.number));
    }

pub returns-else-u-count : goal.returns-else-u-count
unfolding batch_plan_graph
returns-else-u-count c =
    let rs = plan_records c.args.self.now in
    record {
      span = rw c.len-end.ensures.count (has_span rs (c.args.self.now.good GroupSplit) c.args.u c.start_of-start.result (length rs) c.start_of-start.ensures (omega arith)
          (omega (arith, c.requires, c.unit_count-count.ensures.count, c.if-u-count.false)) (λ i h more. absurd (omega arith)));
    }
