use Rattle.std.proofs.Common.{◌≡◌, List, Option, Some, None, Result, Ok, Err, IfSome, IfOk, subst}
use Rattle.odb_doc.specs.recorded.OutcomeLists.{entries}
use Rattle.odb_doc.specs.declared.recorded.outcome.Outcome.{Outcome}
use Rattle.odb_check.specs.Plans.{plan_records}
use Rattle.odb_sched.specs.declared.order.Order.TheVariants as orders
use Rattle.odb_exec.specs.declared.execution.Trace.{Trace}
use Rattle.odb_exec.specs.declared.execution.ExecFault.{ExecFault}
use Rattle.odb_exec.specs.Recordings.{Faults, Finishes, HasOneCourse, recorded_for}
use Rattle.odb_sched.specs.run.State.{State, initial}
use Rattle.odb_testing.specs.Readings.{IsReading}
use Rattle.odb_tests_exec.proofs.laws.orders.executed_twice.Goals as goal

abbrev Reads : List (Option Outcome) → State → Result Trace ExecFault → Type 0
Reads recorded first read = IsReading (λ trace. Finishes orders.Last recorded first trace.steps.items trace.done) (λ cause. Faults orders.Last recorded first cause) read

same_steps : (recorded : List (Option Outcome)) (first : State) → HasOneCourse orders.Last recorded first → (a b : Option (Result Trace ExecFault)) → IfSome a (Reads recorded first) → IfSome b (Reads recorded first)
    → IfSome a (λ x. IfSome b (λ y. IfOk x (λ s. IfOk y (λ t. s.steps.items ≡ t.steps.items))))
same_steps recorded first one None b _ _ = tt
same_steps recorded first one (Some x) None _ _ = tt
same_steps recorded first one (Some (Ok x)) (Some (Ok y)) p q = (one x.steps.items y.steps.items x.done y.done p.0 q.0).0
same_steps recorded first one (Some (Ok x)) (Some (Err g)) p q = tt
same_steps recorded first one (Some (Err f)) (Some b) p q = tt

pub returns : goal.returns
returns c =
    let recorded = recorded_for (plan_records c.args.plan.now) (entries c.args.other) in
    let first = initial c.args.plan.now c.args.policy in
    same_steps recorded first (c.every_order.ensures.one_course orders.Last recorded first) c.executed.result c.executed-2.result
    (subst (λ es. IfSome c.executed.result (Reads (recorded_for (plan_records c.args.plan.now) es) first)) c.requires c.executed.ensures) c.executed-2.ensures
