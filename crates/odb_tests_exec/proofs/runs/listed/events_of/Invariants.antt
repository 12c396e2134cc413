use Rattle.std.proofs.Common.{◌<◌, length, All}
use Rattle.odb_check.specs.Plans.{plan_records}
use Rattle.odb_sched.specs.run.Runs.{event_position}
use Rattle.odb_tests_exec.proofs.runs.listed.events_of.Given as goal

abbrev pub invariant-loop-i : goal.invariant-loop-i
invariant-loop-i l = All (λ event. event_position event < length (plan_records l.plan)) l.list.items
