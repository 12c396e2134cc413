use Rattle.std.proofs.Common.{◌≡◌, length}
use Rattle.odb_check.specs.Plans.{plan_records}
use Rattle.odb_sched.specs.run.State.{size}
use Rattle.odb_tests_exec.proofs.runs.events.are_allowed.Given as goal

-- an event changes nothing of how many requests the run has
abbrev pub invariant-loop-i : goal.invariant-loop-i
invariant-loop-i l = size l.scheduler ≡ length (plan_records l.plan)
