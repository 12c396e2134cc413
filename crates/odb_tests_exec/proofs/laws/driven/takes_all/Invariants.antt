use Rattle.odb_check.specs.Plans.{plan_records}
use Rattle.odb_sched.specs.declared.policy.Policy.{Policy}
use Rattle.odb_tests_exec.specs.LiveRuns.{IsLiveState}
use Rattle.odb_tests_exec.proofs.laws.driven.takes_all.Given as goal

-- after the calls so far it is still the state after some live run
abbrev pub invariant-loop-call : goal.invariant-loop-call
invariant-loop-call l = (policy : Policy) → IsLiveState (plan_records l.fn.plan) policy l.fn.run → IsLiveState (plan_records l.fn.plan) policy l.run
