-- The calls are those of the reports, which are the reports among the steps.
use Rattle.std.proofs.Common.{◌∙◌, ◌++◌, ap, sym, map}
use Rattle.odb_check.specs.Plans.{plan_records}
use Rattle.odb_exec.specs.Calls.{calls_of, reported_by}
use Rattle.odb_tests_exec.specs.declared.runs.executions.Statuses.{Statuses}
use Rattle.odb_tests_exec.proofs.runs.executions.executed.Goals as goal

pub returns : goal.returns
returns c =
    let requests = plan_records c.args.plan.now in
    let done = c.in_ok-trace.ensures.execution in
    let events = done.course.events in
    let log = c.every_call.ensures.logged (λ (s : Statuses). s.calls.items) (λ call. call.0) (λ old new i request outcome did. did) requests events _ c.execute.new.service done.calls in
    log
    ∙ ap (λ calls. calls ++ map (λ call. call.0) (calls_of requests events)) c.new.ensures.items
    ∙ c.every_call.ensures.positions requests events _ c.execute.new.service done.calls
    ∙ ap reported_by (sym done.course.steps_are)
