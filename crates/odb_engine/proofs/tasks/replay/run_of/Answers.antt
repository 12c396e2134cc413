-- An execution by recorded outcomes.
use Rattle.std.proofs.Common.{◌≡◌, ◌∙◌, ◌<◌, length, subst, refl, sym, ap, true, Some, Ok, ℕ, IfErr}
use Rattle.odb_doc.specs.declared.recorded.outcome.Outcome.{Outcome}
use Rattle.odb_doc.specs.recorded.OutcomeLists.{entries}
use Rattle.odb_check.specs.PlanGraph.{PlanGraph}
use Rattle.odb_check.specs.Plans.{plan_records}
use Rattle.odb_sched.specs.run.Answers.{answer, reported, status_of}
use Rattle.odb_exec.specs.Courses.{IsReportEnabled, IsCausedBy, IsFinishedBy}
use Rattle.odb_sched.specs.run.Laws.{StartsAfterDependencies}
use Rattle.odb_exec.specs.Recordings.{OffersRecorded}
use Rattle.odb_sched.specs.run.State.{State, first_state, size}
use Rattle.odb_sched.specs.run.Steps.{is_finished}
use Rattle.odb_sched.proofs.RunLemmas.{plan_graph-after_all}
use Rattle.odb_reply.specs.Fits.{IsTableOf, ListsFit}
use Rattle.odb_reply.specs.OnePerId.{HasOnePerId}
use Rattle.odb_reply.specs.Responses.{response_value}
use Rattle.odb_reply.specs.StatusFaults.{status_at}
use Rattle.odb_engine.specs.Halts.{Halted}
use Rattle.odb_engine.specs.Replays.{LacksOutcome}
use Rattle.odb_engine.proofs.EngineLemmas.{at-exit, halted-by}
use Rattle.odb_engine.proofs.ReplayLemmas.{readable-answers, whole-bodies, lacks-outcome}
use Rattle.odb_engine.proofs.tasks.replay.run_of.Goals as goal

pub returns-in_err-trace-clause-lacks : goal.returns-in_err-trace-clause-lacks
returns-in_err-trace-clause-lacks g c =
    let allows = (goal.Chooser-dyn g c.args.chooser.now).allows c.args.chooser.now.1 in
    let batch = plan_records c.args.plan.now in
    let recorded = entries c.args.outcomes in
    let cause = c.in_err-trace.field-0.0 in
    let lacks = LacksOutcome allows c.args.policy batch recorded in
    let caused = subst (λ s. IsCausedBy (OffersRecorded s) (IsReportEnabled allows (OffersRecorded s) (first_state batch c.args.policy)) cause) c.in_ok-with_disposal.ensures c.in_err-trace.ensures.fault in
    at-exit (λ r. IfErr r (Halted lacks)) _ _ c.from_residual-in_err-trace.ensures.1
    (halted-by lacks _ (lacks-outcome allows c.args.policy batch recorded cause c.len-count.ensures.well_formed caused))

pub returns-clause-result : goal.returns-clause-result
returns-clause-result g c =
    let allows = (goal.Chooser-dyn g c.args.chooser.now).allows c.args.chooser.now.1 in
    let batch = plan_records c.args.plan.now in
    let first = first_state batch c.args.policy in
    let trace = c.in_ok-trace.trace in
    let execution = c.in_ok-trace.ensures.execution in
    let (course, ended) = subst (λ s. (course : IsFinishedBy allows (OffersRecorded s) first trace.steps.items trace.done) × StartsAfterDependencies batch course.events) c.in_ok-with_disposal.ensures
    (execution.course, execution.dependencies_first) in
    let offers = subst (λ s. (i : ℕ) (outcome : Outcome) → reported trace.done i ≡ Some outcome → OffersRecorded s i (Ok outcome)) c.in_ok-with_disposal.ensures c.in_ok-trace.ensures.offered in
    λ traced. record {
      ends = refl;
      steps = trace.steps.items;
      last = trace.done;
      course = course;
      result = refl;
      dependencies_first = ended;
      one_per_id = subst (λ rs. HasOnePerId rs (response_value trace.done)) c.in_ok-trace.ensures.plan c.every_response.ensures.one_per_id;
      read_again = λ recordable.
          let listed : ListsFit batch (response_value trace.done) = subst (λ rs. ListsFit rs (response_value trace.done)) c.in_ok-trace.ensures.plan c.every_response.ensures.fits in
          record {
            value = response_value trace.done;
            reads = c.every_response.ensures.line (readable-answers batch (entries c.args.outcomes) trace.done c.len-count.ensures.well_formed offers recordable);
            document = c.every_response.ensures.document;
            fits = listed;
            possible = λ places statuses table. (c.every_possible.ensures c.args.policy.mode (status_at statuses)).1 (record {
              policy = c.args.policy;
              mode_is = refl;
              events = course.events;
              run = course.course.run;
              finished = subst (λ (s : State). is_finished s ≡ true) course.last_is course.finished;
              answered = λ i within. ap (λ (s : State). status_of (answer s i)) (sym course.last_is)
                  ∙ c.every_response.ensures.table listed.listed places statuses listed.says (subst (λ rs. IsTableOf rs listed.listed places statuses) (sym c.in_ok-trace.ensures.plan) table) i
                  (subst (λ (s : State). i < size s) (sym course.last_is) (subst (λ (plan : PlanGraph). i < length plan.units) (sym (plan_graph-after_all first course.events)) within));
            });
          };
    }

pub returns-clause-whole : goal.returns-clause-whole
returns-clause-whole g c =
    let trace = c.in_ok-trace.trace in
    whole-bodies (plan_records c.args.plan.now) (entries c.args.outcomes) trace.done c.len-count.ensures.well_formed
    (subst (λ s. (i : ℕ) (outcome : Outcome) → reported trace.done i ≡ Some outcome → OffersRecorded s i (Ok outcome)) c.in_ok-with_disposal.ensures c.in_ok-trace.ensures.offered)
