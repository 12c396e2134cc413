-- A run by recorded events.
use Rattle.std.proofs.Common.{◌≡◌, ◌∙◌, ◌<◌, length, Some, subst, refl, sym, ap, IfErr}
use Rattle.serde_json.specs.Read.{read}
use Rattle.odb_doc.specs.recorded.EventLists.{entries}
use Rattle.odb_check.specs.PlanGraph.{PlanGraph}
use Rattle.odb_check.specs.Plans.{plan_records}
use Rattle.odb_sched.specs.run.State.{State, first_state}
use Rattle.odb_sched.specs.run.Steps.{is_finished}
use Rattle.odb_reply.specs.NotWhole.{HasWholeBodies}
use Rattle.odb_reply.specs.Fits.{IsTableOf, ListsFit}
use Rattle.odb_reply.specs.OnePerId.{HasOnePerId}
use Rattle.odb_reply.specs.Readable.{AnswersBy, IsReadable}
use Rattle.odb_reply.specs.ResponseDocuments.{IsResponseDocument}
use Rattle.odb_reply.specs.Responses.{response_value}
use Rattle.odb_reply.specs.StatusFaults.{status_at}
use Rattle.odb_engine.specs.Halts.{Halted}
use Rattle.odb_engine.specs.ResponseLines.{response_line}
use Rattle.odb_engine.specs.Runs.{IsLeastOfRun, end_of}
use Rattle.odb_engine.specs.Runs.IsLeastOfRun.{OfEnd}
use Rattle.odb_engine.proofs.EngineLemmas.{at-exit, exit-error, halted-by}
use Rattle.odb_engine.proofs.ReadAgainLemmas.{ShowsTable}
use Rattle.odb_engine.proofs.RunLemmas.{unknown-event, barred-event, readable-answers, whole-bodies}
use Rattle.odb_sched.proofs.RunLemmas.{plan_graph-after_all, requests-after_all}
use Rattle.odb_engine.proofs.tasks.run.done_of.Goals as goal

pub returns-in_err-resolved-clause-least : goal.returns-in_err-resolved-clause-least
returns-in_err-resolved-clause-least c =
    let policy = c.args.policy in
    let batch = plan_records c.args.plan.now in
    let named = entries c.args.events in
    let fault = c.in_err-resolved.field-0.0 in
    let least = IsLeastOfRun policy batch named in
    at-exit (λ r. IfErr r (Halted least)) _ _ c.from_residual.ensures.1
    (halted-by least _ (unknown-event policy batch named fault c.in_err-resolved.ensures.least))

pub returns-in_err-scheduler-clause-least : goal.returns-in_err-scheduler-clause-least
returns-in_err-scheduler-clause-least c =
    let policy = c.args.policy in
    let batch = plan_records c.args.plan.now in
    let named = entries c.args.events in
    let cause = c.in_err-scheduler.field-0.0 in
    let least = IsLeastOfRun policy batch named in
    at-exit (λ r. IfErr r (Halted least)) _ _ c.from_residual-in_err-scheduler.ensures.1
    (halted-by least _ (barred-event policy batch named c.in_ok-resolved.resolved.items cause c.in_ok-resolved.ensures.events c.in_err-scheduler.ensures.refused))

pub returns-in_err-done-clause-least : goal.returns-in_err-done-clause-least
returns-in_err-done-clause-least c =
    let least = IsLeastOfRun c.args.policy (plan_records c.args.plan.now) (entries c.args.events) in
    let unfinished = ap (λ (s : State). is_finished s) (sym c.in_ok-scheduler.ensures.state) ∙ c.in_err-done.ensures.unfinished in
    exit-error (λ r. IfErr r (Halted least)) _ _ c.from_residual-in_err-done.ensures.1
    (halted-by least _ (λ refusal same. OfEnd c.in_ok-resolved.resolved.items c.in_ok-resolved.ensures.events c.in_ok-scheduler.ensures.run unfinished (cc same)) _ c.in_err-done.ensures.least)

pub returns-clause-result : goal.returns-clause-result
returns-clause-result c =
    let policy = c.args.policy in
    let batch = plan_records c.args.plan.now in
    let events = c.in_ok-resolved.resolved.items in
    let first = first_state batch policy in
    let done = c.in_ok-done.done in
    let same : done ≡ end_of policy batch events = c.in_ok-done.ensures.done ∙ c.in_ok-scheduler.ensures.state in
    record {
      ends = refl;
      events = events;
      resolved = c.in_ok-resolved.ensures.events;
      run = c.in_ok-scheduler.ensures.run;
      finished = ap (λ (s : State). is_finished s) (sym c.in_ok-scheduler.ensures.state) ∙ c.in_ok-done.ensures.finished;
      result = ap response_line same;
      dependencies_first = c.in_ok-scheduler.ensures.dependencies_first;
      one_per_id = subst (λ rs. HasOnePerId rs (response_value (end_of policy batch events))) (requests-after_all first events)
          (subst (λ (s : State). HasOnePerId s.requests (response_value s)) same c.every_response.ensures.one_per_id);
      read_again = λ recordable.
          let readable = readable-answers policy batch (entries c.args.events) events c.in_ok-resolved.ensures.events c.len-count.ensures.well_formed recordable in
          let fits = subst (λ (s : State). ListsFit s.requests (response_value s)) same c.every_response.ensures.fits in
          let listed : ListsFit batch (response_value (end_of policy batch events)) = subst (λ rs. ListsFit rs (response_value (end_of policy batch events))) (requests-after_all first events) fits in
          let shown = subst ShowsTable same c.every_response.ensures.table in
          record {
            value = response_value (end_of policy batch events);
            reads = subst (λ (s : State). AnswersBy IsReadable s → read (response_line s) ≡ Some (response_value s)) same c.every_response.ensures.line readable;
            document = subst (λ (s : State). IsResponseDocument (response_value s)) same c.every_response.ensures.document;
            fits = listed;
            possible = λ places statuses table. (c.every_possible.ensures policy.mode (status_at statuses)).1 (record {
              policy = policy;
              mode_is = refl;
              events = events;
              run = c.in_ok-scheduler.ensures.run;
              finished = ap (λ (s : State). is_finished s) (sym c.in_ok-scheduler.ensures.state) ∙ c.in_ok-done.ensures.finished;
              answered = λ i within. shown listed.listed places statuses listed.says (subst (λ rs. IsTableOf rs listed.listed places statuses) (sym (requests-after_all first events)) table) i
                  (subst (λ (plan : PlanGraph). i < length plan.units) (sym (plan_graph-after_all first events)) within);
            });
          };
    }

pub returns-clause-whole : goal.returns-clause-whole
returns-clause-whole c =
    let policy = c.args.policy in
    let batch = plan_records c.args.plan.now in
    let events = c.in_ok-resolved.resolved.items in
    let same : c.in_ok-done.done ≡ end_of policy batch events = c.in_ok-done.ensures.done ∙ c.in_ok-scheduler.ensures.state in
    subst (λ (s : State). HasWholeBodies s) (sym same)
    (whole-bodies policy batch (entries c.args.events) events c.in_ok-resolved.ensures.events c.len-count.ensures.well_formed)

pub returns-clause-least : goal.returns-clause-least
returns-clause-least c = tt
