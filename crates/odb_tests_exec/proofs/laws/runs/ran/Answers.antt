use Rattle.std.proofs.Common.{◌∙◌, ap, sym, subst}
use Rattle.odb_sched.specs.run.Answers.{HasStatuses}
use Rattle.odb_sched.specs.run.Laws.{HasOneResult, HasResultByStatuses, AgreesWithTable, IsAllOrNone, IsNeverStuck, RestsOnSuccesses}
use Rattle.odb_sched.specs.run.State.{phase_at}
use Rattle.odb_sched.specs.run.Steps.{is_finished}
use Rattle.odb_tests_exec.proofs.laws.runs.ran.Goals as goal

pub returns-in-Ok : goal.returns-in-Ok
returns-in-Ok c =
    let policy = c.args.policy in
    let events = c.args.events.items in
    let is = c.in-Ok.ensures.run in
    let state = c.in-Ok.ensures.state in
    let back = sym state in
    let run = c.every_run.ensures in
    let result = c.every_result.ensures in
    record {
      dependencies_first = run.dependencies_first policy events is;
      few_events = run.few_events policy events is;
      never_stuck = subst IsNeverStuck back (run.never_stuck policy events is);
      phases = λ i. ap (λ s. phase_at s i) state ∙ c.definitions_agree.ensures.phases policy events i is;
      agrees_with_table = subst AgreesWithTable back (result.agrees_with_table policy events is);
      all_or_none = subst IsAllOrNone back (result.all_or_none policy events is);
      rests_on_successes = subst RestsOnSuccesses back (result.rests_on_successes policy events is);
      statuses = subst HasStatuses back (result.statuses policy events is);
      one_result = λ mode finished. subst HasOneResult back (result.one_result policy events mode is (ap is_finished back ∙ finished));
      by_statuses = λ mode finished. subst HasResultByStatuses back (result.by_statuses policy events mode is (ap is_finished back ∙ finished));
    }
