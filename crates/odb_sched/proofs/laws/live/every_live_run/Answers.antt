-- The clauses are the laws of the lemmas.
use Rattle.odb_sched.specs.run.LiveEvents.{first_live, live_state}
use Rattle.odb_sched.specs.run.State.{first_state}
use Rattle.odb_sched.proofs.LiveLemmas.{live_run-append, after_all_live-append}
use Rattle.odb_sched.proofs.LivePromiseLemmas.{reached_live, reported_by_events, started_by_events, starts_after_named, starts_nothing, within_width}
use Rattle.odb_sched.proofs.NameLemmas.{live_run_from, after_all-bare}
use Rattle.odb_sched.proofs.ResultLemmas.{all_or_none, rests_on_successes}
use Rattle.odb_sched.proofs.StuckLemmas.{never_stuck}
use Rattle.odb_sched.proofs.laws.live.every_live_run.Goals as goal

pub returns-clause-kept : goal.returns-clause-kept
returns-clause-kept c requests policy events order names run =
    let graph = c.every_batch.ensures.plan_graph requests in
    let reached = reached_live requests policy order graph names events run in
    record {
      started = started_by_events requests policy order graph names events run;
      reported = reported_by_events requests policy order graph names events run;
      dependencies_first = starts_after_named requests policy order graph names events run;
      stops = starts_nothing requests policy order graph names events run;
      width = within_width requests policy order graph names events run;
      never_stuck = never_stuck _ reached;
      all_or_none = all_or_none (live_state requests policy events);
      rests_on_successes = rests_on_successes _ reached;
      statuses = reached.statuses;
    }

pub returns-clause-goes_on : goal.returns-clause-goes_on
returns-clause-goes_on c requests policy events more run next =
    let first = first_live requests policy in
    (live_run-append first events more run next, after_all_live-append first events more)

pub returns-clause-recorded : goal.returns-clause-recorded
returns-clause-recorded c requests policy events run = (live_run_from (first_state requests policy) events run, after_all-bare (first_state requests policy) events)
