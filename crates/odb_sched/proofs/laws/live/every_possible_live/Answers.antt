-- A live run is made of the statuses, and what a live run answers is possible.
use Rattle.odb_sched.proofs.LiveWitnessLemmas.{has_live_run}
use Rattle.odb_sched.proofs.PossibleLiveLemmas.{possible-alone, possible-from_live_run}
use Rattle.odb_sched.proofs.laws.live.every_possible_live.Goals as goal

pub returns-clause-runs : goal.returns-clause-runs
returns-clause-runs c requests mode statuses laws =
    let graph = c.every_batch.ensures.plan_graph requests in (
      has_live_run requests mode statuses laws graph,
      possible-from_live_run requests mode statuses laws graph,
    )

pub returns-clause-alone : goal.returns-clause-alone
returns-clause-alone c = possible-alone
