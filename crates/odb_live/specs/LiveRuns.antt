-- That a live run is of one batch.
use Rattle.std.specs.Prelude.{◌≡◌, List, length}
use Rattle.odb_doc.specs.batch.Records.{Record}
use Rattle.odb_check.specs.LeastNameFault.{HasGoodNames}
use Rattle.odb_sched.specs.run.State.{batch_plan_graph, size}
use Rattle.odb_reply.specs.Responses.{labels_of}
use Rattle.odb_live.specs.declared.run.LiveRun.TheInside.{Inside}
use Rattle.odb_live.specs.Live.{Live}

abbrev pub live_of : Inside → Live
live_of kept = record { labels = kept.labels; texts = kept.texts.items; out = kept.out.items; run = kept.run }

-- there is a batch that the check accepts, whose ids and groups these are, and whose units and needs the run has; and each of
-- its positions has a place for a text and a mark
pub record IsOfOneBatch (kept : Inside) : Type 0 where
  pub batch : List Record
  pub good : HasGoodNames batch
  pub labels : kept.labels ≡ labels_of batch
  pub plan_graph : kept.run.plan_graph ≡ batch_plan_graph batch
  pub each : length kept.labels ≡ size kept.run
  pub places : length kept.texts.items ≡ size kept.run
  pub marks : length kept.out.items ≡ size kept.run
