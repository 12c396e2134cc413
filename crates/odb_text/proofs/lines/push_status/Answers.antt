use Rattle.std.proofs.Common.{arith}
use Rattle.std.proofs.lemmas.Grind.{common_steps}
use Rattle.odb_doc.specs.batch.Records.{record_of}
use Rattle.odb_check.specs.Plans.{plan_records}
use Rattle.odb_text.proofs.ResultLemmas.{status-parts}
use Rattle.odb_text.proofs.lines.push_status.Goals as goal

pub returns : goal.returns
returns c =
    let parts = status-parts (plan_records c.args.plan.now) c.args.statuses.now c.args.i (record_of c.request.result.now) c.request.ensures.value in
    grind (arith, common_steps, parts)
