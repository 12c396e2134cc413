use Rattle.std.proofs.Common.{◌∙◌, sym}
use Rattle.serde_json.specs.View.{view}
use Rattle.odb_doc.specs.Faults.{document_row}
use Rattle.odb_engine.proofs.AllFaultLemmas.{refused-row}
use Rattle.odb_engine.proofs.tasks.all_faults.batch_in.Goals as goal

pub shape_refusals-requires : goal.shape_refusals-requires
shape_refusals-requires c =
    c.one_fault.ensures.none (view c.args.value.now) c.in-Err.fault (refused-row (document_row c.in-Err.fault) c.from-halt.result c.from-halt.ensures (sym c.is_refused.ensures ∙ c.if-is_refused.true)) c.in-Err.ensures.least
