use Rattle.std.proofs.Common.{◌∙◌, ap, map}
use Rattle.std.specs.List.{filter_map}
use Rattle.std.proofs.lemmas.Result.{IfOk-weaker}
use Rattle.serde_json.specs.View.{view}
use Rattle.odb_doc.specs.Faults.{document_row}
use Rattle.odb_doc.specs.Refusals.{printed}
use Rattle.odb_engine.proofs.AllFaultLemmas.{faults-of-shape}
use Rattle.odb_engine.proofs.tasks.all_faults.shape_refusals.Goals as goal

pub returns : goal.returns
returns c =
    IfOk-weaker c.refusals_of.result _ _
    (λ found is. faults-of-shape (view c.args.value.now) c.in_ok-faults.faults.items (map printed found.items) c.requires c.in_ok-faults.ensures.all (is ∙ ap (filter_map document_row) c.deref.ensures.value)) c.refusals_of.ensures
