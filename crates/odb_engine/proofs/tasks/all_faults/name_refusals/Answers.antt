use Rattle.std.proofs.Common.{◌∙◌, ap}
use Rattle.std.specs.List.{filter_map}
use Rattle.std.proofs.lemmas.Result.{IfOk-weaker}
use Rattle.odb_check.specs.FaultTable.{check_row}
use Rattle.odb_engine.proofs.tasks.all_faults.name_refusals.Goals as goal

pub returns : goal.returns
returns c =
    IfOk-weaker c.refusals_of.result _ _ (λ found is. record { faults = c.in_ok-faults.faults.items; are = c.in_ok-faults.ensures.all; is = is ∙ ap (filter_map check_row) c.deref.ensures.value }) c.refusals_of.ensures
