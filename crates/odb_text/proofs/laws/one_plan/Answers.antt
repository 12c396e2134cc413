use Rattle.std.proofs.Common.{◌∙◌, sym, ap}
use Rattle.std.proofs.lemmas.Option.{same_Some}
use Rattle.serde_json.specs.Read.{read}
use Rattle.odb_text.specs.Results.{plan_value}
use Rattle.odb_text.proofs.PlanTextLemmas.{text-one}
use Rattle.odb_text.proofs.SamePlanLemmas.{plan-one}
use Rattle.odb_text.proofs.laws.one_plan.Goals as goal

pub returns : goal.returns
returns c =
    let reads = c.every_result.ensures.plan in
    record { json = λ batch other few some same. plan-one batch other (same_Some (plan_value batch) (plan_value other) (sym (reads batch few) ∙ ap read same ∙ reads other some)); lines = λ value batch different other. text-one value different batch other }
