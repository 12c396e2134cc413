use Rattle.std.proofs.Common.{◌≡◌, ◌∙◌, ap, subst, sym}
use Rattle.std.proofs.lemmas.Option.{same_Some}
use Rattle.serde_json.specs.Data.{Data}
use Rattle.serde_json.specs.Read.{read}
use Rattle.serde_json.specs.View.{view}
use Rattle.odb_doc.specs.batch.LeastFault.{IsWellShaped}
use Rattle.odb_doc.specs.batch.Records.{IsBatchOf}
use Rattle.odb_tests_text.proofs.laws.rests.refuses_text.Goals as goal

pub returns-in-Ok : goal.returns-in-Ok
returns-in-Ok c = λ batch is good.
    let reads = ap read c.as_bytes.ensures.value ∙ is.reads in
    let same : is.value ≡ view c.in-Ok.value = same_Some is.value (view c.in-Ok.value) (sym reads ∙ c.in-Ok.ensures.ok.1.1) in
    c.refuses_value.ensures batch (subst IsWellShaped same is.shaped) (subst (λ (d : Data). IsBatchOf d batch) same is.says) good
