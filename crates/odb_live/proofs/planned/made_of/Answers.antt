-- From the bytes of a batch document to what is made of its plan.
use Rattle.std.proofs.Common.{IfErr, inl, inr}
use Rattle.std.proofs.lemmas.Result.{IfErr-weaker, IfOk-weaker}
use Rattle.serde_json.specs.View.{view}
use Rattle.odb_doc.specs.declared.fault.Place.TheVariants.{Batch}
use Rattle.odb_doc.specs.batch.Batches.{records}
use Rattle.odb_check.specs.Plans.{plan_records}
use Rattle.odb_engine.specs.Cascade.{RefusesBytes}
use Rattle.odb_engine.specs.Halts.{Halted}
use Rattle.odb_live.specs.Planned.{IsLeastOfMaking}
use Rattle.odb_engine.proofs.EngineLemmas.{accepted-value, at-exit, exit-error, halted-by, Halted-weaker}
use Rattle.odb_live.proofs.PlannedLemmas.{accepted, in-document, least-names, least-shape}
use Rattle.odb_live.proofs.planned.made_of.Goals as goal

pub returns-in_err-value-clause-least : goal.returns-in_err-value-clause-least
returns-in_err-value-clause-least g c =
    let bytes = c.args.document.now in
    let least = IsLeastOfMaking bytes (g.M.OfPlan.refuses c.args.maker.now) in
    exit-error (λ r. IfErr r (Halted least)) _ _ c.from_residual.ensures.1
    (Halted-weaker (RefusesBytes Batch bytes) least (λ refusal is. inl (inl is)) _ c.in_err-value.ensures.fault)

pub returns-in_err-read-clause-least : goal.returns-in_err-read-clause-least
returns-in_err-read-clause-least g c =
    let bytes = c.args.document.now in
    let least = IsLeastOfMaking bytes (g.M.OfPlan.refuses c.args.maker.now) in
    let fault = c.in_err-read.field-0.0 in
    at-exit (λ r. IfErr r (Halted least)) _ _ c.from_residual-in_err-read.ensures.1
    (halted-by least _ (λ refusal row. inl (least-shape bytes fault _ c.in_ok-value.ensures.value c.in_err-read.ensures.least refusal row)))

pub returns-in_err-plan-clause-least : goal.returns-in_err-plan-clause-least
returns-in_err-plan-clause-least g c =
    let bytes = c.args.document.now in
    let least = IsLeastOfMaking bytes (g.M.OfPlan.refuses c.args.maker.now) in
    let batch = records c.in_ok-read.read in
    let fault = c.in_err-plan.field-0.0 in
    at-exit (λ r. IfErr r (Halted least)) _ _ c.from_residual-in_err-plan.ensures.1
    (halted-by least _ (λ refusal row. inl (least-names bytes _ batch c.in_ok-value.ensures.value c.in_ok-read.ensures.good c.in_ok-read.ensures.records refusal (record { fault = fault; refuses = c.in_err-plan.ensures.least; is = row }))))

pub made-requires-clause-document : goal.made-requires-clause-document
made-requires-clause-document g c =
    (_, in-document c.args.document.now _ (records c.in_ok-read.read) (plan_records c.in_ok-plan.plan) c.in_ok-value.ensures.value c.in_ok-read.ensures.records c.in_ok-plan.ensures.plan)

pub returns-clause-made : goal.returns-clause-made
returns-clause-made g c =
    let bytes = c.args.document.now in
    let value = view c.in_ok-value.value in
    let batch = records c.in_ok-read.read in
    let planned = plan_records c.in_ok-plan.plan in
    let here = in-document bytes value batch planned c.in_ok-value.ensures.value c.in_ok-read.ensures.records c.in_ok-plan.ensures.plan in
    IfOk-weaker c.made.result _ _
    (λ made makes. record {
      value = value;
      document = c.in_ok-value.ensures.value;
      holds = accepted-value value batch planned (λ rs. g.M.OfPlan.makes c.args.maker.now bytes value rs made) c.in_ok-read.ensures.good c.in_ok-read.ensures.records c.in_ok-plan.ensures.good c.in_ok-plan.ensures.plan (makes value here);
    })
    c.made.ensures.made

pub returns-clause-least : goal.returns-clause-least
returns-clause-least g c =
    let bytes = c.args.document.now in
    let planned = plan_records c.in_ok-plan.plan in
    let refuses = g.M.OfPlan.refuses c.args.maker.now in
    IfErr-weaker c.made.result (Halted (refuses planned)) (Halted (IsLeastOfMaking bytes refuses))
    (Halted-weaker (refuses planned) (IsLeastOfMaking bytes refuses) (λ refusal is. inr (accepted bytes _ (records c.in_ok-read.read) planned (λ rs. refuses rs refusal)
    c.in_ok-value.ensures.value c.in_ok-read.ensures.good c.in_ok-read.ensures.records c.in_ok-plan.ensures.good c.in_ok-plan.ensures.plan is))) c.made.ensures.least
