-- A live run that is opened.
use Rattle.std.proofs.Common.{◌∙◌, ℕ, Bool, false, List, Option, None, ap, length, replicate, subst, sym}
use Rattle.std.proofs.lemmas.List.{length-map, length-replicate}
use Rattle.odb_check.specs.PlanGraph.{PlanGraph}
use Rattle.odb_check.specs.Plans.{plan_records}
use Rattle.odb_reply.specs.BodyTexts.{HasNoText}
use Rattle.odb_reply.specs.Responses.{LabelValue, label_of}
use Rattle.odb_live.proofs.LiveLemmas.{no-text}
use Rattle.odb_live.proofs.run.open_on.Goals as goal

pub invariant_of-result : goal.invariant_of-result
invariant_of-result c =
    let batch = plan_records c.args.plan.now in
    let graph = c.in_ok-run.ensures.plan_graph in
    let size = c.len.ensures.size ∙ ap (λ (g : PlanGraph). length g.units) (sym graph) in
    record {
      batch = batch;
      good = c.every_plan.ensures.good;
      labels = c.in_ok-labels.ensures;
      plan_graph = graph;
      each = ap (λ (ls : List LabelValue). length ls) c.in_ok-labels.ensures ∙ length-map batch label_of ∙ sym c.len.ensures.count ∙ size;
      places = ap (λ (texts : List (Option (List ℕ))). length texts) c.in_ok-texts.ensures ∙ length-replicate c.len.result None ∙ size;
      marks = ap (λ (out : List Bool). length out) (c.in_ok-out.ensures.items_if_clones_equal (λ y same. same)) ∙ length-replicate c.len-2.result false ∙ c.len-2.ensures.size ∙ ap (λ (g : PlanGraph). length g.units) (sym graph);
    }

pub returns-clause-run : goal.returns-clause-run
returns-clause-run c = record {
  labels = c.in_ok-labels.ensures;
  texts = subst HasNoText (sym c.in_ok-texts.ensures) (no-text c.len.result);
  places = ap (λ (texts : List (Option (List ℕ))). length texts) c.in_ok-texts.ensures ∙ length-replicate c.len.result None ∙ c.len.ensures.count;
  out = c.in_ok-out.ensures.items_if_clones_equal (λ y same. same) ∙ ap (λ n. replicate n false) c.len-2.ensures.count;
  after = c.in_ok-run.ensures.run;
}
