use Rattle.std.proofs.Common.{◌≡◌, ◌∙◌, ap, length, subst, sym, List}
use Rattle.std.proofs.lemmas.List.{length-map}
use Rattle.odb_sched.specs.run.Answers.{answer}
use Rattle.odb_sched.specs.run.State.{size, with_requests}
use Rattle.odb_reply.specs.BodyTexts.{value_with, values_of}
use Rattle.odb_reply.specs.Fits.{ListsFit}
use Rattle.odb_reply.specs.OnePerId.{HasOnePerId}
use Rattle.odb_reply.specs.Responses.{LabelValue, label_of}
use Rattle.odb_reply.proofs.AnsweredLemmas.{ListsFit-texted, IsResponseDocument-answered, texted-statuses}
use Rattle.odb_reply.proofs.IdLemmas.{one_position}
use Rattle.odb_reply.proofs.OneLemmas.{one_per_id}
use Rattle.odb_reply.proofs.laws.every_texted.Goals as goal

pub returns : goal.returns
returns g c =
    let run = c.args.run.now in
    let texts = c.args.texts.now in
    let labels = g.L.Labels.labels c.args.labels.now in
    record {
      one_per_id = λ batch same positions. subst (λ (all : List LabelValue). HasOnePerId batch (value_with all texts (answer run))) same (one_per_id batch (values_of texts (answer run)) (one_position batch positions));
      fits = λ batch same positions graph.
          let count : size run ≡ length batch = sym c.requires.labels ∙ ap length (sym same) ∙ length-map batch label_of in
          subst (λ (all : List LabelValue). ListsFit batch (value_with all texts (answer run))) same (ListsFit-texted texts (with_requests batch run) (one_position batch positions) c.laws.ensures.rests_on_successes graph count);
      document = IsResponseDocument-answered labels (values_of texts (answer run)) (texted-statuses texts (answer run) c.laws.ensures.answered);
      statuses = c.laws.ensures.answered;
    }
