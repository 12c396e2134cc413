use Rattle.std.proofs.Common.{◌≡◌, ◌∙◌, ap, length, subst, sym, List}
use Rattle.std.proofs.lemmas.List.{length-map}
use Rattle.odb_doc.proofs.SafeLemmas.{IsSafe}
use Rattle.odb_sched.specs.run.Answers.{answer}
use Rattle.odb_sched.specs.run.State.{size, with_requests}
use Rattle.odb_reply.specs.Fits.{ListsFit}
use Rattle.odb_reply.specs.OnePerId.{HasOnePerId}
use Rattle.odb_reply.specs.Readable.{AnswersBy, IsReadable}
use Rattle.odb_reply.specs.Responses.{LabelValue, label_of, text_of, value_of}
use Rattle.odb_reply.proofs.AnsweredLemmas.{ListsFit-answered, IsResponseDocument-answered}
use Rattle.odb_reply.proofs.IdLemmas.{one_position}
use Rattle.odb_reply.proofs.OneLemmas.{one_per_id}
use Rattle.odb_reply.proofs.ReadableLemmas.{safe-value}
use Rattle.odb_reply.proofs.laws.every_labeled.Goals as goal

pub returns : goal.returns
unfolding text_of
returns g c =
    let run = c.args.run.now in
    let labels = g.L.Labels.labels c.args.labels.now in
    let safe : AnswersBy IsReadable run → IsSafe 127 (value_of labels (answer run)) = safe-value labels run (sym c.requires.labels) c.laws.ensures.answered in
    record {
      one_per_id = λ batch same positions. subst (λ (all : List LabelValue). HasOnePerId batch (value_of all (answer run))) same (one_per_id batch (answer run) (one_position batch positions));
      fits = λ batch same positions graph.
          let count : size run ≡ length batch = sym c.requires.labels ∙ ap length (sym same) ∙ length-map batch label_of in
          subst (λ (all : List LabelValue). ListsFit batch (value_of all (answer run))) same (ListsFit-answered (with_requests batch run) (one_position batch positions) c.laws.ensures.rests_on_successes graph count);
      document = IsResponseDocument-answered labels (answer run) c.laws.ensures.answered;
      reads_back = λ readable. let value = safe readable in c.every_value.ensures.reads_back (value_of labels (answer run)) value.held value.whole value.shallow;
      line = λ readable. let value = safe readable in c.every_value.ensures.line (value_of labels (answer run)) value.held value.whole value.shallow;
    }
