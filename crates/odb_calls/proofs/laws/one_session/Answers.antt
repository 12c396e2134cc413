-- The documents open one run, and each call that is taken leaves runs alike.
use Rattle.std.proofs.Common.{◌≡◌, ◌∙◌, ◌++◌, ◌∷◌, [], ℕ, List, Option, inl, inr, ap, sym}
use Rattle.odb_check.specs.Texts.{newline}
use Rattle.odb_sched.specs.run.Answers.{answer}
use Rattle.odb_sched.specs.run.State.{State}
use Rattle.odb_reply.specs.BodyTexts.{text_with}
use Rattle.odb_reply.specs.Responses.{LabelValue}
use Rattle.odb_engine.specs.declared.ending.Ended.TheVariants.{Done}
use Rattle.odb_engine.specs.declared.form.Form.{Form}
use Rattle.odb_live.specs.Live.{Live, Shows}
use Rattle.odb_calls.proofs.AlikeLemmas.{alike_same, sessions_alike}
use Rattle.odb_calls.proofs.laws.one_session.Goals as goal

-- the text of a response is that of the ids, of the texts and of the run
done_text : (live : Live) (form : Form) (text : List ℕ) → Shows live form Done text → text ≡ text_with live.labels live.texts (answer live.run) ++ newline ∷ []
done_text live form text (inl x) = absurd (cc (x.ends))
done_text live form text (inr x) = x.1.1

pub returns : goal.returns
returns c = record {
  alike = λ policy batch events first other last final calls others opens also session more same.
      sessions_alike c.one_record.ensures.outcomes first other last final calls others (alike_same first other (c.one_live_run.ensures.opening policy batch events first other opens also)) session more same;
  text = λ live other form text different alike shows also.
      done_text live form text shows.shows
      ∙ ap (λ (labels : List LabelValue). text_with labels live.texts (answer live.run) ++ newline ∷ []) alike.labels
      ∙ ap (λ (texts : List (Option (List ℕ))). text_with other.labels texts (answer live.run) ++ newline ∷ []) alike.texts
      ∙ ap (λ (run : State). text_with other.labels other.texts (answer run) ++ newline ∷ []) alike.run
      ∙ sym (done_text other form different also.shows);
}
