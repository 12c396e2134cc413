use Rattle.std.proofs.Common.{◌≡◌, ◌∙◌, ap, inl, refl, sym}
use Rattle.odb_sched.specs.run.Steps.{is_finished}
use Rattle.odb_engine.specs.declared.ending.Ended.TheVariants.{Done, Refused}
use Rattle.odb_engine.specs.declared.form.Form.TheVariants.{Lines}
use Rattle.odb_live.specs.Live.IsLeastOfLive.{OfEnd}
use Rattle.odb_calls.specs.Live.{Responds}
use Rattle.odb_calls.specs.Returns.Returns.{Given}
use Rattle.odb_calls.proofs.ReturnLemmas.{returned}
use Rattle.odb_calls.proofs.live.give_response.Goals as goal

refused-done : Refused ≡ Done → ⊥
refused-done same = cc (same)

pub returns-then-is_finished-clause-text : goal.returns-then-is_finished-clause-text
returns-then-is_finished-clause-text c = returned (Responds c.args.live.now Lines) c.response.result c.give.result c.give.new.text_length c.args.text.now c.give.new.buffer c.response.ensures c.give.ensures.ok c.give.ensures.err

pub returns-else-is_finished-clause-text : goal.returns-else-is_finished-clause-text
returns-else-is_finished-clause-text c =
    Given Refused _ (record { shows = inl (record { refusal = _; is = OfEnd (ap is_finished (sym c.run.ensures) ∙ sym c.is_finished.ensures.value ∙ c.if-is_finished.false) refl; ends = refl; prints = refl }); utf8 = λ same. absurd (refused-done same); reads_back = λ same. absurd (refused-done same) }) c.give_text.ensures
