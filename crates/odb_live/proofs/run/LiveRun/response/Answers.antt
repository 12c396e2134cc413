-- What is written of a live run.
use Rattle.std.proofs.Common.{◌≡◌, ◌∙◌, ◌++◌, ◌∷◌, [], Err, Some, string_bytes, true, inr, refl, sym, ap, subst, arith}
use Rattle.std.proofs.lemmas.Option.{same_Some}
use Rattle.odb_check.specs.Texts.{newline}
use Rattle.serde_json.specs.Read.{read}
use Rattle.odb_reply.specs.BodyTexts.{value_with}
use Rattle.odb_reply.specs.Readable.{HasShallowValues}
use Rattle.odb_sched.specs.run.Answers.{answer}
use Rattle.odb_sched.specs.run.Steps.{is_finished}
use Rattle.odb_engine.specs.declared.ending.Ended.TheVariants.{Done}
use Rattle.odb_engine.specs.Halts.{Found}
use Rattle.odb_live.specs.Live.{IsLeastOfLive, Live, Shows}
use Rattle.odb_live.specs.Live.IsLeastOfLive.{OfEnd}
use Rattle.odb_live.specs.LiveRuns.{live_of}
use Rattle.odb_engine.proofs.EngineLemmas.{at-exit, halted-by}
use Rattle.odb_live.proofs.LiveLemmas.{not-whole, refused}
use Rattle.odb_live.proofs.run.LiveRun.response.Goals as goal

pub returns-then-not-is_finished-clause-found : goal.returns-then-not-is_finished-clause-found
returns-then-not-is_finished-clause-found c =
    let live = live_of c.self.inside in
    let finished = sym c.if-not-is_finished.ensures.value in
    λ form. subst (λ (live : Live). Found (Shows live) form (Err c.from.result)) c.self.view_is
    (refused live form c.from.result (halted-by (IsLeastOfLive live) _ (λ refusal row. OfEnd finished (same_Some _ _ (sym row))) c.from.result c.from.ensures))

pub returns-in_err-text-clause-found : goal.returns-in_err-text-clause-found
returns-in_err-text-clause-found c =
    let live = live_of c.self.inside in
    let finished : is_finished live.run ≡ true = sym c.if-not-is_finished.ensures.value in
    let not_whole = rw c.deref.ensures.value at c.in_err-text.ensures.not_whole in
    λ form. subst (λ (live : Live). Found (Shows live) form c.from_residual.result) c.self.view_is (at-exit (Found (Shows live) form) _ _ c.from_residual.ensures.1
    (λ halt by. refused live form halt (halted-by (IsLeastOfLive live) _ (not-whole live finished c.in_err-text.field-0.0 (λ at same. (not_whole at).0 (ap Err same))) halt by)))

pub returns-clause-found : goal.returns-clause-found
returns-clause-found c =
    let text = rw c.deref.ensures.value at c.in_ok-text.ensures.text in
    let line = c.in_ok-push.ensures.bytes ∙ ap (λ bs. string_bytes c.in_ok-text.text ++ bs) (c.in_ok-push.ensures.ascii (omega arith)) ∙ ap (λ bs. bs ++ newline ∷ []) text in
    λ form. subst (λ (live : Live). Shows live form Done (string_bytes c.push.new.self)) c.self.view_is (inr (sym c.if-not-is_finished.ensures.value, (refl, line)))

pub returns-clause-reads_back : goal.returns-clause-reads_back
returns-clause-reads_back c =
    let reads = rw c.deref.ensures.value at c.in_ok-text.ensures.line in
    let line = c.in_ok-push.ensures.bytes ∙ ap (λ bs. string_bytes c.in_ok-text.text ++ bs) (c.in_ok-push.ensures.ascii (omega arith)) in
    subst (λ (live : Live). HasShallowValues live.texts live.run → read (string_bytes c.push.new.self) ≡ Some (value_with live.labels live.texts (answer live.run))) c.self.view_is
    (λ shallow. ap read line ∙ reads shallow)
