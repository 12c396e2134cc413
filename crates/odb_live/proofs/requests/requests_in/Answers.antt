-- What is to be sent of the batch in a document.
use Rattle.std.proofs.Common.{inl, inr}
use Rattle.std.proofs.lemmas.Result.{IfErr-weaker}
use Rattle.odb_engine.specs.Cascade.{IsLeast}
use Rattle.odb_engine.specs.Halts.{Halted}
use Rattle.odb_live.specs.Planned.{IsLeastOfMaking}
use Rattle.odb_engine.proofs.EngineLemmas.{Halted-weaker}
use Rattle.odb_live.proofs.requests.requests_in.Goals as goal

pub returns-clause-least : goal.returns-clause-least
returns-clause-least c =
    let bytes = c.args.batch.now in
    let by = IsLeastOfMaking bytes (λ _ _. ⊥) in
    IfErr-weaker c.made_of.result (Halted by) (Halted (IsLeast bytes)) (Halted-weaker by (IsLeast bytes) (λ refusal is. elim is [ inl least ↦ least | inr x ↦ absurd x.holds.holds.1 ])) c.made_of.ensures.least
