use Rattle.std.proofs.lemmas.Result.{IfOk-weaker}
use Rattle.std.proofs.Common.{refl}
use Rattle.odb_engine.proofs.SourceLemmas.{some-content, some-weaker}
use Rattle.odb_engine.proofs.tasks.command.second_in.Goals as goal

pub returns-in-Some-clause-value : goal.returns-in-Some-clause-value
returns-in-Some-clause-value g c = rw c.in-Some.is (some-weaker (g.S.Source.given c.args.second.now) _ _ (λ other is. ((IfOk-weaker c.read.result _ _ (λ value is. is.0) is.0.0, is.0.1), is.1)) c.read.ensures.value)

pub returns-in-None-clause-value : goal.returns-in-None-clause-value
returns-in-None-clause-value g c = rw c.in-None.is (some-weaker (g.S.Source.given c.args.second.now) _ _ (λ other _. ((refl, tt), λ has asked. tt)) (some-content (g.S.Source.given c.args.second.now)))
