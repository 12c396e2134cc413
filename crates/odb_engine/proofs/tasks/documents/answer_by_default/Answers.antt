use Rattle.std.proofs.Common.{◌⊎◌, subst}
use Rattle.odb_engine.specs.AllFaults.{Lists}
use Rattle.odb_engine.specs.Contents.{AreFaultsOfContent, Content, OfBatch}
use Rattle.odb_engine.specs.Engines.{Ends}
use Rattle.odb_engine.proofs.SourceLemmas.{some-weaker}
use Rattle.odb_engine.proofs.tasks.documents.answer_by_default.Goals as goal

pub returns-clause-ends : goal.returns-clause-ends
returns-clause-ends g c =
    let command = c.args.command in
    let P = λ (content : Content). Lists (g.C.Command.lists_all command) (OfBatch (g.C.Command.second_place command) (g.C.Command.writes command) (g.S.Source.given c.args.second.now) content) (AreFaultsOfContent content) in
    let failed = g.R.Source.has_failed c.answer_documents.new.first ⊎ g.S.Source.has_failed c.answer_documents.new.second in
    some-weaker (g.R.Source.given c.args.first.now) _ _
    (λ content is. (subst (λ form. Ends g.W.Write.contents (P content form) failed c.args.output.now c.answer_documents.new.output c.answer_documents.result) c.plain.ensures.form is.0, is.1))
    (c.answer_documents.ensures.plain c.plain.ensures.located)
