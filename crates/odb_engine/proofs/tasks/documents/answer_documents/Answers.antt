use Rattle.std.proofs.Common.{◌⊎◌, IfOk, subst}
use Rattle.odb_engine.specs.AllFaults.{Lists}
use Rattle.odb_engine.specs.Contents.{AreFaultsOfContent, OfBatch}
use Rattle.odb_engine.specs.Located.{LocatesContents, OfContents}
use Rattle.odb_engine.proofs.AllFaultLemmas.{ends-answered}
use Rattle.odb_engine.proofs.SourceLemmas.{lists-given, some-weaker}
use Rattle.odb_engine.proofs.tasks.documents.answer_documents.Goals as goal

pub returns-clause-plain : goal.returns-clause-plain
returns-clause-plain g c = λ plain.
    let form = c.args.setup.form in
    let names = c.args.names in
    let given = g.S.Source.given c.args.second.now in
    let all = g.C.Command.lists_all c.args.command in
    let place = g.C.Command.second_place c.args.command in
    let writes = g.C.Command.writes c.args.command in
    let found = c.answer_of-found.result in
    let failed = g.R.Source.has_failed c.answer_of-found.new.first ⊎ g.S.Source.has_failed c.answer_of-found.new.second in
    some-weaker (g.R.Source.given c.args.first.now) _ _
    (λ content is. (
      ends-answered g.W.Write.contents (Lists all (OfBatch place writes given content) (AreFaultsOfContent content) form) failed c.args.output.now c.end.new.output found c.end.result
          (lists-given all place writes content (AreFaultsOfContent content) form given found
          (some-weaker given _ _ (λ other so. subst (λ located. IfOk found (λ answer. OfContents located all place writes names.batch.now content names.second.now other form answer.ended answer.text.items)) plain so) is.0))
          c.answer_of-found.ensures.read c.end.ensures.ends,
      is.1,
    ))
    c.answer_of-found.ensures.found

pub returns-clause-located : goal.returns-clause-located
returns-clause-located g c = λ located.
    let form = c.args.setup.form in
    let names = c.args.names in
    let given = g.S.Source.given c.args.second.now in
    let all = g.C.Command.lists_all c.args.command in
    let place = g.C.Command.second_place c.args.command in
    let writes = g.C.Command.writes c.args.command in
    let found = c.answer_of-found.result in
    let failed = g.R.Source.has_failed c.answer_of-found.new.first ⊎ g.S.Source.has_failed c.answer_of-found.new.second in
    some-weaker (g.R.Source.given c.args.first.now) _ _
    (λ content is. (
      some-weaker given _ _
          (λ other so. ends-answered g.W.Write.contents (LocatesContents all place writes names.batch.now content names.second.now other form) failed c.args.output.now c.end.new.output found c.end.result
          (subst (λ located. IfOk found (λ answer. OfContents located all place writes names.batch.now content names.second.now other form answer.ended answer.text.items)) located so) c.answer_of-found.ensures.read c.end.ensures.ends) is.0,
      is.1,
    ))
    c.answer_of-found.ensures.found
