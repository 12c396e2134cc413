use Rattle.std.proofs.Common.{◌≡◌, ◌∙◌, IfSome, List, ap, is_some, map, subst, sym, true, ℕ}
use Rattle.serde_json.specs.Data.{Data}
use Rattle.odb_doc.specs.Documents.{IsJson}
use Rattle.odb_doc.specs.Refusals.{printed}
use Rattle.odb_engine.proofs.LocatedLemmas.{contents-in}
use Rattle.odb_engine.proofs.SourceLemmas.{some-weaker}
use Rattle.odb_engine.proofs.tasks.documents.answer_of.Goals as goal

pub text_of-found-requires-clause-bytes : goal.text_of-found-requires-clause-bytes
text_of-found-requires-clause-bytes g c = λ takes. c.new-first_kept.ensures.asked ∙ c.is_kept.ensures.taken (c.takes_bytes.ensures ∙ takes)

pub print_found-requires-clause-batch : goal.print_found-requires-clause-batch
print_found-requires-clause-batch g c = subst (λ (bytes : List ℕ). IfSome c.text_of-found.new.first_kept.error (λ _. (d : Data) → ¬ IsJson bytes d)) (sym c.bytes.ensures) c.text_of-found.ensures.first_error

pub print_found-requires-clause-second : goal.print_found-requires-clause-second
print_found-requires-clause-second g c = subst (λ (bytes : List ℕ). IfSome c.text_of-found.new.second_kept.error (λ _. (d : Data) → ¬ IsJson bytes d)) (sym c.bytes-2.ensures) c.text_of-found.ensures.second_error

pub returns-clause-found : goal.returns-clause-found
returns-clause-found g c =
    let names = c.args.names in
    let place = g.C.Command.second_place c.args.command in
    let two = c.is_some-two.ensures ∙ ap is_some c.second_place.ensures in
    let asked_first = λ (located : c.args.setup.faults.located ≡ true). c.new-first_kept.ensures.asked ∙ c.is_kept.ensures.located located in
    let asked_second = λ (located : c.args.setup.faults.located ≡ true). c.new-second_kept.ensures.asked ∙ located in
    let prints = rw (c.lists_all-all.ensures, two, c.deref.ensures.value, c.bytes.ensures, c.bytes-2.ensures) at c.print_found.ensures.prints in
    some-weaker (g.R.Source.given c.args.first.now) _ _
    (λ content (some, (listed, asked)). (
      some-weaker (g.S.Source.given c.args.second.now) _ _
          (λ other so. contents-in c.args.setup.faults.located (g.C.Command.lists_all c.args.command) place (g.C.Command.writes c.args.command) c.args.setup.form names.batch.now content _ names.second.now other _ (map printed c.text_of-found.new.faults.items) c.text_of-found.result c.print_found.result so.0 listed
          (λ located. so.1 (g.met.S.Document.has c.args.second.now) (asked_first located) (asked_second located)) prints) some,
      asked,
    ))
    c.text_of-found.ensures.found
