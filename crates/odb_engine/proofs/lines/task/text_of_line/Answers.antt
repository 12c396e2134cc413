use Rattle.std.proofs.Common.{◌≡◌, ◌∙◌, IfSome, List, true, false, sym, subst, rules, ℕ}
use Rattle.serde_json.specs.Data.{Data}
use Rattle.odb_doc.specs.Documents.{IsJson}
use Rattle.std.proofs.lemmas.Bool.{true≢false}
use Rattle.odb_engine.specs.Halts.{Found}
use Rattle.odb_engine.specs.Tasks.{InLine, OfTask, takes_bytes, takes_second}
use Rattle.odb_engine.proofs.PairLawLemmas.{second-alone}
use Rattle.odb_engine.proofs.lines.task.text_of_line.Goals as goal

pub returns-then-takes_second-clause-found : goal.returns-then-takes_second-clause-found
returns-then-takes_second-clause-found c =
    let two : takes_second c.args.task ≡ true = search rules in
    subst (λ two. Found (InLine two (takes_bytes c.args.task) (OfTask c.args.task) c.args.line.now) c.args.setup.form c.text_of_pair.result) (sym two) c.text_of_pair.ensures.found

pub returns-clause-found : goal.returns-clause-found
returns-clause-found c =
    let one : takes_second c.args.task ≡ false = search rules in
    subst (λ two. Found (InLine two (takes_bytes c.args.task) (OfTask c.args.task) c.args.line.now) c.args.setup.form c.text_of-found.result) (sym one) c.text_of-found.ensures.found.0.0

pub returns-then-takes_second-clause-listed : goal.returns-then-takes_second-clause-listed
returns-then-takes_second-clause-listed c lists =
    let two : takes_second c.args.task ≡ true = search rules in
    absurd (true≢false (sym lists ∙ second-alone c.args.task two))

pub returns-clause-listed : goal.returns-clause-listed
returns-clause-listed c = c.text_of-found.ensures.found.1.0

pub returns-clause-error : goal.returns-clause-error
returns-clause-error c = subst (λ (bytes : List ℕ). IfSome c.text_of-found.new.first_kept.error (λ _. (d : Data) → ¬ IsJson bytes d)) c.text_of-found.ensures.first c.text_of-found.ensures.first_error
