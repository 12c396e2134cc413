use Rattle.std.proofs.Common.{string_bytes, sym, subst}
use Rattle.std.proofs.lemmas.Option.{IfSome_then}
use Rattle.odb_engine.specs.Contents.Given.{InMemory}
use Rattle.odb_engine.specs.Tasks.{IsLineOf, OfDocuments}
use Rattle.odb_testing.proofs.ReadingLemmas.{one_of}
use Rattle.odb_tests_tasks.proofs.laws.pairs.of_line_and_of_both.Goals as goal

pub returns : goal.returns
returns c =
    let task = c.args.task in
    let form = c.args.form in
    let line = c.args.line.now in
    let batch = c.as_bytes.result.now in
    let second = c.as_bytes-2.result.now in
    let apart = subst (λ b. IsLineOf b (string_bytes c.in-Some.second) line) (sym c.as_bytes.ensures.value) c.in-Some.ensures in
    let pair = subst (λ s. IsLineOf batch s line) (sym c.as_bytes-2.ensures.value) apart in
    let of_line = IfSome_then c.line_answered.result c.line_answered.ensures (λ it. (c.every_pair.ensures.memory task form batch second line it.1.items it.0 c.requires.second c.requires.bytes pair).0) in
    one_of (λ it. it.0) (λ it. it.1.items) (OfDocuments task (InMemory second) batch form) (c.one_text.ensures.memory task form batch second) c.line_answered.result c.answered.result of_line c.answered.ensures
