use Rattle.std.proofs.Common.{ℕ, List, Bor, rules}
use Rattle.std.proofs.lemmas.List.Sorted.{answers_always}
use Rattle.odb_doc.specs.SameTexts.{rises_by_length}
use Rattle.odb_doc.proofs.LengthLemmas.{distinct_by_length}
use Rattle.odb_doc.proofs.repeats.are_ascending_by_length.Goals as goal

pub returns : goal.returns
returns c = λ all.
    let rises = λ (x y : Bor (List ℕ)). rises_by_length x.now y.now in
    let answer = c.is_sorted_by.ensures.cases rises (answers_always _ _ _ (λ f a r q k. search rules)) in
    distinct_by_length c.is_sorted_by.result c.args.texts.now all answer
