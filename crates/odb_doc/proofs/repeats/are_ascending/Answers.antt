use Rattle.std.proofs.Common.{ℕ, List, Bor, rules}
use Rattle.std.specs.Cmp.Lexicographic.{slice_cmp}
use Rattle.std.specs.Ordering.{is_lt, nat_cmp}
use Rattle.std.proofs.lemmas.List.Sorted.{answers_always}
use Rattle.odb_doc.proofs.RepeatLemmas.{distinct_from_rising}
use Rattle.odb_doc.proofs.repeats.are_ascending.Goals as goal

pub returns : goal.returns
returns c = λ all.
    let rises = λ (x y : Bor (List ℕ)). is_lt (slice_cmp nat_cmp x.now y.now) in
    let answer = c.is_sorted_by.ensures.cases rises (answers_always _ _ _ (λ f a r q k. search rules)) in
    distinct_from_rising c.is_sorted_by.result c.args.texts.now all answer
