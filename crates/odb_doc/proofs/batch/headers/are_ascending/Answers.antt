use Rattle.std.proofs.Common.{rules}
use Rattle.std.specs.Ordering.{is_lt}
use Rattle.std.proofs.lemmas.List.Sorted.{answers_always}
use Rattle.odb_doc.specs.HeaderMaps.{Lent, by_name}
use Rattle.odb_doc.proofs.LentLemmas.{ordered_from_rising, unordered_from_falling}
use Rattle.odb_doc.proofs.batch.headers.are_ascending.Goals as goal

pub returns-clause-ordered : goal.returns-clause-ordered
returns-clause-ordered c = λ all.
    let rises = λ (x y : Lent). is_lt (by_name x y) in
    ordered_from_rising c.is_sorted_by.result c.args.headers.now all (c.is_sorted_by.ensures.cases rises (answers_always _ _ _ (λ f a r q k. search rules)))

pub returns-clause-some : goal.returns-clause-some
returns-clause-some c = λ none.
    let rises = λ (x y : Lent). is_lt (by_name x y) in
    unordered_from_falling c.is_sorted_by.result c.args.headers.now none (c.is_sorted_by.ensures.cases rises (answers_always _ _ _ (λ f a r q k. search rules)))
