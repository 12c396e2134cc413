use Rattle.std.proofs.Common.{rules}
use Rattle.std.specs.Ordering.{is_lt}
use Rattle.std.specs.Str.{str_to_ascii_lowercase}
use Rattle.std.proofs.lemmas.Cmp.{nat_list_cmp_total}
use Rattle.std.proofs.lemmas.List.Sorted.{answers_always, ranks_by}
use Rattle.odb_doc.specs.HeaderMaps.{Lent, by_name}
use Rattle.odb_doc.proofs.batch.headers.sort.Goals as goal

pub returns-clause-sorted : goal.returns-clause-sorted
returns-clause-sorted c =
    c.sort_unstable_by.ensures.sorted (λ (x y : Lent). is_lt (by_name x y)) (ranks_by nat_list_cmp_total (λ (h : Lent). str_to_ascii_lowercase h.written.now))
    (answers_always _ _ _ (λ f a r q k. search rules))
