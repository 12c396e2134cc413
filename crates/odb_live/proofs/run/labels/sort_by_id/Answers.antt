use Rattle.std.proofs.Common.{rules, is_lt, nat_cmp}
use Rattle.std.specs.Cmp.Lexicographic.{slice_cmp}
use Rattle.std.proofs.lemmas.Cmp.{nat_list_cmp_total}
use Rattle.std.proofs.lemmas.Fn.{always_returns_same}
use Rattle.std.proofs.lemmas.List.Sorted.{ranks_by}
use Rattle.std.proofs.lemmas.Result.{on_ok_weaker}
use Rattle.odb_live.specs.LabelTables.{id_or_empty}
use Rattle.odb_live.proofs.run.labels.sort_by_id.Goals as goal

pub returns-clause-sorted : goal.returns-clause-sorted
returns-clause-sorted c =
    let key = id_or_empty c.args.labels.now in
    on_ok_weaker c.sort_by.result (λ sorted. sorted (λ i j. is_lt (slice_cmp nat_cmp (key i) (key j))) (ranks_by nat_list_cmp_total key) (always_returns_same _ _ _ (λ a r f k. search rules))) c.sort_by.ensures.sorted
