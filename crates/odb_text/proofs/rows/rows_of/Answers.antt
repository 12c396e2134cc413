use Rattle.std.proofs.Common.{◌≡◌, ◌∙◌, ◌<◌, ◌≤◌, length, sym, ap, subst, arith}
use Rattle.std.proofs.lemmas.List.{length-set}
use Rattle.std.proofs.lemmas.Option.{get_or_from_slice_get}
use Rattle.odb_check.specs.Plans.{plan_records}
use Rattle.odb_text.specs.declared.rows.Row.{Row}
use Rattle.odb_text.specs.Rows.{last_row, next_row}
use Rattle.odb_text.proofs.RowLemmas.{ends_next, level_within, row_few, rows_next}
use Rattle.odb_text.proofs.rows.rows_of.Goals as goal

pub index-requires : goal.index-requires
index-requires c =
    let rs = plan_records c.args.plan.now in
    let within : c.loop-i.i < length rs = omega (arith, c.loop-i-test.true, c.len-i-end.ensures.count) in
    let level = level_within rs c.loop-i.i c.args.greatest c.level-level.result (length c.loop-i.of_levels.items) within c.requires c.level-level.ensures c.loop-i.invariant.levels in
    omega (arith, level, c.loop-i.of_levels.ok)

pub next_row-row-requires-clause-number : goal.next_row-row-requires-clause-number
next_row-row-requires-clause-number c =
    let rs = plan_records c.args.plan.now in
    let level = c.level-level.result in
    let within : c.loop-i.i < length rs = omega (arith, c.loop-i-test.true, c.len-i-end.ensures.count) in
    let inside = level_within rs c.loop-i.i c.args.greatest level (length c.loop-i.of_levels.items) within c.requires c.level-level.ensures c.loop-i.invariant.levels in
    let row : c.index.result.now ≡ last_row rs level c.loop-i.i = c.index.ensures ∙ get_or_from_slice_get c.loop-i.of_levels.items level (last_row rs level c.loop-i.i) c.index.result.now (c.loop-i.invariant.ends level inside) in
    subst (λ (r : Row). r.number ≤ 10000) (sym row) (omega (arith, (row_few rs level c.loop-i.i).0, c.loop-i-test.true, c.len-i-end.ensures.small))

pub next_row-row-requires-clause-used : goal.next_row-row-requires-clause-used
next_row-row-requires-clause-used c =
    let rs = plan_records c.args.plan.now in
    let level = c.level-level.result in
    let within : c.loop-i.i < length rs = omega (arith, c.loop-i-test.true, c.len-i-end.ensures.count) in
    let inside = level_within rs c.loop-i.i c.args.greatest level (length c.loop-i.of_levels.items) within c.requires c.level-level.ensures c.loop-i.invariant.levels in
    let row : c.index.result.now ≡ last_row rs level c.loop-i.i = c.index.ensures ∙ get_or_from_slice_get c.loop-i.of_levels.items level (last_row rs level c.loop-i.i) c.index.result.now (c.loop-i.invariant.ends level inside) in
    subst (λ (r : Row). r.used ≤ 10000) (sym row) (omega (arith, (row_few rs level c.loop-i.i).1, c.loop-i-test.true, c.len-i-end.ensures.small))

pub index_mut-requires : goal.index_mut-requires
index_mut-requires c =
    let rs = plan_records c.args.plan.now in
    let within : c.loop-i.i < length rs = omega (arith, c.loop-i-test.true, c.len-i-end.ensures.count) in
    let level = level_within rs c.loop-i.i c.args.greatest c.level-level.result (length c.loop-i.of_levels.items) within c.requires c.level-level.ensures c.loop-i.invariant.levels in
    omega (arith, level, c.loop-i.of_levels.ok)

pub loop-i-preserved : goal.loop-i-preserved
loop-i-preserved c =
    let rs = plan_records c.args.plan.now in
    let ends = c.loop-i.of_levels.items in
    let level = c.level-level.result in
    let within : c.loop-i.i < length rs = omega (arith, c.loop-i-test.true, c.len-i-end.ensures.count) in
    let inside = level_within rs c.loop-i.i c.args.greatest level (length ends) within c.requires c.level-level.ensures c.loop-i.invariant.levels in
    let row : c.index.result.now ≡ last_row rs level c.loop-i.i = c.index.ensures ∙ get_or_from_slice_get ends level (last_row rs level c.loop-i.i) c.index.result.now (c.loop-i.invariant.ends level inside) in
    let next : c.next_row-row.result ≡ next_row rs c.loop-i.i (last_row rs level c.loop-i.i) = c.next_row-row.ensures ∙ ap (next_row rs c.loop-i.i) row in
    record {
      levels = length-set ends level c.next_row-row.result ∙ c.loop-i.invariant.levels;
      ends = ends_next rs ends c.loop-i.i level c.next_row-row.result c.level-level.ensures inside next c.loop-i.invariant.ends;
      rows = rows_next rs c.loop-i.of_requests.items c.push.new.self.items c.loop-i.i level c.next_row-row.result c.level-level.ensures next c.loop-i.invariant.rows c.in_ok-push.ensures.items;
    }
