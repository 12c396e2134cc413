use Rattle.std.proofs.Common.{◌≡◌, ◌<◌, ap, ◌∙◌, subst, length, arith, add-one}
use Rattle.std.specs.Prelude.{max, slice_index, slice_set}
use Rattle.std.proofs.lemmas.Grind.{get_or_default_zero}
use Rattle.odb_doc.specs.batch.Batches.{records}
use Rattle.odb_check.specs.Units.{unit_at, unit_count}
use Rattle.odb_check.proofs.LevelLemmas.{length-levels_below, levels_more, levels_known, row_is}
use Rattle.odb_check.proofs.PlanLemmas.{needs_before}
use Rattle.odb_check.proofs.levels.levels_of.Goals as goal

pub row-requires : goal.row-requires
row-requires c = (row_is (records c.args.tables.now.all.batch.now) c.args.needs.now c.loop-i.i c.requires.needs (omega (arith, c.loop-i-test.true))).0

pub next_level-level-requires-clause-within : goal.next_level-level-requires-clause-within
next_level-level-requires-clause-within c =
    let rs = records c.args.tables.now.all.batch.now in
    let row = (row_is rs c.args.needs.now c.loop-i.i c.requires.needs (omega (arith, c.loop-i-test.true))).1 in
    rw (c.row.ensures.row, row) (levels_known rs (needs_before rs c.requires.good) c.loop-i.i (omega (arith, c.loop-i-test.true)) _ _
    (ap length c.deref.ensures.value ∙ ap length c.loop-i.invariant.levels_are ∙ length-levels_below rs c.loop-i.i) (ap length c.deref-in-loop-i.ensures.value ∙ c.loop-i.invariant.unit_levels_count))

pub loop-i-preserved : goal.loop-i-preserved
loop-i-preserved c =
    let rs = records c.args.tables.now.all.batch.now in
    let unit_levels = c.loop-i.unit_levels.items in
    let unit = c.unit_of-unit.result in
    let row = (row_is rs c.args.needs.now c.loop-i.i c.requires.needs (omega (arith, c.loop-i-test.true))).1 in
    let level = rw (c.deref.ensures.value, c.deref-in-loop-i.ensures.value, c.row.ensures.row, row) at c.next_level-level.ensures in
    let within : unit < unit_count rs = c.unit_of-unit.ensures.within in
    let read : c.index.result.now ≡ slice_index unit_levels unit = c.index.ensures ∙ get_or_default_zero unit_levels unit c.index.result.now (omega (arith, c.loop-i.invariant.unit_levels_count)) in
    let set : slice_set unit_levels unit c.max.result ≡ slice_set unit_levels (unit_at rs c.loop-i.i) (max (slice_index unit_levels (unit_at rs c.loop-i.i)) c.next_level-level.result) =
    rw (c.max.ensures, read, c.unit_of-unit.ensures.value) in
    rw add-one (levels_more rs c.loop-i.i c.next_level-level.result c.loop-i.invariant (subst (λ u. u < unit_count rs) c.unit_of-unit.ensures.value within) level c.in_ok-push.ensures.items set)
