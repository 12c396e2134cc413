use Rattle.std.proofs.Common.{◌≡◌, ◌+◌, ℕ, ap, sym, ◌∙◌, take, get_or}
use Rattle.std.specs.Prelude.{slice_index, max}
use Rattle.std.proofs.lemmas.List.{take_more}
use Rattle.odb_check.specs.declared.need.Need.{Need}
use Rattle.odb_check.specs.declared.need.Need.TheVariants.{One}
use Rattle.odb_check.specs.Levels.{level_needed, next_level, greatest_of}
use Rattle.odb_check.proofs.LevelLemmas.{greatest_of-append}
use Rattle.odb_check.proofs.levels.next_level.Goals as goal

pub loop-need-preserved : goal.loop-need-preserved
loop-need-preserved c =
    let value : Need → ℕ = λ need. level_needed (slice_index c.args.levels.now) (slice_index c.args.unit_levels.now) need + 1 in
    let here = get_or c.args.needs.now c.loop-need.need-index (One 0) in
    let before = take c.loop-need.need-index c.args.needs.now in
    let more : next_level (slice_index c.args.levels.now) (slice_index c.args.unit_levels.now) (take (c.loop-need.need-index + 1) c.args.needs.now) ≡ max (greatest_of value before) (value here) =
    ap (greatest_of value) (take_more c.args.needs.now c.loop-need.need-index (One 0) c.loop-need-test.true) ∙ greatest_of-append value before here in
    c.max-level.ensures ∙ ap (λ l. max l (c.level_needed.result + 1)) c.loop-need.invariant ∙ ap (λ l. max (greatest_of value before) (l + 1)) c.level_needed.ensures ∙ sym more
