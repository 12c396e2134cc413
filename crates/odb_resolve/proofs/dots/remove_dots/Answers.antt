use Rattle.std.proofs.Common.{◌≡◌, ◌==◌, ◌∙◌, length}
use Rattle.odb_resolve.specs.Dots.{take_segment}
use Rattle.odb_resolve.proofs.TextLemmas.{taken_last, taken_more}
use Rattle.odb_resolve.proofs.dots.remove_dots.Goals as goal

pub returns-in-empty : goal.returns-in-empty
returns-in-empty c =
    let taken : c.take_segment.new.output.items ≡ take_segment c.segments.output.items c.split_run.result.0.now (length c.split_run.result.1.now == 0) =
    cc (c.in_ok-take_segment.ensures, c.is_empty.ensures) in
    taken_last c.segments.input.now _ _ c.split_run.ensures.front c.split_run.ensures.back _ _ taken c.in-empty.len_below ∙ c.segments.invariant

pub segments-preserved : goal.segments-preserved
segments-preserved c =
    let taken : c.take_segment.new.output.items ≡ take_segment c.segments.output.items c.split_run.result.0.now (length c.split_run.result.1.now == 0) =
    cc (c.in_ok-take_segment.ensures, c.is_empty.ensures) in
    taken_more c.segments.input.now _ _ c.split_run.ensures.front c.split_run.ensures.back _ _ taken c.in-len1-up.len_at_least ∙ c.segments.invariant
