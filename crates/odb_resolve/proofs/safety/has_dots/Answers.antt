use Rattle.std.proofs.Common.{sym, ◌∙◌}
use Rattle.odb_resolve.proofs.TextLemmas.{dots_first, dots_last, dots_more}
use Rattle.odb_resolve.proofs.safety.has_dots.Goals as goal

pub returns-then-is_dots : goal.returns-then-is_dots
returns-then-is_dots c =
    sym (dots_first c.segments.rest.now _ _ c.split_run.ensures.front c.split_run.ensures.back (sym c.is_dots.ensures ∙ c.if-is_dots.true)) ∙ c.segments.invariant

pub returns-in-empty : goal.returns-in-empty
returns-in-empty c =
    sym (dots_last c.segments.rest.now _ _ c.split_run.ensures.front c.split_run.ensures.back (sym c.is_dots.ensures ∙ c.if-is_dots.false) c.in-empty.len_below) ∙ c.segments.invariant

pub segments-preserved : goal.segments-preserved
segments-preserved c =
    dots_more c.segments.rest.now _ _ c.split_run.ensures.front c.split_run.ensures.back (sym c.is_dots.ensures ∙ c.if-is_dots.false) c.in-len1-up.len_at_least ∙ c.segments.invariant
