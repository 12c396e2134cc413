use Rattle.std.proofs.Common.{◌≡◌, ◌+◌, ◌-◌, ◌∙◌, length, sym, ap, arith}
use Rattle.std.proofs.lemmas.Bool.{ne_eqb}
use Rattle.odb_resolve.specs.Joins.{trimmed}
use Rattle.odb_resolve.proofs.PathLemmas.{trimmed_more, trimmed_end}
use Rattle.odb_resolve.proofs.join.trim.Goals as goal

pub returns-then-index-ne47 : goal.returns-then-index-ne47
returns-then-index-ne47 c =
    let last : (c.len-last.result - 1) + 1 ≡ length c.slashes.path.items = omega arith in
    sym (trimmed_end _ _ _ last (ne_eqb _ _ (λ same. c.if-index-ne47.true (c.index.ensures ∙ same)))) ∙ c.slashes.invariant

pub slashes-preserved : goal.slashes-preserved
slashes-preserved c =
    let last : (c.len-last.result - 1) + 1 ≡ length c.slashes.path.items = omega arith in
    ap trimmed c.truncate.ensures.items ∙ trimmed_more _ _ _ last (sym c.index.ensures ∙ c.if-index-ne47.false) ∙ c.slashes.invariant
