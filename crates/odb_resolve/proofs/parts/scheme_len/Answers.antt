use Rattle.std.proofs.Common.{◌≤◌, length, sym, ◌∙◌, arith}
use Rattle.odb_resolve.proofs.TextLemmas.{some_begins}
use Rattle.odb_resolve.proofs.parts.scheme_len.Goals as goal

pub returns-then-begins_with_colon-clause-within : goal.returns-then-begins_with_colon-clause-within
returns-then-begins_with_colon-clause-within c =
    let some : 1 ≤ length c.split_run.result.1.now = some_begins _ _ (sym c.begins_with_colon.ensures ∙ c.if-begins_with_colon.true) in
    omega (arith, c.split_run.ensures.len)
