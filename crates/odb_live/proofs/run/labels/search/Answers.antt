use Rattle.std.proofs.Common.{rules, nat_cmp}
use Rattle.std.specs.Cmp.Lexicographic.{slice_cmp}
use Rattle.std.proofs.lemmas.Fn.{always_returns_same}
use Rattle.odb_live.specs.LabelTables.{id_or_empty}
use Rattle.odb_live.proofs.LabelLemmas.{not-found, same-text}
use Rattle.odb_live.proofs.run.labels.search.Goals as goal

pub returns-in-Ok-clause-found : goal.returns-in-Ok-clause-found
returns-in-Ok-clause-found c =
    let key = id_or_empty c.args.labels.now in
    same-text _ _ (c.in-Ok.ensures.position (λ i. slice_cmp nat_cmp (key i) c.args.id.now) (always_returns_same _ _ _ (λ a r f k. search rules)) 0)

pub returns-in-Err-clause-none : goal.returns-in-Err-clause-none
returns-in-Err-clause-none c =
    let key = id_or_empty c.args.labels.now in
    λ _. not-found key c.args.positions.now c.requires c.args.id.now c.in-Err.field-0
    (c.in-Err.ensures.position (λ i. slice_cmp nat_cmp (key i) c.args.id.now) (always_returns_same _ _ _ (λ a r f k. search rules)))
