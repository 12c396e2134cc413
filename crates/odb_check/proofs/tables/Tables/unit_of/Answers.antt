use Rattle.std.proofs.Common.{◌≡◌, ◌<◌, ◌∙◌, ap, sym, subst, get_or, length, arith}
use Rattle.odb_doc.specs.batch.Batches.{records}
use Rattle.odb_check.specs.Units.{unit_at, unit_count}
use Rattle.odb_check.proofs.BelowLemmas.{length-list_below, get_or-list_below}
use Rattle.odb_check.proofs.UnitLemmas.{unit_before}
use Rattle.odb_check.proofs.tables.Tables.unit_of.Goals as goal

pub index-requires : goal.index-requires
index-requires c =
    let rs = records c.args.self.now.all.batch.now in
    omega (arith, c.requires, ap length c.args.self.now.exact.units_are, length-list_below (length rs) (unit_at rs))

pub returns : goal.returns
returns c =
    let rs = records c.args.self.now.all.batch.now in
    let d = c.index.result.now in
    let value : d ≡ unit_at rs c.args.i = c.index.ensures ∙ ap (λ xs. get_or xs c.args.i d) c.args.self.now.exact.units_are ∙ get_or-list_below (length rs) (unit_at rs) c.args.i d c.requires in
    record { value = value; within = subst (λ u. u < unit_count rs) (sym value) (unit_before rs c.args.i (length rs) c.requires) }
