use Rattle.std.proofs.Common.{◌∙◌, sym, subst, arith}
use Rattle.std.proofs.lemmas.Grind.{get_or_default_zero}
use Rattle.odb_doc.specs.batch.Batches.{records}
use Rattle.odb_check.specs.Tables.{IsStartOf}
use Rattle.odb_check.proofs.tables.Tables.start_of.Goals as goal

pub returns : goal.returns
returns c =
    let exact = c.args.self.now.exact in
    subst (IsStartOf (records c.args.self.now.all.batch.now) c.args.u) (sym (c.index.ensures ∙ get_or_default_zero _ c.args.u c.index.result.now (omega (arith, c.requires, exact.count)))) (exact.starts_are c.args.u c.requires)
