use Rattle.std.proofs.Common.{◌∙◌, ap, length}
use Rattle.odb_doc.specs.batch.Batches.{records}
use Rattle.odb_check.proofs.GroupLemmas.{groups_below-all}
use Rattle.odb_check.proofs.tables.Tables.group_count.Goals as goal

pub returns : goal.returns
returns c = c.len.ensures ∙ c.args.self.now.exact.groups_count ∙ ap length (groups_below-all (records c.args.self.now.all.batch.now) c.distinct_names.ensures)
