use Rattle.std.proofs.Common.{◌∙◌, rules}
use Rattle.odb_names.proofs.Decoded.{decoded_batch}
use Rattle.odb_names.proofs.url.may_be_batch.Goals as goal

pub returns-then-contains : goal.returns-then-contains
returns-then-contains c = λ e. c.begins_with_sign.ensures ∙ (decoded_batch c.args.segment.now e).begins

pub returns-else-contains : goal.returns-else-contains
returns-else-contains c = λ e. let may = decoded_batch c.args.segment.now e in search (rules, may.long, may.short)
