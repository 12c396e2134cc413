use Rattle.std.proofs.Common.{rules}
use Rattle.odb_check.proofs.NameLemmas.{outside_Decides}
use Rattle.odb_check.proofs.names.Resolved.is_outside.Goals as goal

pub returns-then-position-self : goal.returns-then-position-self
returns-then-position-self c = search (rules, outside_Decides)
