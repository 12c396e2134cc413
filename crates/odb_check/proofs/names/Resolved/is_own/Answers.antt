use Rattle.std.proofs.Common.{Some, ap, ◌∙◌}
use Rattle.odb_check.proofs.AnyLemmas.{Decides-none}
use Rattle.odb_check.proofs.NameLemmas.{own_one, own_group}
use Rattle.odb_check.proofs.NeedLemmas.{is_meant}
use Rattle.odb_check.proofs.names.Resolved.is_own.Goals as goal

pub returns-in-One : goal.returns-in-One
returns-in-One c = λ name means. Decides-none (own_one c.args.self.now _ name (is_meant _ name _ (means ∙ ap Some c.in-One.is)))

pub returns-in-Group : goal.returns-in-Group
returns-in-Group c = λ name means. rw c.unit_of.ensures.value (own_group c.args.self.now c.in-Group.unit name (is_meant _ name _ (means ∙ ap Some c.in-Group.is)))
