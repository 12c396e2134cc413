use Rattle.std.proofs.Common.{refl}
use Rattle.odb_engine.proofs.tasks.answer.Answer.copy_to.Goals as goal

pub returns-then-length-buffer-clause-same : goal.returns-then-length-buffer-clause-same
returns-then-length-buffer-clause-same c same = refl
