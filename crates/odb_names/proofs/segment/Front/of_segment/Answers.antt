use Rattle.std.proofs.Common.{arith}
use Rattle.std.proofs.lemmas.Grind.{common_steps}
use Rattle.odb_names.proofs.segment.Front.of_segment.Goals as goal

pub returns-then-is_reserved-clause-front : goal.returns-then-is_reserved-clause-front
returns-then-is_reserved-clause-front c = grind (arith, common_steps)

pub returns-in_err-from_str-clause-memory : goal.returns-in_err-from_str-clause-memory
returns-in_err-from_str-clause-memory c = grind (arith, common_steps)

pub returns-clause-front : goal.returns-clause-front
returns-clause-front c = grind (arith, common_steps)
