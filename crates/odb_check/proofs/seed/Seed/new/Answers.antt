use Rattle.std.proofs.Common.{refl}
use Rattle.odb_check.proofs.seed.Seed.new.Goals as goal

pub returns : goal.returns
returns c = refl
