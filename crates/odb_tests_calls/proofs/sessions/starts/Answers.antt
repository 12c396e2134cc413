use Rattle.std.proofs.Common.{refl}
use Rattle.odb_tests_calls.proofs.sessions.starts.Goals as goal

pub returns : goal.returns
returns c = (c.start.new.live, c.start.ensures, refl)
