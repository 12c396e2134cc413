use Rattle.std.proofs.Common.{refl}
use Rattle.odb_tests_calls.proofs.sessions.reports.Goals as goal

pub returns : goal.returns
returns c = (c.report.new.live, c.report.ensures, refl)
