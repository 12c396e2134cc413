use Rattle.std.proofs.Common.{rules}
use Rattle.odb_calls.specs.Live.Starts.{Refused}
use Rattle.odb_calls.proofs.live.start.Goals as goal

pub returns-in-Err : goal.returns-in-Err
returns-in-Err c = Refused c.in-Err.cause (search rules) c.in-Err.ensures.cause c.of_start.ensures c.in-Err.ensures.err
