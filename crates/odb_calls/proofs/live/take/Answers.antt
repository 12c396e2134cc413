use Rattle.odb_calls.specs.Live.Takes.{Refused}
use Rattle.odb_calls.proofs.live.take.Goals as goal

pub returns-in-Err : goal.returns-in-Err
returns-in-Err c = Refused c.in-Err.refused.0 c.in-Err.ensures.cause c.status_of.ensures c.in-Err.ensures.err
