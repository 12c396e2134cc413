use Rattle.std.proofs.Common.{rules}
use Rattle.odb_calls.specs.Live.TakesAt.{Tried}
use Rattle.odb_calls.proofs.live.take_at.Goals as goal

pub returns : goal.returns
returns c = Tried (search rules) c.take.ensures
