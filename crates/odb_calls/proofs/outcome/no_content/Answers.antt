use Rattle.std.proofs.Common.{refl}
use Rattle.odb_calls.specs.Live.IsPart.{Absent}
use Rattle.odb_calls.proofs.outcome.no_content.Goals as goal

pub returns : goal.returns
returns c = record { headers_value = _; of_headers = Absent refl; parts = c.bare.ensures }
