use Rattle.std.proofs.Common.{refl}
use Rattle.odb_calls.proofs.OutcomeLemmas.{none-held}
use Rattle.odb_calls.proofs.outcome.bare.Goals as goal

pub returns : goal.returns
returns c = rw c.bare.ensures record { of_status = refl; of_headers = none-held; of_body = refl; whole = tt }
