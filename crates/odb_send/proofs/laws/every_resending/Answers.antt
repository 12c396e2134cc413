use Rattle.odb_send.specs.Rests.{kept, changes}
use Rattle.odb_send.proofs.ResendLemmas.{resent}
use Rattle.odb_send.proofs.laws.every_resending.Goals as goal

pub returns : goal.returns
returns c = λ batch responses others places statuses answers rest good fits table is fits_rest. resent batch responses places statuses (kept rest) (changes rest) answers others good fits table is.units is.changes_are fits_rest
