use Rattle.std.proofs.Common.{refl}
use Rattle.odb_text.proofs.ArrowLemmas.{group-within, request-within}
use Rattle.odb_text.proofs.laws.every_arrow.Goals as goal

pub returns : goal.returns
returns c = record { one = λ batch i r has. (refl, request-within batch i r has); group = group-within }
