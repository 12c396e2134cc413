use Rattle.odb_reply.proofs.LeftOutLemmas.{none_added, none_missing}
use Rattle.odb_reply.proofs.laws.every_completion.Goals as goal

pub returns : goal.returns
returns c = record { none_missing = none_missing; unchanged = none_added }
