use Rattle.odb_resolve.proofs.TextLemmas.{split_is_run}
use Rattle.odb_resolve.proofs.run.split_run.Goals as goal

pub returns-clause-front : goal.returns-clause-front
returns-clause-front c = (split_is_run _ _ _ _ c.split.ensures).0

pub returns-clause-back : goal.returns-clause-back
returns-clause-back c = (split_is_run _ _ _ _ c.split.ensures).1
