-- The clauses are the lemmas of any chain of calls.
use Rattle.odb_exec.proofs.CallLemmas.{logged, called}
use Rattle.odb_exec.proofs.laws.every_call.Goals as goal

pub returns-clause-logged : goal.returns-clause-logged
returns-clause-logged g c = λ log entry writes requests events old new asked. logged g.S.Service.performs requests log entry writes events old new asked

pub returns-clause-positions : goal.returns-clause-positions
returns-clause-positions g c = λ requests events old new asked. called g.S.Service.performs requests events old new asked
