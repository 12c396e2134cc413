use Rattle.std.proofs.Common.{sym}
use Rattle.odb_names.proofs.OneFront.{one_front}
use Rattle.odb_names.proofs.OneMethod.{one_method}
use Rattle.odb_names.proofs.OneRun.{same_run}
use Rattle.odb_names.proofs.laws.one_reading.Goals as goal

pub returns-clause-front : goal.returns-clause-front
returns-clause-front c = λ url front other one two. sym (one_front url front other one two)

pub returns-clause-method : goal.returns-clause-method
returns-clause-method c = one_method

pub returns-clause-run : goal.returns-clause-run
returns-clause-run c = λ test text run rest other left one two. same_run one two
