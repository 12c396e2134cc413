use Rattle.serde_json.proofs.Nesting.{depth-read}
use Rattle.odb_doc.proofs.LineLemmas.{value_line}
use Rattle.odb_doc.proofs.ReadBackLemmas.{held-read, read_back}
use Rattle.odb_doc.proofs.laws.every_value.Goals as goal

pub returns-clause-held : goal.returns-clause-held
returns-clause-held c = held-read

pub returns-clause-nests : goal.returns-clause-nests
returns-clause-nests c = depth-read

pub returns-clause-reads_back : goal.returns-clause-reads_back
returns-clause-reads_back c = read_back

pub returns-clause-line : goal.returns-clause-line
returns-clause-line c = value_line
