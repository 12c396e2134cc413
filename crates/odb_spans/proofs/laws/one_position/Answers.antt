use Rattle.odb_spans.proofs.OnePositionLemmas.{one-position, one-position-in-pair}
use Rattle.odb_spans.proofs.laws.one_position.Goals as goal

pub returns-clause-document : goal.returns-clause-document
returns-clause-document c = one-position

pub returns-clause-line : goal.returns-clause-line
returns-clause-line c = one-position-in-pair
