use Rattle.odb_spans.proofs.PairLemmas.{documents-found, documents-within, no-documents}
use Rattle.odb_spans.proofs.locate.documents_in.Goals as goal

pub returns-clause-found : goal.returns-clause-found
returns-clause-found c = documents-found c.args.line.now c.value_start.result c.value_start.ensures c.pair_in.result c.pair_in.ensures

pub returns-clause-within : goal.returns-clause-within
returns-clause-within c = documents-within c.args.line.now c.value_start.result c.value_start.ensures c.pair_in.result c.pair_in.ensures

pub returns-clause-none : goal.returns-clause-none
returns-clause-none c = no-documents c.args.line.now c.value_start.result c.value_start.ensures c.pair_in.result c.pair_in.ensures
