use Rattle.odb_reply.proofs.OneFaultLemmas.{one_document_fault, no_document_fault, one_list}
use Rattle.odb_reply.proofs.laws.one_document.Goals as goal

pub returns : goal.returns
returns c = record {
  one = one_document_fault;
  none = no_document_fault;
  entries = one_list;
}
