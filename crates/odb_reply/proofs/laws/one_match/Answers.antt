use Rattle.odb_reply.proofs.FitLemmas.{Fits-from, HasNoMisfit-Fits, no_fit}
use Rattle.odb_reply.proofs.OneFaultLemmas.{one_match_fault, one_table}
use Rattle.odb_reply.proofs.laws.one_match.Goals as goal

pub returns : goal.returns
returns c = record {
  fits = λ requests responses. (HasNoMisfit-Fits requests responses, Fits-from requests responses);
  one = one_match_fault;
  none = no_fit;
  table = one_table;
}
