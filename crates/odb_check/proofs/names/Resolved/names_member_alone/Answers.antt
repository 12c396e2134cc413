use Rattle.std.proofs.Common.{ℕ, List, true, false, rules, tests}
use Rattle.std.proofs.lemmas.Iterator.{cases_from_any, YieldsList-from_slice}
use Rattle.odb_check.specs.Resolved.{IsAnswer, batch_of}
use Rattle.odb_check.specs.NameFaults.{IsMemberAlone}
use Rattle.odb_check.proofs.NameLemmas.{any_Decides, alone_known}
use Rattle.odb_check.proofs.names.Resolved.names_member_alone.Goals as goal

pub returns : goal.returns
returns c =
    let j = c.args.self.now in
    let P : List ℕ → Type 0 = IsMemberAlone (batch_of j) j.i in
    any_Decides j P (alone_known (batch_of j) j.i) _ (cases_from_any _ _ _ (λ need. IsAnswer (batch_of j) need true P) (λ need. IsAnswer (batch_of j) need false P) c.any.ensures.ran (YieldsList-from_slice j.named.now cc)
    (λ x q k. search (rules, tests)) (λ x q k. search (rules, tests)))
