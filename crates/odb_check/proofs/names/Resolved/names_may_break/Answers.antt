use Rattle.std.proofs.Common.{false, rules, tests}
use Rattle.std.proofs.lemmas.Iterator.{cases_from_any, YieldsList-from_slice}
use Rattle.odb_check.specs.Resolved.{BreaksByName, IsAnswer, batch_of}
use Rattle.odb_check.proofs.NameLemmas.{breaks_known, none_breaks}
use Rattle.odb_check.proofs.names.Resolved.names_may_break.Goals as goal

pub returns : goal.returns
returns c =
    let j = c.args.self.now in
    let P = BreaksByName (batch_of j) j.i in
    none_breaks j P (breaks_known (batch_of j) j.i) _ c.any.result (cases_from_any _ _ _ (λ need. Unit {0}) (λ need. IsAnswer (batch_of j) need false P) c.any.ensures.ran (YieldsList-from_slice j.named.now cc)
    (λ x q k. tt) (λ x q k. search (rules, tests)))
