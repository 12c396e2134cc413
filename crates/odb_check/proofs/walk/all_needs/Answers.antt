use Rattle.std.proofs.Common.{arith}
use Rattle.odb_check.specs.LeastNameFault.{RefusesNames}
use Rattle.odb_check.specs.Requests.{requests}
use Rattle.odb_check.proofs.WalkLemmas.{same_error, names_refused, all_good}
use Rattle.odb_check.proofs.walk.all_needs.Goals as goal

pub returns-in_err-resolve_needs-clause-least : goal.returns-in_err-resolve_needs-clause-least
returns-in_err-resolve_needs-clause-least c =
    let rs = requests c.args.tables.now in
    same_error c.from_residual-in_err-resolve_needs.result (λ fault. RefusesNames fault rs) c.in_err-resolve_needs.field-0.0 c.from_residual-in_err-resolve_needs.ensures.1
    (names_refused rs c.loop-i.i c.requires c.loop-i.invariant.none c.in_err-resolve_needs.field-0.0 c.in_err-resolve_needs.ensures.least)

pub returns-clause-good : goal.returns-clause-good
returns-clause-good c = all_good (requests c.args.tables.now) c.requires (λ rule k less. c.loop-i.invariant.none rule k (omega (arith, less, c.loop-i-test.false, c.len-i-end.ensures.count)))
