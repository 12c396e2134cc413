use Rattle.std.proofs.Common.{rules}
use Rattle.odb_check.specs.Plans.{plan_records}
use Rattle.odb_reply.specs.LeastMatchFault.{RefusesMatch}
use Rattle.odb_reply.specs.ResponseDocuments.{entries}
use Rattle.odb_reply.proofs.FitLemmas.{Fits-from, HasNoMisfit-from, RefusesMatch-last}
use Rattle.odb_reply.proofs.fits.match_responses.Goals as goal

pub returns-in_err-check_requests-clause-least : goal.returns-in_err-check_requests-clause-least
returns-in_err-check_requests-clause-least c =
    let rs = plan_records c.args.plan.now in
    let es = entries c.args.responses.now in
    let fault = c.in_err-check_requests.field-0.0 in
    let refused : RefusesMatch fault rs es = RefusesMatch-last rs es fault c.in_ok-table.ensures.all_places c.in_err-check_requests.ensures.first in
    search (rules, refused)

pub returns-clause-fits : goal.returns-clause-fits
returns-clause-fits c =
    let rs = plan_records c.args.plan.now in
    let es = entries c.args.responses.now in
    Fits-from rs es (HasNoMisfit-from rs es c.in_ok-table.ensures.all_places c.in_ok-check_requests.ensures.none)
