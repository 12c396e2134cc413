use Rattle.odb_resolve.proofs.BelowLemmas.{url_below}
use Rattle.odb_resolve.proofs.resolution.resolve.Goals as goal

pub returns-clause-below : goal.returns-clause-below
returns-clause-below c = url_below c.args.service.now c.args.known.now c.args.request.now.url.now c.args.request.now.reference _ c.in_ok-url.ensures.url
