use Rattle.std.proofs.Common.{rules}
use Rattle.odb_reply.proofs.fits.check_requests.Goals as goal

pub returns-in-Some-clause-first : goal.returns-in-Some-clause-first
returns-in-Some-clause-first c = search rules
