use Rattle.std.proofs.Common.{rules}
use Rattle.odb_reply.proofs.fits.has_group.Goals as goal

pub returns : goal.returns
returns c = search rules
