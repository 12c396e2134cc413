use Rattle.std.proofs.Common.{arith, rules}
use Rattle.std.proofs.lemmas.Grind.{common_steps}
use Rattle.std.proofs.lemmas.Option.{get_or_from_slice_get}
use Rattle.odb_reply.specs.Fits.{statuses}
use Rattle.odb_reply.proofs.fits.is_satisfied.Goals as goal

pub returns-in-One : goal.returns-in-One
returns-in-One c =
    let status = get_or_from_slice_get (statuses c.args.table.now) c.in-One.r c.status.result 0 c.status.ensures in
    search (rules, status)

pub returns-in-Group : goal.returns-in-Group
returns-in-Group c = grind (arith, common_steps)
