-- All faults of a batch, for C.
use Rattle.std.proofs.Common.{string_bytes}
use Rattle.odb_calls.specs.Faults.GivesFaults.{Given}
use Rattle.odb_ffi.proofs.fault_exports.odb_faults.Goals as goal

pub returns-in-Ok : goal.returns-in-Ok
returns-in-Ok c = Given (string_bytes c.in-Ok.found.text) c.in-Ok.found.faults.items c.in-Ok.ensures c.give_faults.ensures
