use Rattle.std.proofs.Common.{refl}
use Rattle.odb_calls.specs.Places.GivesPlace.{Found, OutOfMemory}
use Rattle.odb_ffi.proofs.place_exports.odb_where.Goals as goal

pub returns-in-Ok : goal.returns-in-Ok
returns-in-Ok c = Found c.in-Some.place c.in-Ok.found c.in-Some.ensures.some c.in-Ok.ensures.stands refl c.of.ensures

pub returns-in-Err : goal.returns-in-Err
returns-in-Err c = OutOfMemory c.in-Some.place c.in-Some.ensures.some c.in-Err.ensures.memory refl refl
