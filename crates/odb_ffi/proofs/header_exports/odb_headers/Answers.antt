-- Headers as pairs, for C.
use Rattle.odb_calls.specs.Headers.GivesHeaders.{Given}
use Rattle.odb_calls.proofs.HeaderLemmas.{not-given}
use Rattle.odb_ffi.proofs.header_exports.odb_headers.Goals as goal

pub returns-in-Ok : goal.returns-in-Ok
returns-in-Ok c = Given c.as_str.result.now c.deref.result.now (rw (c.as_str.ensures.value, c.deref.ensures.value) c.in-Ok.ensures.pairs) c.give_list.ensures

pub returns-in-Err : goal.returns-in-Err
returns-in-Err c = not-given c.args.headers.now c.in-Err.halt c.of_halt.result c.args.text.now c.args.pairs.now c.of_halt.ensures c.in-Err.ensures.refused
