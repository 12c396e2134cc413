use Rattle.std.proofs.Common.{◌≤◌, length, arith}
use Rattle.odb_check.specs.Requests.{requests}
use Rattle.odb_check.proofs.PhaseLemmas.{phase_all}
use Rattle.odb_check.proofs.all_faults.id_faults.Goals as goal

pub returns : goal.returns
returns c =
    let end : length (requests c.args.tables.now) ≤ c.loop-i.i = omega (arith, c.loop-i-test.false, c.len-i-end.ensures.count) in
    phase_all 3 (requests c.args.tables.now) c.loop-i.i c.loop-i.faults.items end c.loop-i.invariant
