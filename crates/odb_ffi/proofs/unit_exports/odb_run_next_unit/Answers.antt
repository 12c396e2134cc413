use Rattle.std.proofs.Common.{subst}
use Rattle.odb_live.specs.declared.run.LiveRun.{LiveRun}
use Rattle.odb_calls.specs.Units.{GivesUnit}
use Rattle.odb_ffi.proofs.unit_exports.odb_run_next_unit.Goals as goal

pub returns-clause-unit : goal.returns-clause-unit
returns-clause-unit c = subst (λ (live : LiveRun). GivesUnit live.run c.next_unit.result c.next_unit.new.count c.args.positions.now c.next_unit.new.positions) c.live.ensures.value c.next_unit.ensures.unit
