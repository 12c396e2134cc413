use Rattle.std.proofs.Common.{subst}
use Rattle.odb_live.specs.declared.run.LiveRun.{LiveRun}
use Rattle.odb_calls.specs.Units.{StartsUnit}
use Rattle.odb_ffi.proofs.unit_exports.odb_run_start_unit.Goals as goal

pub returns : goal.returns
returns c = subst (λ (live : LiveRun). StartsUnit live c.start_unit.new.live c.args.position c.start_unit.result) c.live.ensures.value c.start_unit.ensures
