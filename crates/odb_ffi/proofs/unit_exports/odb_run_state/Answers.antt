use Rattle.std.proofs.Common.{subst}
use Rattle.odb_live.specs.declared.run.LiveRun.{LiveRun}
use Rattle.odb_calls.specs.Units.{GivesState}
use Rattle.odb_ffi.proofs.unit_exports.odb_run_state.Goals as goal

pub returns-clause-state : goal.returns-clause-state
returns-clause-state c = subst (λ (live : LiveRun). GivesState live.run c.args.position c.state.result c.args.state.now c.state.new.state c.args.status.now c.state.new.status) c.live.ensures.value c.state.ensures
