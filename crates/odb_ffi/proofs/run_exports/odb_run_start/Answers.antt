use Rattle.std.proofs.Common.{subst}
use Rattle.odb_live.specs.declared.run.LiveRun.{LiveRun}
use Rattle.odb_calls.specs.Live.{Starts}
use Rattle.odb_ffi.proofs.run_exports.odb_run_start.Goals as goal

pub returns : goal.returns
returns c = subst (λ (live : LiveRun). Starts live c.start.new.live c.args.position c.start.result) c.live.ensures.value c.start.ensures
