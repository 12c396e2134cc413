use Rattle.std.proofs.Common.{subst}
use Rattle.odb_live.specs.declared.run.LiveRun.{LiveRun}
use Rattle.odb_calls.specs.Live.{Reports}
use Rattle.odb_ffi.proofs.run_exports.odb_run_report.Goals as goal

pub returns : goal.returns
returns c = subst (λ (live : LiveRun). Reports live c.report.new.live c.args.position c.args.status c.args.headers.now c.args.body.now c.report.result) c.live.ensures.value c.report.ensures
