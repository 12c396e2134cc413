use Rattle.std.proofs.Common.{subst}
use Rattle.odb_live.specs.declared.run.LiveRun.{LiveRun}
use Rattle.odb_calls.specs.Next.{GivesNext}
use Rattle.odb_ffi.proofs.run_exports.odb_run_next.Goals as goal

pub returns-clause-next : goal.returns-clause-next
returns-clause-next c = subst (λ (live : LiveRun). GivesNext live.run c.args.order c.next.result c.args.step.now c.next.new.step c.args.position.now c.next.new.position) c.live.ensures.value c.next.ensures
