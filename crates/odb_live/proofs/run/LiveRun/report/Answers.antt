use Rattle.std.proofs.Common.{refl}
use Rattle.odb_sched.specs.run.State.{reported}
use Rattle.odb_live.proofs.LiveLemmas.{kept-with, same-graph}
use Rattle.odb_live.proofs.run.LiveRun.report.Goals as goal

pub invariant_of-self : goal.invariant_of-self
invariant_of-self c =
    let run = c.self.inside.run in
    kept-with c.self.inside c.report.new.self (same-graph c.report.result run (reported run c.args.i c.args.outcome) c.report.new.self refl c.report.ensures.ok c.report.ensures.err) c.self.invariant
