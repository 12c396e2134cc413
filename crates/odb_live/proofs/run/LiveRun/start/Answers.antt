use Rattle.std.proofs.Common.{refl}
use Rattle.odb_sched.specs.run.State.{started}
use Rattle.odb_live.proofs.LiveLemmas.{kept-with, same-graph}
use Rattle.odb_live.proofs.run.LiveRun.start.Goals as goal

pub invariant_of-self : goal.invariant_of-self
invariant_of-self c =
    let run = c.self.inside.run in
    kept-with c.self.inside c.start.new.self (same-graph c.start.result run (started run c.args.i) c.start.new.self refl c.start.ensures.ok c.start.ensures.err) c.self.invariant
