use Rattle.std.proofs.Common.{refl}
use Rattle.odb_sched.specs.run.State.{started_unit}
use Rattle.odb_live.proofs.LiveLemmas.{kept-with, same-graph}
use Rattle.odb_live.proofs.run.LiveRun.start_unit.Goals as goal

pub invariant_of-self : goal.invariant_of-self
invariant_of-self c =
    let run = c.self.inside.run in
    kept-with c.self.inside c.start_unit.new.self (same-graph c.start_unit.result run (started_unit run c.args.u) c.start_unit.new.self refl c.start_unit.ensures.ok c.start_unit.ensures.err) c.self.invariant
