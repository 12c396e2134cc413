-- The run that is opened after all of its events.
use Rattle.std.proofs.Common.{rules, ◌≡◌, ◌<◌, true, sym, subst}
use Rattle.odb_sched.specs.declared.event.Event.TheVariants.{Start}
use Rattle.odb_sched.specs.run.State.{size}
use Rattle.odb_sched.specs.run.Steps.{may_start}
use Rattle.odb_live.specs.Live.{Opens}
use Rattle.odb_tests_live.proofs.laws.live.goes_on.Goals as goal

pub returns-in-Ok : goal.returns-in-Ok
returns-in-Ok c = λ same.
    let live = c.args.live.now in
    let i = c.in-Some.i in
    let within : i < size live.run = search rules in
    let may : may_start live.run i ≡ true = search rules in
    subst (Opens c.args.policy c.args.batch.now c.args.more.now) (sym c.in-Ok.ensures.ok)
    (c.one_live_run.ensures.goes_on c.args.policy c.args.batch.now c.args.events.now c.args.more.now live (Start i) c.requires c.in-Some.ensures within may)
