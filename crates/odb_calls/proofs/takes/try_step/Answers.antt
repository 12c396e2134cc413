use Rattle.std.proofs.Common.{subst, sym}
use Rattle.odb_calls.specs.Follows.{Tries}
use Rattle.odb_calls.specs.declared.steps.Step.{Step}
use Rattle.odb_calls.proofs.takes.try_step.Goals as goal

pub returns-in-StartUnit : goal.returns-in-StartUnit
returns-in-StartUnit c = subst (λ (step : Step). Tries c.args.live.now step c.start_unit-status.new.live) (sym c.in-StartUnit.is) (c.start_unit-status.result, c.start_unit-status.ensures)

pub returns-in-Start : goal.returns-in-Start
returns-in-Start c = subst (λ (step : Step). Tries c.args.live.now step c.start-status.new.live) (sym c.in-Start.is) (c.start-status.result, c.start-status.ensures)

pub returns-in-Report : goal.returns-in-Report
returns-in-Report c = subst (λ (step : Step). Tries c.args.live.now step c.take_at-status.new.live) (sym c.in-Report.is) (c.take_at-status.result, c.take_at-status.ensures)
