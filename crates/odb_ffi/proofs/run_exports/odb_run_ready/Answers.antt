use Rattle.std.proofs.Common.{◌∙◌, ap, subst}
use Rattle.odb_dense.specs.Lists.{ListsOnce}
use Rattle.odb_sched.specs.run.State.{State, size}
use Rattle.odb_sched.specs.run.Steps.{may_start}
use Rattle.odb_live.specs.declared.run.LiveRun.{LiveRun}
use Rattle.odb_calls.specs.Positions.{GivesPositions}
use Rattle.odb_calls.proofs.PositionLemmas.{given-by}
use Rattle.odb_ffi.proofs.run_exports.odb_run_ready.Goals as goal

pub returns-clause-positions : goal.returns-clause-positions
returns-clause-positions c =
    let state = c.run.result.now in
    subst (λ (state : State). GivesPositions (ListsOnce (size state) (may_start state)) c.give_positions.result c.give_positions.new.count c.args.positions.now c.give_positions.new.buffer) (c.run.ensures ∙ ap (λ (live : LiveRun). live.run) c.live.ensures.value)
    (given-by (ListsOnce (size state) (may_start state)) c.ready.result.now _ _ _ _ c.ready.ensures.listed c.give_positions.ensures)
