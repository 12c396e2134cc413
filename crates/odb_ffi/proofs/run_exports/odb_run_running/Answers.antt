use Rattle.std.proofs.Common.{◌≡◌, ◌≤◌, ◌∙◌, ap, arith, length, subst}
use Rattle.odb_dense.specs.Lists.{ListsOnce}
use Rattle.odb_sched.specs.run.State.{State, is_running, phase_at, size}
use Rattle.odb_sched.specs.run.Steps.{places}
use Rattle.odb_live.specs.declared.run.LiveRun.{LiveRun}
use Rattle.odb_calls.specs.Positions.{GivesPositions}
use Rattle.odb_calls.proofs.PositionLemmas.{counted-by, given-by}
use Rattle.odb_ffi.proofs.run_exports.odb_run_running.Goals as goal

pub returns-clause-positions : goal.returns-clause-positions
returns-clause-positions c =
    let state = c.run.result.now in
    subst (λ (state : State). GivesPositions (ListsOnce (size state) (λ i. is_running (phase_at state i))) c.give_positions.result c.give_positions.new.count c.args.positions.now c.give_positions.new.buffer) (c.run.ensures ∙ ap (λ (live : LiveRun). live.run) c.live.ensures.value)
    (given-by (ListsOnce (size state) (λ i. is_running (phase_at state i))) c.running.result.now _ _ _ _ c.running.ensures.listed c.give_positions.ensures)

pub returns-clause-width : goal.returns-clause-width
returns-clause-width c =
    let most : length c.running.result.now ≤ places c.run.result.now = c.running.ensures.width in
    let count : c.give_positions.new.count ≡ length c.running.result.now = counted-by c.running.result.now _ _ _ _ c.give_positions.ensures in
    subst (λ (state : State). c.give_positions.new.count ≤ places state) (c.run.ensures ∙ ap (λ (live : LiveRun). live.run) c.live.ensures.value) (omega (arith, most, count))
