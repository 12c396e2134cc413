-- The unit is that of the request, in the run before the call.
use Rattle.std.proofs.Common.{◌≡◌, ◌<◌, ◌∙◌, ap, refl, subst, arith, true}
use Rattle.odb_check.specs.PlanGraph.{unit_of}
use Rattle.odb_live.specs.Live.{with_run}
use Rattle.odb_sched.specs.run.State.{State, size, started_unit}
use Rattle.odb_sched.specs.run.Units.{may_begin, IsUnitCause}
use Rattle.odb_calls.specs.Units.StartsUnit.{Started, Refused}
use Rattle.odb_calls.proofs.units.start_unit.Goals as goal

pub returns-in-Ok : goal.returns-in-Ok
returns-in-Ok c =
    let run = c.args.live.now.run in
    let within : c.args.position < size c.run.result.now = omega (arith, c.if-position-len.false, c.len.ensures.size) in
    let same = c.unit_of-u.ensures.unit ∙ ap (λ (s : State). unit_of s.plan_graph c.args.position) c.run-2.ensures in
    Started (subst (λ s. c.args.position < size s) c.run.ensures within) (subst (λ u. may_begin run u ≡ true) same (c.in-Ok.ensures.allowed.0 refl)) refl
    (subst (λ u. c.start_unit.new.self ≡ with_run c.args.live.now (started_unit run u)) same c.in-Ok.ensures.ok)

pub returns-in-Err : goal.returns-in-Err
returns-in-Err c =
    let run = c.args.live.now.run in
    let within : c.args.position < size c.run.result.now = omega (arith, c.if-position-len.false, c.len.ensures.size) in
    let same = c.unit_of-u.ensures.unit ∙ ap (λ (s : State). unit_of s.plan_graph c.args.position) c.run-2.ensures in
    Refused c.in-Err.cause (subst (λ s. c.args.position < size s) c.run.ensures within) (subst (λ u. IsUnitCause run u c.in-Err.cause) same c.in-Err.ensures.cause) c.of_start.ensures c.in-Err.ensures.err
