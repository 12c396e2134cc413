-- The position is that of the id, and there is none only if no request has the id.
use Rattle.std.proofs.Common.{◌≡◌, ◌∙◌, sym, ap, refl, Some, None}
use Rattle.odb_check.specs.Plans.{plan_records}
use Rattle.odb_check.specs.Units as units
use Rattle.odb_doc.specs.recorded.Events.{event_value}
use Rattle.odb_sched.specs.run.Resolving.{named_id}
use Rattle.odb_check.proofs.PositionLemmas.{position_first, position_none}
use Rattle.odb_sched.proofs.event.resolved.Goals as goal

pub returns-in-Some-clause-resolved : goal.returns-in-Some-clause-resolved
returns-in-Some-clause-resolved c =
    let batch = plan_records c.args.plan.now in
    let found : units.position_of batch (named_id (event_value c.args.event)) ≡ Some c.in-Some.i = ap (units.position_of batch) (sym c.id_of.ensures) ∙ sym c.position_near.ensures ∙ c.in-Some.is in
    c.at_position.ensures.same batch (position_first batch (named_id (event_value c.args.event)) c.in-Some.i found).1.here

pub returns-in-Some-clause-within : goal.returns-in-Some-clause-within
returns-in-Some-clause-within c =
    let batch = plan_records c.args.plan.now in
    let found : units.position_of batch (named_id (event_value c.args.event)) ≡ Some c.in-Some.i = ap (units.position_of batch) (sym c.id_of.ensures) ∙ sym c.position_near.ensures ∙ c.in-Some.is in
    rw c.at_position.ensures.place (position_first batch (named_id (event_value c.args.event)) c.in-Some.i found).0

pub returns-in-None-clause-place : goal.returns-in-None-clause-place
returns-in-None-clause-place c = refl

pub returns-in-None-clause-unknown : goal.returns-in-None-clause-unknown
returns-in-None-clause-unknown c = λ _ is.
    let batch = plan_records c.args.plan.now in
    let missing : units.position_of batch (named_id (event_value c.args.event)) ≡ None = ap (units.position_of batch) (sym c.id_of.ensures) ∙ sym c.position_near.ensures ∙ c.in-None.is in
    position_none batch (named_id (event_value c.args.event)) missing is.0 is.1
