use Rattle.std.proofs.Common.{List, Bool, IsSome, length, map, subst, rules}
use Rattle.serde_json.specs.View.{view}
use Rattle.odb_check.specs.Plans.{plan_records}
use Rattle.odb_reply.specs.Fits.{places, statuses}
use Rattle.odb_send.specs.Answers.{answers_in, recorded}
use Rattle.odb_send.specs.Faults.{RefusesRest, rest_row}
use Rattle.odb_send.specs.Marks.{AreChanges}
use Rattle.odb_send.specs.Rests.{change_of}
use Rattle.odb_send.specs.Units.{AreMarksOf, IsInRest}
use Rattle.odb_send.proofs.MarkLemmas.{one_marks}
use Rattle.odb_send.proofs.UrlLemmas.{answers_count, changes_by, listed_answers, refuses_by}
use Rattle.odb_send.proofs.rest.rest_of.Goals as goal

pub changes_of-requires-clause-answers : goal.changes_of-requires-clause-answers
changes_of-requires-clause-answers c =
    let rs = plan_records c.args.plan.now in
    rw c.deref-2.ensures.value (answers_count rs c.in_ok-answers.answers.items (recorded (view c.args.responses.now) (places c.args.table.now) (statuses c.args.table.now)) c.in_ok-answers.ensures)

pub returns-in_err-changes-clause-least : goal.returns-in_err-changes-clause-least
returns-in_err-changes-clause-least c =
    let rs = plan_records c.args.plan.now in
    let all = recorded (view c.args.responses.now) (places c.args.table.now) (statuses c.args.table.now) in
    let found = c.in_ok-answers.answers.items in
    let fault = c.in_err-changes.field-0.0 in
    let kept = c.in_ok-kept.kept.items in
    let first : RefusesRest fault rs kept (answers_in found) = rw (c.deref.ensures.value, c.deref-2.ensures.value) at c.in_err-changes.ensures.first in
    let least : (units : List Bool) → AreMarksOf rs (IsInRest rs (statuses c.args.table.now)) units → RefusesRest fault rs units all = λ units are.
    subst (λ (us : List Bool). RefusesRest fault rs us all) (one_marks rs (IsInRest rs (statuses c.args.table.now)) kept units c.in_ok-kept.ensures are)
    (refuses_by rs kept (answers_in found) all fault (listed_answers rs found all c.in_ok-answers.ensures) first) in
    search (rules, least)

pub returns-in_err-changes-clause-marks : goal.returns-in_err-changes-clause-marks
returns-in_err-changes-clause-marks c =
    let rs = plan_records c.args.plan.now in
    let marks : IsSome (rest_row c.in_err-changes.field-0.0) → (units : List Bool) × AreMarksOf rs (IsInRest rs (statuses c.args.table.now)) units = λ numbered. (c.in_ok-kept.kept.items, c.in_ok-kept.ensures) in
    search (rules, marks)

pub returns-clause-rest : goal.returns-clause-rest
returns-clause-rest c =
    let rs = plan_records c.args.plan.now in
    let all = recorded (view c.args.responses.now) (places c.args.table.now) (statuses c.args.table.now) in
    let found = c.in_ok-answers.answers.items in
    let kept = c.in_ok-kept.kept.items in
    let are : AreChanges rs kept (answers_in found) (length rs) (map change_of c.in_ok-changes.changes.items) = rw (c.deref.ensures.value, c.deref-2.ensures.value) at c.in_ok-changes.ensures.changes in
    record { units = c.in_ok-kept.ensures; changes_are = changes_by rs kept (answers_in found) all (map change_of c.in_ok-changes.changes.items) (listed_answers rs found all c.in_ok-answers.ensures) (record { count = are.count; each = are.each }) }
