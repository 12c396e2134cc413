-- The part before the first request that breaks a rule.
use Rattle.std.proofs.Common.{◌≡◌, ◌∙◌, Bool, List, ap, length, map, rules, sym}
use Rattle.odb_check.specs.Firsts.{list_below}
use Rattle.odb_check.specs.Plans.{plan_records}
use Rattle.odb_check.specs.Units.{unit_at}
use Rattle.odb_send.specs.Faults.{RefusesRest}
use Rattle.odb_send.specs.Answers.{answers_in}
use Rattle.odb_send.specs.Marks.{AreChanges, marked_before}
use Rattle.odb_send.specs.NextPart.{RefusesPart}
use Rattle.odb_send.specs.Rests.{change_of}
use Rattle.odb_send.proofs.CutLemmas.{cut-before, cut-none, cut-refuses, no-unit, part-count, some-request}
use Rattle.odb_send.proofs.next_part.part_before.Goals as goal

pub returns-then-not-has_unit-clause-least : goal.returns-then-not-has_unit-clause-least
returns-then-not-has_unit-clause-least c =
    let rs = plan_records c.args.plan.now in
    let fitting = c.args.fitting.now in
    let kept = c.in_ok-kept.kept.items in
    let is : kept ≡ list_below (length fitting) (marked_before fitting (unit_at rs c.args.at)) = rw c.unit_of.ensures.value at c.in_ok-kept.ensures in
    let none = sym c.has_unit.ensures ∙ c.if-not-has_unit.true in
    cut-none rs c.every_plan.ensures.good fitting kept (answers_in c.args.answers.now) c.args.at c.args.rule c.requires.count c.requires.breaks.0 c.requires.breaks.1 is
    (λ u known. no-unit kept (rw c.deref.ensures.value at none) u)

pub changes_of-requires-clause-count : goal.changes_of-requires-clause-count
changes_of-requires-clause-count c =
    let rs = plan_records c.args.plan.now in
    let fitting = c.args.fitting.now in
    let kept = c.in_ok-kept.kept.items in
    let is : kept ≡ list_below (length fitting) (marked_before fitting (unit_at rs c.args.at)) = rw c.unit_of.ensures.value at c.in_ok-kept.ensures in
    ap (λ (marks : List Bool). length marks) c.deref-2.ensures.value
    ∙ part-count rs c.every_plan.ensures.good fitting kept (answers_in c.args.answers.now) c.args.at c.args.rule c.requires.count c.requires.breaks.0 c.requires.breaks.1 is

pub returns-in_err-changes-clause-least : goal.returns-in_err-changes-clause-least
returns-in_err-changes-clause-least c =
    let rs = plan_records c.args.plan.now in
    let fitting = c.args.fitting.now in
    let kept = c.in_ok-kept.kept.items in
    let all = answers_in c.args.answers.now in
    let fault = c.in_err-changes.field-0.0 in
    let is : kept ≡ list_below (length fitting) (marked_before fitting (unit_at rs c.args.at)) = rw c.unit_of.ensures.value at c.in_ok-kept.ensures in
    let first : RefusesRest fault rs kept all = rw c.deref-2.ensures.value at c.in_err-changes.ensures.first in
    let refuses : RefusesPart fault rs fitting all = cut-refuses rs c.every_plan.ensures.good fitting kept all c.args.at c.args.rule c.requires.count c.requires.breaks.0 c.requires.breaks.1 is fault first in
    search (rules, refuses)

pub returns-clause-part : goal.returns-clause-part
returns-clause-part c =
    let rs = plan_records c.args.plan.now in
    let fitting = c.args.fitting.now in
    let kept = c.in_ok-kept.kept.items in
    let all = answers_in c.args.answers.now in
    let is : kept ≡ list_below (length fitting) (marked_before fitting (unit_at rs c.args.at)) = rw c.unit_of.ensures.value at c.in_ok-kept.ensures in
    let count : length kept ≡ _ = part-count rs c.every_plan.ensures.good fitting kept all c.args.at c.args.rule c.requires.count c.requires.breaks.0 c.requires.breaks.1 is in
    let some = sym c.has_unit.ensures ∙ c.if-not-has_unit.false in
    let are : AreChanges rs kept all (length rs) (map change_of c.in_ok-changes.changes.items) = rw c.deref-2.ensures.value at c.in_ok-changes.ensures.changes in
    record {
      cut = cut-before rs c.every_plan.ensures.good fitting kept all c.args.at c.args.rule c.requires.count c.requires.breaks.0 c.requires.breaks.1 is (some-request rs kept count (rw c.deref.ensures.value at some));
      changes_are = record { count = are.count; each = are.each };
    }
