-- The part of the units that fit, up to the first that lacks a Location or an ETag.
use Rattle.std.proofs.Common.{◌∙◌, List, Bool, length, map, subst, sym}
use Rattle.odb_check.specs.Plans.{plan_records}
use Rattle.odb_doc.specs.declared.rule_fault.RuleFault.TheVariants as faults
use Rattle.odb_send.specs.Answers.{answers_in}
use Rattle.odb_send.specs.Faults.{RefusesRest}
use Rattle.odb_send.specs.Marks.{AreChanges}
use Rattle.odb_send.specs.Rests.{HasChanges, change_of}
use Rattle.odb_send.proofs.CutLemmas.{cut_whole}
use Rattle.odb_send.proofs.next_part.placed_part.Goals as goal

pub returns-in-Ok-clause-part : goal.returns-in-Ok-clause-part
returns-in-Ok-clause-part c =
    let rs = plan_records c.args.plan.now in
    let fitting = c.args.fitting.items in
    let all = answers_in c.args.answers.now in
    let are : AreChanges rs fitting all (length rs) (map change_of c.in-Ok.changes.items) = rw c.deref.ensures.value at c.in-Ok.ensures.changes in
    let changes_are : HasChanges rs fitting all (map change_of c.in-Ok.changes.items) = record { count = are.count; each = are.each } in
    record { cut = cut_whole rs fitting all (map change_of c.in-Ok.changes.items) c.requires.count changes_are; changes_are = changes_are }

pub part_before-requires-clause-breaks : goal.part_before-requires-clause-breaks
part_before-requires-clause-breaks c =
    let rs = plan_records c.args.plan.now in
    let all = answers_in c.args.answers.now in
    let at = c.in-Err-Broken.at in
    let rule = c.in-Err-Broken.rule in
    let broken : RefusesRest (faults.Broken at rule) rs c.deref.result.now all = rw c.in-Err-Broken.field-0-is at c.in-Err-Broken.ensures.first in
    subst (λ (units : List Bool). RefusesRest (faults.Broken at rule) rs units all) (c.deref.ensures.value ∙ sym c.deref-in-Err-Broken.ensures.value) broken
