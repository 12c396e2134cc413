use Rattle.std.proofs.Common.{◌≡◌, ◌++◌, ◌∷◌, [], map, rules}
use Rattle.std.proofs.lemmas.List.{map-append}
use Rattle.odb_check.specs.Plans.{plan_records}
use Rattle.odb_send.specs.Answers.{answers_in}
use Rattle.odb_send.specs.Faults.{RefusesRest}
use Rattle.odb_send.specs.Rests.{change_of}
use Rattle.odb_send.proofs.UrlLemmas.{AreChanges-more, first_broken}
use Rattle.odb_send.proofs.rest.changes_of.Goals as goal

pub returns-in_err-change-clause-first : goal.returns-in_err-change-clause-first
returns-in_err-change-clause-first c =
    let rs = plan_records c.args.plan.now in
    let first : RefusesRest c.in_err-change.field-0.0 rs c.args.kept.now (answers_in c.args.answers.now) =
    first_broken rs c.args.kept.now (answers_in c.args.answers.now) c.loop-i.i (map change_of c.loop-i.found.items) c.in_err-change.field-0.0 c.loop-i.invariant c.in_err-change.ensures.broken in
    search (rules, first)

pub loop-i-preserved : goal.loop-i-preserved
loop-i-preserved c =
    let rs = plan_records c.args.plan.now in
    let change = c.in_ok-change.change in
    let pushed : c.push.new.self.items ≡ c.loop-i.found.items ++ change ∷ [] = c.in_ok-push.ensures.items in
    rw (pushed, map-append) (AreChanges-more rs c.args.kept.now (answers_in c.args.answers.now) c.loop-i.i (map change_of c.loop-i.found.items) (change_of change) c.loop-i.invariant c.in_ok-change.ensures.change)
