use Rattle.std.proofs.Common.{List, Bool, subst}
use Rattle.odb_check.specs.Plans.{plan_records}
use Rattle.odb_send.specs.Answers.{answers_in}
use Rattle.odb_send.specs.NextPart.{RefusesPart}
use Rattle.odb_send.proofs.NextPartLemmas.{error_by, ok_by}
use Rattle.odb_send.proofs.PartLawLemmas.{one_fitting}
use Rattle.odb_send.proofs.next_part.part_by.Goals as goal

pub returns-clause-part : goal.returns-clause-part
returns-clause-part c = ok_by c.placed_part.result _ _ (λ part is. record {
  units = record { fitting = c.in_ok-fitting.fitting.items; fits = c.in_ok-fitting.ensures; cut = is.cut };
  changes_are = is.changes_are;
}) c.placed_part.ensures.part

pub returns-clause-least : goal.returns-clause-least
returns-clause-least c =
    let rs = plan_records c.args.plan.now in
    let all = answers_in c.args.answers.now in
    error_by c.placed_part.result _ _ (λ fault refuses fitting is.
    subst (λ (units : List Bool). RefusesPart fault rs units all) (one_fitting rs c.args.done.now c.args.left.now c.args.limit c.in_ok-fitting.fitting.items fitting c.in_ok-fitting.ensures is) refuses)
    c.placed_part.ensures.least
