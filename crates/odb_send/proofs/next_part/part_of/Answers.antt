use Rattle.std.proofs.Common.{◌≡◌, ◌∙◌, List, Bool, sym, subst}
use Rattle.odb_check.specs.Plans.{plan_records}
use Rattle.odb_send.specs.NextPart.{AreFitting}
use Rattle.odb_send.proofs.MarkLemmas.{one_marks}
use Rattle.odb_send.proofs.NextPartLemmas.{error_by}
use Rattle.odb_send.proofs.next_part.part_of.Goals as goal

pub returns-clause-least : goal.returns-clause-least
returns-clause-least c =
    let rs = plan_records c.args.plan.now in
    let limit = c.args.limit in
    error_by c.part_by.result _ _ (λ fault first done left units progress is.
    let same_done : done ≡ c.deref.result.now = one_marks rs _ done c.in_ok-done.done.items progress.succeeded c.in_ok-done.ensures ∙ sym c.deref.ensures.value in
    let same_left : left ≡ c.deref-2.result.now = one_marks rs _ left c.in_ok-left.left.items progress.starting c.in_ok-left.ensures ∙ sym c.deref-2.ensures.value in
    first units (subst (λ (marks : List Bool). AreFitting rs c.deref.result.now marks limit units) same_left (subst (λ (marks : List Bool). AreFitting rs marks left limit units) same_done is)))
    c.part_by.ensures.least
