use Rattle.std.proofs.Common.{◌≡◌, ◌<◌, ℕ, List, ap, sym, ◌∙◌, arith, length}
use Rattle.std.specs.Prelude.{◌==◌, option_copied, option_and_then}
use Rattle.std.proofs.lemmas.Bool.Decides.{Decides-eqb}
use Rattle.odb_doc.specs.batch.Records.{Record}
use Rattle.odb_check.specs.Plans.{plan_records, plan_graph}
use Rattle.odb_check.specs.Positions.{group_at}
use Rattle.odb_check.specs.PlanGraph.{PlanGraph, IsPlanGraphOf, IsSpan}
use Rattle.odb_check.specs.Texts.{group_text, group_of_unit, need_name}
use Rattle.odb_check.specs.Units.{unit_at}
use Rattle.odb_check.proofs.FirstLemmas.{first_cases, found_first}
use Rattle.odb_check.proofs.PlanLemmas.{shaped}
use Rattle.odb_check.proofs.plan.Plan.name_of.Goals as goal

-- the group of a unit is that of its first position
group_of_start : (rs : List Record) (plan : PlanGraph) (u from to : ℕ) → IsPlanGraphOf rs plan → IsSpan plan u from to → group_of_unit rs u ≡ group_at rs from
group_of_start rs plan u from to same is =
    let inside : from < length rs = omega (arith, same.size, is.begins, is.within) in
    ap (option_and_then (group_at rs)) (found_first (length rs) (λ j. unit_at rs j ≡ u) from inside
    (record {
      here = sym (same.units from inside) ∙ (is.exact from (omega (arith, same.size))).1 (omega arith, is.begins);
      before = λ k less e. omega (arith, ((is.exact k (omega (arith, same.size))).0 (same.units k (omega arith) ∙ e)).0);
    })
    _ (first_cases (length rs) (λ j. unit_at rs j == u) (λ j. unit_at rs j ≡ u) (λ j. Decides-eqb (unit_at rs j) u)))

pub returns-in-Group : goal.returns-in-Group
returns-in-Group c =
    let rs = plan_records c.args.self.now in
    let here : option_copied c.request-in-Group.result.now.group ≡ group_at rs c.members.result.start = sym (ap (λ o. option_and_then (λ r. r.group) o) c.request-in-Group.ensures.value) in
    let name : c.group_text.result.now ≡ group_text (group_of_unit rs c.in-Group.unit) =
    c.group_text.ensures ∙ ap group_text (here ∙ sym (group_of_start rs (plan_graph c.args.self.now) c.in-Group.unit c.members.result.start c.members.result.end (shaped c.args.self.now) c.members.ensures.span)) in
    name ∙ ap (need_name rs) (sym c.in-Group.is)
