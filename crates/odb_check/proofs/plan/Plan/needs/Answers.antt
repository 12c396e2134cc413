use Rattle.std.proofs.Common.{◌∙◌, [], All, ap, arith, get_or, subst, sym}
use Rattle.odb_check.specs.PlanGraph.{IsNeed}
use Rattle.odb_check.specs.Plans.{plan_records, plan_graph}
use Rattle.odb_check.proofs.LevelLemmas.{row_is}
use Rattle.odb_check.proofs.PlanLemmas.{kept_needs, needs_known, shaped}
use Rattle.odb_check.proofs.plan.Plan.needs.Goals as goal

pub row-requires : goal.row-requires
row-requires c = (row_is (plan_records c.args.self.now) c.args.self.now.needs c.args.i c.args.self.now.needed (omega (arith, c.requires, (shaped c.args.self.now).size))).0

pub returns-clause-value : goal.returns-clause-value
returns-clause-value c = c.row.ensures.row ∙ (row_is (plan_records c.args.self.now) c.args.self.now.needs c.args.i c.args.self.now.needed (omega (arith, c.requires, (shaped c.args.self.now).size))).1

pub returns-clause-needs : goal.returns-clause-needs
returns-clause-needs c = c.row.ensures.row ∙ ap (λ rows. get_or rows c.args.i []) (kept_needs c.args.self.now)

pub returns-clause-known : goal.returns-clause-known
returns-clause-known c = subst (All (IsNeed (plan_graph c.args.self.now))) (sym (returns-clause-value c)) (needs_known c.args.self.now c.args.i)
