use Rattle.std.proofs.Common.{ap, ◌∙◌, length, get_or, arith}
use Rattle.std.proofs.lemmas.Grind.{get_or_default_zero}
use Rattle.odb_check.specs.Levels.{levels_below}
use Rattle.odb_check.specs.Plans.{plan_records}
use Rattle.odb_check.proofs.LevelLemmas.{length-levels_below}
use Rattle.odb_check.proofs.plan.Plan.level.Goals as goal

pub index-requires : goal.index-requires
index-requires c = omega (arith, c.requires, ap length c.args.self.now.leveled, length-levels_below (plan_records c.args.self.now) (length (plan_records c.args.self.now)))

pub returns : goal.returns
returns c =
    let rs = plan_records c.args.self.now in
    c.index.ensures ∙ ap (λ xs. get_or xs c.args.i c.index.result.now) c.args.self.now.leveled
    ∙ get_or_default_zero (levels_below rs (length rs)) c.args.i c.index.result.now (omega (arith, c.requires, length-levels_below rs (length rs)))
