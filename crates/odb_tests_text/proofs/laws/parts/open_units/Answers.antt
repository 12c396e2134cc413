use Rattle.std.proofs.Common.{rules, ℕ, Bool}
use Rattle.odb_check.specs.Plans.{plan_records, plan_graph}
use Rattle.odb_send.specs.NextPart.{may_start, state_at}
use Rattle.odb_send.proofs.MarkLemmas.{passing_marks}
use Rattle.odb_send.proofs.NextPartLemmas.{ok_by}
use Rattle.odb_tests_text.proofs.laws.parts.open_units.Goals as goal

pub returns : goal.returns
returns c =
    let test : ℕ → Bool = λ i. may_start (state_at c.args.states.now i) in
    ok_by c.passing_units.result _ _ (λ units are. passing_marks (plan_records c.args.plan.now) (plan_graph c.args.plan.now) test units.items c.every_plan.ensures.plan_graph are)
    (c.passing_units.ensures test (λ i answer less post. search rules))
