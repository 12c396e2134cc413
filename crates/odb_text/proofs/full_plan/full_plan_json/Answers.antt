use Rattle.std.proofs.Common.{◌≡◌, ◌++◌, codes, length, string_bytes, subst, arith, ℕ}
use Rattle.odb_check.specs.Firsts.{joined_below}
use Rattle.odb_check.specs.Plans.{plan_records}
use Rattle.odb_text.specs.FullPlans.{full_planned}
use Rattle.odb_text.specs.ResultParts.{element}
use Rattle.odb_text.proofs.ResultLemmas.{array_line, requests-line}
use Rattle.odb_text.proofs.full_plan.full_plan_json.Goals as goal

pub returns : goal.returns
returns c =
    let batch = plan_records c.args.plan.now in
    let all : c.loop-i.i ≡ length batch = omega (arith, c.loop-i.auto.i-end, c.loop-i-test.false, c.len-i-end.ensures.count) in
    let text = subst (λ (n : ℕ). string_bytes c.loop-i.text ≡ codes "{\"requests\":[" ++ joined_below n (element (full_planned batch c.args.bodies.now))) all c.loop-i.invariant in
    array_line (length batch) (full_planned batch c.args.bodies.now) (codes "{\"requests\":[") _ (string_bytes c.loop-i.text) _ (requests-line _) text c.in_ok-push_str.ensures.bytes
