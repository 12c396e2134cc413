use Rattle.std.proofs.Common.{◌≡◌, ◌++◌, codes, length, string_bytes, subst, arith, ℕ}
use Rattle.odb_check.specs.Firsts.{joined_below}
use Rattle.odb_check.specs.Plans.{plan_records}
use Rattle.odb_text.specs.Results.{matched}
use Rattle.odb_text.specs.ResultParts.{element}
use Rattle.odb_text.proofs.ResultLemmas.{array_line, responses-line}
use Rattle.odb_text.proofs.results.match_json.Goals as goal

pub returns : goal.returns
returns c =
    let batch = plan_records c.args.plan.now in
    let all : c.loop-i.i ≡ length batch = omega (arith, c.loop-i.auto.i-end, c.loop-i-test.false, c.len-i-end.ensures.count) in
    let text = subst (λ (n : ℕ). string_bytes c.loop-i.text ≡ codes "{\"responses\":[" ++ joined_below n (element (matched batch c.args.statuses.now))) all c.loop-i.invariant in
    array_line (length batch) (matched batch c.args.statuses.now) (codes "{\"responses\":[") _ (string_bytes c.loop-i.text) _ (responses-line _) text c.in_ok-push_str.ensures.bytes
