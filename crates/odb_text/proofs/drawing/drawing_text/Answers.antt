use Rattle.std.proofs.Common.{◌≡◌, ◌∙◌, ◌+◌, ◌++◌, suc, length, string_bytes, codes, ap, arith}
use Rattle.odb_check.specs.Firsts.{joined_below}
use Rattle.odb_check.specs.Plans.{plan_records}
use Rattle.odb_text.specs.Drawings.{greatest_level, level_line, lines_at, row_lines}
use Rattle.odb_text.proofs.DrawingLemmas.{five_parts}
use Rattle.odb_text.proofs.drawing.drawing_text.Goals as goal

pub returns : goal.returns
returns c =
    let rs = plan_records c.args.plan.now in
    let greatest = c.greatest_level-greatest.result in
    let is : greatest ≡ greatest_level rs = c.greatest_level-greatest.ensures.value in
    let levels : greatest + 1 ≡ suc (greatest_level rs) = omega (arith, is) in
    let count : length c.deref-2.result.now ≡ suc (greatest_level rs) = ap length c.deref-2.ensures.value ∙ c.in_ok-rows.ensures.levels ∙ levels in
    five_parts (string_bytes c.in_ok-text.text) (string_bytes c.push_requests.new.text) (string_bytes c.push_rows.new.text) (string_bytes c.push_levels.new.text) (string_bytes c.push_str.new.self)
    (codes "digraph plan {\n  compound=true; newrank=true; node [shape=box]\n") (joined_below (length rs) (lines_at rs)) (joined_below (suc (greatest_level rs)) (row_lines rs)) (joined_below (greatest_level rs) (level_line rs)) (codes "}\n")
    c.in_ok-text.ensures.ok
    c.in_ok-push_requests.ensures
    (c.in_ok-push_rows.ensures ∙ ap (λ n. string_bytes c.push_requests.new.text ++ joined_below n (row_lines rs)) count)
    (c.in_ok-push_levels.ensures ∙ ap (λ n. string_bytes c.push_rows.new.text ++ joined_below n (level_line rs)) is)
    c.in_ok-push_str.ensures.bytes
