use Rattle.std.proofs.Common.{◌≡◌, ◌∙◌, ◌<◌, ◌++◌, add-one, append_assoc, length, get_or, ap, arith, string_bytes}
use Rattle.odb_check.specs.Firsts.{joined_below}
use Rattle.odb_check.specs.Plans.{plan_records}
use Rattle.odb_check.proofs.BelowLemmas.{get_or-list_below, length-list_below}
use Rattle.odb_text.specs.Drawings.{lines_at}
use Rattle.odb_text.specs.Rows.{row_at}
use Rattle.odb_text.proofs.drawing.push_requests.Goals as goal

pub bounds-rows-i : goal.bounds-rows-i
bounds-rows-i c =
    let rs = plan_records c.args.plan.now in
    let size : length c.args.rows.now ≡ length rs = ap length c.requires ∙ length-list_below (length rs) (row_at rs) in
    omega (arith, size, c.loop-i-test.true, c.len-i-end.ensures.count)

pub push_request-requires-clause-row : goal.push_request-requires-clause-row
push_request-requires-clause-row c =
    let rs = plan_records c.args.plan.now in
    let within : c.loop-i.i < length rs = omega (arith, c.loop-i-test.true, c.len-i-end.ensures.count) in
    ap (λ rows. get_or rows c.loop-i.i 0) c.requires ∙ get_or-list_below (length rs) (row_at rs) c.loop-i.i 0 within

pub loop-i-preserved : goal.loop-i-preserved
loop-i-preserved c =
    let lines = lines_at (plan_records c.args.plan.now) in
    rw add-one (c.in_ok-push_request.ensures ∙ ap (λ bs. bs ++ lines c.loop-i.i) c.loop-i.invariant
    ∙ append_assoc (string_bytes c.args.text.now) (joined_below c.loop-i.i lines) (lines c.loop-i.i))
