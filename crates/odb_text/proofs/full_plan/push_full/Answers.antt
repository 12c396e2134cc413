use Rattle.std.proofs.Common.{◌≡◌, ◌∙◌, ◌++◌, false, nat_lt, OnOk, ap, codes, string_bytes, subst, sym}
use Rattle.serde_json.specs.View.{items_of}
use Rattle.serde_json.specs.Written.{comma_if, items_text}
use Rattle.odb_doc.specs.batch.Records.{record_of}
use Rattle.odb_check.specs.Levels.{level_at}
use Rattle.odb_check.specs.Needs.{needs_at}
use Rattle.odb_check.specs.Plans.{plan_records}
use Rattle.odb_text.specs.Results.{need_values}
use Rattle.odb_text.specs.ResultParts.{before_needs_part, url_part}
use Rattle.odb_text.proofs.FullPlanLemmas.{five_steps, full-parts}
use Rattle.odb_text.proofs.full_plan.push_full.Goals as goal

pub returns : goal.returns
returns c =
    let batch = plan_records c.args.plan.now in
    let r = record_of c.request-request.result.now in
    let body = c.body_at.result in
    let parts = full-parts batch c.args.bodies.now c.args.i r body c.request-request.ensures.value c.body_at.ensures in
    let opened = string_bytes c.push_open.new.text in
    let front = string_bytes c.push_before_needs.new.text in
    let names = string_bytes c.push_str.new.self in
    subst (λ piece. OnOk c.push_url.result (string_bytes c.push_url.new.text ≡ string_bytes c.args.text.now ++ piece)) (sym parts)
    (five_steps c.push_url.result (string_bytes c.args.text.now) opened front names (string_bytes c.push_needs.new.text) (string_bytes c.push_url.new.text)
    (comma_if (nat_lt 0 c.args.i) ++ codes "{") (before_needs_part body (level_at batch c.args.i) r) (codes ",\"needs\":[") (items_text false (items_of (need_values batch (needs_at batch c.args.i)))) (url_part r)
    c.in_ok-push_open.ensures
    (c.in_ok-push_before_needs.ensures ∙ ap (λ level. opened ++ before_needs_part body level r) c.level.ensures)
    c.in_ok-push_str.ensures.bytes
    (c.in_ok-push_needs.ensures ∙ ap (λ needs. names ++ items_text false (items_of (need_values batch needs))) c.needs.ensures.value)
    c.push_url.ensures)
