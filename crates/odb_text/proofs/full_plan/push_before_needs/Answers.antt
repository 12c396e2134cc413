use Rattle.std.proofs.Common.{◌≡◌, ◌++◌, OnOk, codes, string_bytes, subst}
use Rattle.odb_names.specs.Methods.{http_name}
use Rattle.odb_doc.specs.batch.Records.{record_of}
use Rattle.odb_text.specs.ResultParts.{body_part, group_part, headers_part, id_part, string_part}
use Rattle.odb_text.proofs.FullPlanLemmas.{five_steps}
use Rattle.odb_text.proofs.full_plan.push_before_needs.Goals as goal

pub returns : goal.returns
returns c =
    let r = record_of c.args.request.now in
    five_steps c.push_string.result (string_bytes c.args.text.now) (string_bytes c.push_body.new.text) (string_bytes c.push_group.new.text) (string_bytes c.push_headers.new.text) (string_bytes c.push_id.new.text) (string_bytes c.push_string.new.text)
    (body_part c.args.body) (group_part r.group) (headers_part r.headers) (id_part r.id c.args.level) (string_part (codes "\"method\":") (http_name r.method))
    c.in_ok-push_body.ensures
    c.in_ok-push_group.ensures
    c.in_ok-push_headers.ensures
    c.in_ok-push_id.ensures
    (subst (λ name. OnOk c.push_string.result (string_bytes c.push_string.new.text ≡ string_bytes c.push_id.new.text ++ string_part (codes "\"method\":") name)) c.http_name.ensures c.push_string.ensures)
