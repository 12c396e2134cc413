-- The parts of one request.
use Rattle.std.proofs.Common.{◌∙◌, ℕ, List, string_bytes, subst}
use Rattle.odb_doc.specs.batch.Records.{record_of}
use Rattle.odb_check.specs.Plans.{plan_records}
use Rattle.odb_send.specs.Parts.{HasPart, needs_text}
use Rattle.odb_send.proofs.PartLemmas.{kept-part, kept-part-if, needs-record, of-same, referred-record, same-record, twice}
use Rattle.odb_send.proofs.parts.push_request.Goals as goal

pub returns-clause-parts : goal.returns-clause-parts
returns-clause-parts c = λ r at.
    let batch = plan_records c.args.plan.now in
    let x = record_of c.request-request.result.now in
    let after_id = string_bytes c.push_part.new.text in
    let after_method = string_bytes c.push_part-2.new.text in
    let after_url = string_bytes c.push_part-3.new.text in
    let after_headers = string_bytes c.push_headers_part.new.text in
    let after_group = string_bytes c.push_part_if.new.text in
    let end = string_bytes c.push_needs_part.new.text in
    let from_headers = twice after_headers after_group end c.in_ok-group.ensures.text c.in_ok-needs.ensures.text in
    let from_url = twice after_url after_headers end c.in_ok-headers.ensures.text from_headers in
    let from_method = twice after_method after_url end c.in_ok-url.ensures.text from_url in
    let from_id = twice after_id after_method end c.in_ok-method.ensures.text from_method in
    of-same batch end x r _ (same-record batch c.args.i x r c.request-request.ensures.value at) (record {
      id = kept-part after_id end _ _ from_id c.in_ok-id.ensures.part;
      method = kept-part after_method end _ _ from_method (subst (λ (name : List ℕ). HasPart after_method name c.in_ok-method.method) c.http_name.ensures c.in_ok-method.ensures.part);
      url = kept-part after_url end _ _ from_url c.in_ok-url.ensures.part;
      rest = kept-part after_url end _ _ from_url (c.rest_in.ensures after_url c.in_ok-url.ensures.part);
      reference = c.referred.ensures ∙ referred-record batch c.args.i x c.request-request.ensures.value;
      headers = kept-part after_headers end _ _ from_headers c.in_ok-headers.ensures.part;
      group = kept-part-if after_group end _ _ c.in_ok-needs.ensures.text c.in_ok-group.ensures.part;
      needs = subst (λ needs. HasPart end (needs_text batch needs) c.in_ok-needs.needs) (needs-record batch c.args.i x c.request-request.ensures.value) c.in_ok-needs.ensures.part;
    })
