use Rattle.std.proofs.Common.{◌≡◌, ◌∙◌, Some, codes, string_bytes, ap, sym, rules}
use Rattle.serde_json.specs.Find.{get}
use Rattle.serde_json.specs.View.{view, members_view, number_view}
use Rattle.odb_doc.specs.Headers.{headers_in}
use Rattle.odb_doc.specs.Members.{given, text_at}
use Rattle.odb_doc.specs.recorded.Outcomes.{status_of}
use Rattle.odb_doc.specs.recorded.RawOutcomes.{AreFoundIn}
use Rattle.odb_doc.proofs.MemberLemmas.{object-from}
use Rattle.odb_doc.proofs.ApartLemmas.{IsHeaders-from}
use Rattle.odb_doc.proofs.recorded.outcome.raw_outcome_of.Goals as goal

pub returns-in-Some-Some-clause-has : goal.returns-in-Some-Some-clause-has
returns-in-Some-Some-clause-has g c =
    let d = view c.args.element.now in
    let found : AreFoundIn c.args.kind c.args.name.now d c.among-parts.result = rw (object-from d (members_view c.in-Some.members.now.entries) (search rules)) c.among-parts.ensures in
    let id : text_at c.args.name.now d ≡ Some (string_bytes c.in-Some-Some.id) = search rules in
    let status : status_of d ≡ Some (number_view c.in-Some-Some.status) = search rules in
    let headers = rw found.headers at c.in_ok-headers.ensures.has in
    record {
      object = record {
        known = search rules;
        id = rw id;
        status = rw status;
        headers = IsHeaders-from (get (codes "headers") d) (headers_in c.in_ok-headers.headers) headers;
      };
      id = id;
      status = status;
      headers = headers;
      body = ap given (sym found.body) ∙ sym c.unless_null.ensures;
    }
