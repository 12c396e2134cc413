-- What a request that is read keeps of its members, and the rules that are broken where none is read.
use Rattle.std.proofs.Common.{◌∙◌, ap, sym}
use Rattle.serde_json.specs.View.{view}
use Rattle.odb_doc.specs.batch.MembersFound.{HasParts}
use Rattle.odb_doc.specs.batch.Shapes.{listed_names}
use Rattle.odb_doc.specs.Headers.{lent_headers}
use Rattle.odb_doc.specs.Members.{given}
use Rattle.odb_doc.specs.Names.{texts_in}
use Rattle.odb_doc.proofs.DistinctLemmas.{IsDistinct-listed}
use Rattle.odb_doc.proofs.UnbrokenLemmas.{none_broken, no_headers, no_names, no_reference}
use Rattle.odb_doc.proofs.batch.request.Request.read.Goals as goal

pub returns-in_default-2-clause-none : goal.returns-in_default-2-clause-none
returns-in_default-2-clause-none c =
    let d = view c.args.element.now in
    no_names d c.in-Some.line c.in-Some.ensures.line (rw c.in_default-2.is at (c.in_ok-names.ensures d c.of-members.ensures))

pub returns-in_default-3-clause-none : goal.returns-in_default-3-clause-none
returns-in_default-3-clause-none c =
    let d = view c.args.element.now in
    no_headers d c.in-Some.line c.in-Some.ensures.line ((rw c.in_default-3.is at c.in_ok-headers.ensures.none) d c.of-members.ensures)

pub returns-in_default-4-clause-none : goal.returns-in_default-4-clause-none
returns-in_default-4-clause-none c = no_reference (view c.args.element.now) c.in-Some.line c.in-Some.ensures.line (rw c.in_default-4.is at c.in_ok-reference.ensures.none)

pub returns-clause-object : goal.returns-clause-object
returns-clause-object c =
    let d = view c.args.element.now in
    let are = c.of-members.ensures in
    let line = c.in-Some.ensures.line in
    let has = (rw c.in-Some-3.is at c.in_ok-headers.ensures.has) d are in
    let parts : HasParts d c.of-members.result c.in-Some.line.method (lent_headers c.in-Some-3.headers) = record { are = are; has_method = line.method; has_headers = has } in
    none_broken d c.in-Some.line (texts_in c.in-Some-2.names.items) (lent_headers c.in-Some-3.headers) line (rw c.in-Some-2.is at (c.in_ok-names.ensures d are)) has
    (c.in_ok-may_have_body.ensures.fits c.if-not-branch.false d parts) (rw c.in-Some-4.is at c.in_ok-reference.ensures.plain) (rw c.in-Some-4.is at c.in_ok-reference.ensures.fits)

pub returns-clause-says : goal.returns-clause-says
returns-clause-says c =
    let d = view c.args.element.now in
    let line = c.in-Some.ensures.line in
    let are = c.of-members.ensures in
    record {
      id = line.id;
      method = line.method;
      url = line.url;
      group = line.group;
      names = sym (rw c.in-Some-2.is at (c.in_ok-names.ensures d are));
      reference = rw c.in-Some-4.is at c.in_ok-reference.ensures.refers;
      headers = (rw c.in-Some-3.is at c.in_ok-headers.ensures.has) d are;
      body = sym (c.given.ensures ∙ ap given are.body);
    }

pub invariant_of-result-clause-names_apart : goal.invariant_of-result-clause-names_apart
invariant_of-result-clause-names_apart c =
    let d = view c.args.element.now in
    IsDistinct-listed (texts_in c.in-Some-2.names.items) (listed_names d) (rw c.in-Some-2.is at (c.in_ok-names.ensures d c.of-members.ensures))
