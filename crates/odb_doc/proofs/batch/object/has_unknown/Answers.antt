use Rattle.std.proofs.Common.{◌∙◌, sym, rules}
use Rattle.serde_json.specs.View.{view}
use Rattle.odb_doc.specs.Members.{is_unknown, document_names}
use Rattle.odb_doc.proofs.MemberLemmas.{list_any-names_in}
use Rattle.odb_doc.proofs.batch.object.has_unknown.Goals as goal

pub returns-in-Some : goal.returns-in-Some
returns-in-Some c =
    let found = list_any-names_in (is_unknown document_names) (view c.args.document.now) c.in-Some.members.now.entries (search rules) in
    rw (found ∙ sym c.has_unknown_among.ensures) (search rules)
