use Rattle.std.proofs.Common.{◌∙◌, sym, rules}
use Rattle.serde_json.specs.View.{view}
use Rattle.odb_doc.specs.Members.{is_other, members_of}
use Rattle.odb_doc.proofs.MemberLemmas.{list_any-names_in}
use Rattle.odb_doc.proofs.member.Object.has_other.Goals as goal

pub returns-in-Some : goal.returns-in-Some
returns-in-Some c =
    let found = list_any-names_in (is_other (members_of c.args.self)) (view c.args.value.now) c.in-Some.members.now.entries (search rules) in
    rw (found ∙ sym c.has_other_among.ensures) (search rules)
