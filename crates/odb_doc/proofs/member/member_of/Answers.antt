use Rattle.std.proofs.Common.{◌∙◌, option_map, ap, rules}
use Rattle.serde_json.specs.View.{view}
use Rattle.odb_doc.proofs.PartLemmas.{get-at}
use Rattle.odb_doc.proofs.member.member_of.Goals as goal

pub returns : goal.returns
returns c = ap (option_map view) c.remove.ensures.value ∙ get-at c.args.name.now (view c.args.value) c.in_ok-members.members (search rules)
