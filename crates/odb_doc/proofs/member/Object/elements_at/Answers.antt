use Rattle.std.proofs.Common.{◌≡◌, option_map, rules}
use Rattle.serde_json.specs.View.{view, items_view}
use Rattle.odb_doc.specs.Members.{array_at}
use Rattle.odb_doc.proofs.ElementLemmas.{elements-moved}
use Rattle.odb_doc.proofs.member.Object.elements_at.Goals as goal

pub returns-clause-elements : goal.returns-clause-elements
returns-clause-elements c =
    let array : option_map (λ v. items_view v.items) c.array_of.result ≡ array_at c.args.name.now (view c.args.document) = search rules in
    elements-moved c.args.name.now (view c.args.document) c.array_of.result array
