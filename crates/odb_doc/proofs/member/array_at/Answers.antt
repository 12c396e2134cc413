use Rattle.std.proofs.Common.{refl, rules}
use Rattle.std.proofs.lemmas.List.{length-map}
use Rattle.serde_json.specs.View.{view}
use Rattle.odb_doc.proofs.ElementLemmas.{elements-array}
use Rattle.odb_doc.proofs.member.array_at.Goals as goal

pub returns-clause-elements : goal.returns-clause-elements
returns-clause-elements c =
    let whole = elements-array c.args.name.now (view c.args.value.now) c.in_ok-as_array.field-0.now.items (search rules) in
    rw (whole, c.as_slice.ensures.value) refl

pub returns-clause-len : goal.returns-clause-len
returns-clause-len c =
    let whole = elements-array c.args.name.now (view c.args.value.now) c.in_ok-as_array.field-0.now.items (search rules) in
    rw (whole, c.as_slice.ensures.value) (length-map c.in_ok-as_array.field-0.now.items view)
