use Rattle.std.proofs.Common.{◌∙◌, is_some, ap, refl, string_bytes, sym, rules}
use Rattle.serde_json.specs.View.{view}
use Rattle.odb_doc.proofs.HeaderLemmas.{AddsMember-from, RefusesMember-other, RefusesMember-twice}
use Rattle.odb_doc.proofs.headers.put.Goals as goal

pub returns-in_default-clause-refused : goal.returns-in_default-clause-refused
returns-in_default-clause-refused g c = (refl, RefusesMember-other (string_bytes c.args.name) (view c.args.value) c.args.headers.now (search rules))

pub returns-then-is_some-clause-refused : goal.returns-then-is_some-clause-refused
returns-then-is_some-clause-refused g c =
    (refl, RefusesMember-twice _ _ c.lowercase.result c.args.headers.now c.lowercase.ensures (ap is_some (sym c.in_ok-insert.ensures.old) ∙ sym c.is_some.ensures ∙ c.if-is_some.true))

pub returns-clause-added : goal.returns-clause-added
returns-clause-added g c =
    AddsMember-from _ _ c.lowercase.result c.in-Some.text c.args.headers.now c.insert.new.self c.lowercase.ensures (search rules) (ap is_some (sym c.in_ok-insert.ensures.old) ∙ sym c.is_some.ensures ∙ c.if-is_some.false) c.in_ok-insert.ensures.entries c.in_ok-insert.ensures.ordered
