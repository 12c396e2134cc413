use Rattle.std.proofs.Common.{◌≡◌, drop}
use Rattle.serde_json.specs.View.{items_view}
use Rattle.odb_doc.specs.Names.{texts_in}
use Rattle.odb_doc.specs.batch.Shapes.{texts_of}
use Rattle.odb_doc.proofs.ArrayLemmas.{texts_on}
use Rattle.odb_doc.proofs.batch.depends_on.all_texts.Given as goal

-- the texts so far, and then those that are left, are the whole
abbrev pub invariant-loop-element : goal.invariant-loop-element
invariant-loop-element l = texts_on (texts_in l.texts.items) (drop l.element-index l.elements) ≡ texts_of (items_view l.elements)
