use Rattle.std.proofs.Common.{◌≡◌, drop, map}
use Rattle.serde_json.specs.View.{view}
use Rattle.odb_doc.specs.Names.{texts_in}
use Rattle.odb_doc.specs.recorded.Outcomes.{ids}
use Rattle.odb_doc.proofs.WatchLemmas.{ids_on}
use Rattle.odb_doc.proofs.recorded.outcomes.ids_of.Given as goal

-- the ids so far, and then those of the elements to come, are the whole
abbrev pub invariant-loop-element : goal.invariant-loop-element
invariant-loop-element l = ids_on (texts_in l.found.items) (drop l.element-index l.elements) ≡ ids (map view l.elements)
