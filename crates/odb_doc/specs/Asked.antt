-- The element of which rules are asked: for private clauses, nothing to believe.
use Rattle.serde_json.specs.Data.{Data}
use Rattle.serde_json.specs.View.{view}
use Rattle.odb_doc.specs.declared.batch.asked.Asked.{Asked}
use Rattle.odb_doc.specs.batch.MembersFound.{AreMembersOf}

abbrev pub asked : Asked → Data
asked request = view request.element.now

-- the members are those of the element
abbrev pub HasMembers : Asked → Type 0
HasMembers request = AreMembersOf (asked request) request.members
