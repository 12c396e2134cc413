-- Recorded outcomes as the list of their ids and outcomes.
use Rattle.std.specs.Prelude.{List, map}
use Rattle.odb_doc.specs.declared.recorded.outcomes.Outcomes.{Outcomes}
use Rattle.odb_doc.specs.recorded.Outcomes.{Recorded, recorded}

-- the ids and outcomes, in order
abbrev pub entries : Outcomes → List Recorded
entries outcomes = map recorded outcomes.entries.items
