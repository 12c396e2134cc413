-- The ids of elements that are read one by one.
use Rattle.std.proofs.Common.{ℕ, List, ◌++◌, map}
use Rattle.serde_json.specs.View.{view}
use Rattle.serde_json.specs.declared.value.Value.{Value}
use Rattle.odb_doc.specs.recorded.Outcomes.{ids}

abbrev pub ids_on : List (List ℕ) → List Value → List (List ℕ)
ids_on names vs = names ++ ids (map view vs)
