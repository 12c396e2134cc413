-- What the requests of a batch need (OData JSON Format 4.01, section 19.1, `dependsOn`, and section 19.2).
use Rattle.std.specs.Prelude.{ℕ, List, [], ◌∷◌, ◌++◌, Option, Some, None, bytes_eq, cond, length}
use Rattle.std.specs.List.{list_any, filter_map}
use Rattle.odb_doc.specs.batch.Records.{Record}
use Rattle.odb_check.specs.declared.need.Need.{Need}
use Rattle.odb_check.specs.declared.need.Need.TheVariants.{One, Group}
use Rattle.odb_check.specs.Firsts.{list_below}
use Rattle.odb_check.specs.Positions.{names_at, reference_at}
use Rattle.odb_check.specs.Units.{position_of, unit_of_group}

-- a position, or else a unit
abbrev pub need_at : Option ℕ → Option ℕ → Option Need
need_at (Some position) unit = Some (One position)
need_at None (Some unit) = Some (Group unit)
need_at None None = None

-- an identifier resolves to its position and a group to its unit, any other text to nothing
abbrev pub need_of : List Record → List ℕ → Option Need
need_of rs name = need_at (position_of rs name) (unit_of_group rs name)

-- the reference, unless it is among the names
abbrev pub further_names : List (List ℕ) → Option (List ℕ) → List (List ℕ)
further_names names None = []
further_names names (Some id) = cond (list_any (bytes_eq id) names) [] (id ∷ [])

-- the names in `dependsOn`, and then the reference unless it is among them
abbrev pub needed_names : List Record → ℕ → List (List ℕ)
needed_names rs i = names_at rs i ++ further_names (names_at rs i) (reference_at rs i)

-- what these names resolve to
abbrev pub needs_at : List Record → ℕ → List Need
needs_at rs i = filter_map (need_of rs) (needed_names rs i)

-- the needs of each request
abbrev pub needs_of_each : List Record → List (List Need)
needs_of_each rs = list_below (length rs) (needs_at rs)
