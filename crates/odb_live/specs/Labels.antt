-- The ids and groups of the requests of a batch, once nothing else of it is held.
use Rattle.std.specs.Prelude.{ℕ, List, [], ◌∷◌, ◌++◌, length, Option, option_map, slice_get, unwrap_or}
use Rattle.odb_check.specs.Firsts.{first_below, is_text, joined_below}
use Rattle.odb_check.specs.Texts.{newline}
use Rattle.odb_reply.specs.Responses.{LabelValue}

-- the id at a position, if there is one
abbrev pub id_at : List LabelValue → ℕ → Option (List ℕ)
id_at labels i = option_map (λ label. label.id) (slice_get labels i)

-- the position of an id, none for any other text
abbrev pub position_of : List LabelValue → List ℕ → Option ℕ
position_of labels id = first_below (length labels) (λ i. is_text id (id_at labels i))

-- the id at a position as a line
abbrev pub id_line : List LabelValue → ℕ → List ℕ
id_line labels i = unwrap_or (id_at labels i) [] ++ newline ∷ []

-- the ids, one a line, in the order of their positions
abbrev pub id_lines : List LabelValue → List ℕ
id_lines labels = joined_below (length labels) (id_line labels)
