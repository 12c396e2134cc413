-- The units of a batch: its atomicity groups, and its requests without a group (OData JSON Format 4.01,
-- section 19.1, `atomicityGroup`).
use Rattle.std.specs.Prelude.{◌==◌, ℕ, Bool, true, not, is_some, List, Option, Some, None, option_and_then, option_map, unwrap_or, length}
use Rattle.std.specs.List.{filter_map}
use Rattle.odb_doc.specs.Names.{distinct}
use Rattle.odb_doc.specs.batch.Records.{Record}
use Rattle.odb_check.specs.Positions.{id_at, group_at, reference_at}
use Rattle.odb_check.specs.Firsts.{first_below, count_below, is_text}

-- the first position with this identifier, among the first n
abbrev pub first_id : List Record → ℕ → List ℕ → Option ℕ
first_id rs n id = first_below n (λ j. is_text id (id_at rs j))

-- the first position in this group, among the first n
abbrev pub first_in_group : List Record → ℕ → List ℕ → Option ℕ
first_in_group rs n group = first_below n (λ j. is_text group (group_at rs j))

-- whether no position before i is in the group
abbrev pub is_new_group : List Record → ℕ → Option (List ℕ) → Bool
is_new_group rs i None = true
is_new_group rs i (Some group) = not (is_some (first_in_group rs i group))

-- whether a unit begins at i
abbrev pub begins_unit : List Record → ℕ → Bool
begins_unit rs i = is_new_group rs i (group_at rs i)

-- how many units begin before i
abbrev pub units_before : List Record → ℕ → ℕ
units_before rs i = count_below i (begins_unit rs)

-- the number of units
abbrev pub unit_count : List Record → ℕ
unit_count rs = units_before rs (length rs)

-- where the unit of a position with this group begins
abbrev pub begin_in : List Record → ℕ → Option (List ℕ) → ℕ
begin_in rs i None = i
begin_in rs i (Some group) = unwrap_or (first_in_group rs i group) i

-- where the unit of i begins
abbrev pub unit_begin : List Record → ℕ → ℕ
unit_begin rs i = begin_in rs i (group_at rs i)

-- the unit of i: units are numbered from 0 in the order in which they begin
abbrev pub unit_at : List Record → ℕ → ℕ
unit_at rs i = units_before rs (unit_begin rs i)

-- how many requests a unit has
abbrev pub unit_size : List Record → ℕ → ℕ
unit_size rs u = count_below (length rs) (λ i. unit_at rs i == u)

-- the position of an identifier, none for any other text
abbrev pub position_of : List Record → List ℕ → Option ℕ
position_of rs id = first_id rs (length rs) id

-- the position of the request that the URL at a position refers to, if it refers to one
abbrev pub referred_at : List Record → ℕ → Option ℕ
referred_at rs i = option_and_then (position_of rs) (reference_at rs i)

-- the first position in a group
abbrev pub group_begin : List Record → List ℕ → Option ℕ
group_begin rs group = first_in_group rs (length rs) group

-- the unit of a group, none for any other text
abbrev pub unit_of_group : List Record → List ℕ → Option ℕ
unit_of_group rs group = option_map (units_before rs) (group_begin rs group)

-- the different groups, in the order of their first positions
abbrev pub groups_of : List Record → List (List ℕ)
groups_of batch = distinct (filter_map (λ request. request.group) batch)
