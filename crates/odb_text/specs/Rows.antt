-- The rows in which a level is drawn: its requests side by side in the order of the batch, at most 12 in a row.
use Rattle.std.specs.Prelude.{◌≡◌, ◌<◌, ℕ, zero, suc, ◌+◌, ◌-◌, ◌==◌, Bool, false, ◌&&◌, ◌||◌, if◌then◌else◌, nat_lt, List, Some, length, slice_get, unwrap_or}
use Rattle.odb_doc.specs.batch.Records.{Record}
use Rattle.odb_check.specs.Firsts.{first_below}
use Rattle.odb_check.specs.Levels.{level_at}
use Rattle.odb_check.specs.Units.{unit_at, unit_size}
use Rattle.odb_text.specs.declared.rows.Row.{Row}

-- the first request of a unit
abbrev pub first_of_unit : List Record → ℕ → ℕ
first_of_unit rs u = unwrap_or (first_below (length rs) (λ j. unit_at rs j == u)) 0

-- Whether a unit has no place in a row with so many requests: it does not fit into it, or the unit before it is larger than a
-- row, and so has its rows to itself.
abbrev pub has_no_place : List Record → ℕ → ℕ → Bool
has_no_place rs u used = nat_lt 12 (used + unit_size rs u) || nat_lt 12 (unit_size rs (u - 1))

-- Whether request i begins a row, if the row before it has so many requests: that is full, or the request is the first of its
-- unit, which has no place in it. A row without requests has a place for each.
abbrev pub begins_row : List Record → ℕ → ℕ → Bool
begins_row rs i used = if used == 0 then false else (used == 12 || (first_of_unit rs (unit_at rs i) == i && has_no_place rs (unit_at rs i) used))

-- the last row of a level with request i of that level
abbrev pub next_row : List Record → ℕ → Row → Row
next_row rs i row = if begins_row rs i row.used then record { number = row.number + 1; used = 1 } else record { number = row.number; used = row.used + 1 }

-- the last row of a level, as far as the first n requests are in it
abbrev pub last_row : List Record → ℕ → ℕ → Row
last_row rs level zero = record { number = 0; used = 0 }
last_row rs level (suc n) = if level_at rs n == level then next_row rs n (last_row rs level n) else last_row rs level n

-- the row of a request in its level, from 0
abbrev pub row_at : List Record → ℕ → ℕ
row_at rs i = (next_row rs i (last_row rs (level_at rs i) i)).number

-- the last row of a level, from 0
abbrev pub end_row : List Record → ℕ → ℕ
end_row rs level = (last_row rs level (length rs)).number

-- the last row of each level, from level 0 on
abbrev pub AreEnds : List Record → List Row → Type 0
AreEnds rs ends = (level : ℕ) → level < length ends → slice_get ends level ≡ Some (last_row rs level (length rs))
