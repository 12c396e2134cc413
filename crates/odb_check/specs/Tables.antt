-- For invariants and private clauses: what the tables of identifiers and groups hold.
use Rattle.std.specs.Prelude.{◌≡◌, ◌≤◌, ◌<◌, ℕ, zero, suc, true, List, [], Option, option_map, option_and_then, unwrap_or, is_some, bytes_eq, length, slice_index, Some, None, cond}
use Rattle.std.specs.List.{IsDistinct}
use Rattle.std.specs.BTreeMap.{get_by_text, btree_map_len}
use Rattle.indexmap.specs.IndexMap.{get_by, index_map_len}
use Rattle.odb_doc.specs.Names.{with_name}
use Rattle.odb_doc.specs.batch.Records.{Record}
use Rattle.odb_check.specs.declared.table.Table.{Table}
use Rattle.odb_check.specs.declared.table.Table.TheVariants as tables
use Rattle.odb_check.specs.declared.fault.NameRule.TheVariants.{IdTwice}
use Rattle.odb_check.specs.NameFaults.{IsBrokenAt}
use Rattle.odb_check.specs.Positions.{group_at, names_at}
use Rattle.odb_check.specs.Firsts.{list_below}
use Rattle.odb_check.specs.Units.{first_id, first_in_group, units_before, unit_at, begins_unit}

-- what a table has at a text
abbrev pub at_text : Table → List ℕ → Option ℕ
at_text (tables.Hashed map) text = get_by (λ k. bytes_eq text k.now) map
at_text (tables.Sorted map) text = get_by_text map text

-- how many texts a table has
abbrev pub table_len : Table → ℕ
table_len (tables.Hashed map) = index_map_len map
table_len (tables.Sorted map) = btree_map_len map

-- how many texts more a table has once it has this one
abbrev pub more_with : Table → Option (List ℕ) → ℕ
more_with table None = 0
more_with table (Some text) = cond (is_some (at_text table text)) 0 1

-- the unit that a table has for a group, or else the next one
abbrev pub unit_among : Table → Option (List ℕ) → ℕ → ℕ
unit_among groups group next = unwrap_or (option_and_then (at_text groups) group) next

-- the unit begins at the position
pub record IsStartOf (rs : List Record) (u start : ℕ) : Type 0 where
  pub within : start < length rs
  pub begins : begins_unit rs start ≡ true
  pub number : units_before rs start ≡ u

-- the names, and this group at the end unless it is none or one of them
abbrev pub with_group : List (List ℕ) → Option (List ℕ) → List (List ℕ)
with_group names None = names
with_group names (Some group) = with_name names group

-- the different groups of the first n requests
abbrev pub groups_below : List Record → ℕ → List (List ℕ)
groups_below rs zero = []
groups_below rs (suc n) = with_group (groups_below rs n) (group_at rs n)

-- none of the first n requests has the identifier of one before it
abbrev pub AreIdsDistinct : List Record → ℕ → Type 0
AreIdsDistinct rs n = (k : ℕ) → k < n → ¬ IsBrokenAt IdTwice rs k

-- the first n requests, as tables
pub record AreTablesOf (rs : List Record) (n : ℕ) (ids groups : Table) (units starts : List ℕ) : Type 0 where
  pub ids_are : (q : List ℕ) → at_text ids q ≡ first_id rs n q
  pub groups_are : (q : List ℕ) → at_text groups q ≡ option_map (units_before rs) (first_in_group rs n q)
  pub groups_count : table_len groups ≡ length (groups_below rs n)
  pub groups_few : table_len groups ≤ n
  pub units_are : units ≡ list_below n (unit_at rs)
  pub starts_are : (u : ℕ) → u < units_before rs n → IsStartOf rs u (slice_index starts u)
  pub count : length starts ≡ units_before rs n
  pub few : length starts ≤ n
  pub names_apart : (k : ℕ) → k < n → IsDistinct bytes_eq (names_at rs k)
