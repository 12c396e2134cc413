-- The positions of a batch in the order of their ids.
use Rattle.std.specs.Prelude.{◌≡◌, ◌<◌, ◌↔◌, ℕ, List, [], map, length, All, Contains, Some, option_map, string_bytes, unwrap_or}
use Rattle.std.specs.Cmp.Lexicographic.{slice_cmp}
use Rattle.std.specs.List.Sorted.{IsSortedBy}
use Rattle.std.specs.Ordering.{is_lt, nat_cmp}
use Rattle.odb_reply.specs.Responses.{LabelValue}
use Rattle.odb_live.specs.declared.run.labels.OwnedLabel.{OwnedLabel}
use Rattle.odb_live.specs.declared.run.labels.OwnedLabels.TheInside.{Inside}
use Rattle.odb_live.specs.Labels.{id_at, position_of}

abbrev pub owned_value : OwnedLabel → LabelValue
owned_value label = record { id = string_bytes label.id; group = option_map string_bytes label.group }

abbrev pub values_of : List OwnedLabel → List LabelValue
values_of labels = map owned_value labels

-- the id at a position, or an empty text if there is none
abbrev pub id_or_empty : List OwnedLabel → ℕ → List ℕ
id_or_empty labels i = unwrap_or (id_at (values_of labels) i) []

-- the positions are in the order of their ids
abbrev pub AreById : List OwnedLabel → List ℕ → Type 0
AreById labels positions = IsSortedBy (λ i j. is_lt (slice_cmp nat_cmp (id_or_empty labels i) (id_or_empty labels j))) positions

abbrev pub kept_labels : Inside → List LabelValue
kept_labels table = values_of table.labels.items

-- the positions are in the order of their ids, each is there, and no two have one id
pub record IsTable (table : Inside) : Type 0 where
  pub sorted : AreById table.labels.items table.by_id.items
  pub all : (i : ℕ) → i < length table.labels.items → Contains table.by_id.items i
  pub within : All (λ i. i < length table.labels.items) table.by_id.items
  pub apart : (id : List ℕ) (i : ℕ) → (position_of (kept_labels table) id ≡ Some i) ↔ (id_at (kept_labels table) i ≡ Some id)
