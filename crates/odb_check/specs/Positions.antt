-- What the positions of a batch have (OData JSON Format 4.01, section 19.1).
use Rattle.std.specs.Prelude.{◌≡◌, ◌<◌, ◌≤◌, ℕ, List, [], Option, Some, option_map, option_and_then, unwrap_or, slice_get, Contains}
use Rattle.odb_doc.specs.batch.Records.{Record}

-- the identifier, if the batch has the position
abbrev pub id_at : List Record → ℕ → Option (List ℕ)
id_at rs i = option_map (λ r. r.id) (slice_get rs i)

-- the group, if the position has one
abbrev pub group_at : List Record → ℕ → Option (List ℕ)
group_at rs i = option_and_then (λ r. r.group) (slice_get rs i)

-- the names in `dependsOn`
abbrev pub names_at : List Record → ℕ → List (List ℕ)
names_at rs i = unwrap_or (option_map (λ r. r.names) (slice_get rs i)) []

-- the reference, if the position has one
abbrev pub reference_at : List Record → ℕ → Option (List ℕ)
reference_at rs i = option_and_then (λ r. r.reference) (slice_get rs i)

-- some position has this identifier
abbrev pub IsId : List Record → List ℕ → Type 0
IsId rs name = (j : ℕ) × (id_at rs j ≡ Some name)

-- some position before i has this identifier
abbrev pub IsIdBefore : List Record → List ℕ → ℕ → Type 0
IsIdBefore rs name i = (j : ℕ) × (j < i) × (id_at rs j ≡ Some name)

-- position i or a later one has this identifier
abbrev pub IsIdFrom : List Record → List ℕ → ℕ → Type 0
IsIdFrom rs name i = (j : ℕ) × (i ≤ j) × (id_at rs j ≡ Some name)

-- some position is in this group
abbrev pub IsGroup : List Record → List ℕ → Type 0
IsGroup rs name = (j : ℕ) × (group_at rs j ≡ Some name)

-- some position before i is in this group
abbrev pub IsGroupBefore : List Record → List ℕ → ℕ → Type 0
IsGroupBefore rs name i = (j : ℕ) × (j < i) × (group_at rs j ≡ Some name)

-- it is a group, and all its positions come after i
abbrev pub IsGroupAfter : List Record → List ℕ → ℕ → Type 0
IsGroupAfter rs name i = IsGroup rs name × ((j : ℕ) → group_at rs j ≡ Some name → i < j)

-- i and j are in one group
abbrev pub IsInGroupOf : List Record → ℕ → ℕ → Type 0
IsInGroupOf rs i j = (group : List ℕ) × (group_at rs i ≡ Some group) × (group_at rs j ≡ Some group)

-- i names the group of j
abbrev pub NamesGroupOf : List Record → ℕ → ℕ → Type 0
NamesGroupOf rs i j = (group : List ℕ) × (group_at rs j ≡ Some group) × Contains (names_at rs i) group
