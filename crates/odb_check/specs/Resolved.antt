-- For invariants and private clauses: the request that is checked.
use Rattle.std.specs.Prelude.{◌≡◌, ◌<◌, ◌⊎◌, ℕ, Bool, List, Option, Some}
use Rattle.std.specs.Bool.{Decides}
use Rattle.odb_doc.specs.batch.Records.{Record}
use Rattle.odb_check.specs.declared.names.Resolved.{Resolved}
use Rattle.odb_check.specs.declared.need.Need.{Need}
use Rattle.odb_check.specs.NameFaults.{IsMemberAlone}
use Rattle.odb_check.specs.Needs.{need_of}
use Rattle.odb_check.specs.Positions.{group_at, IsIdFrom, IsGroupAfter, IsInGroupOf, NamesGroupOf}
use Rattle.odb_check.specs.Requests.{requests}
use Rattle.odb_check.specs.Units.{referred_at}

-- the requests of its batch
abbrev pub batch_of : Resolved → List Record
batch_of resolved = requests resolved.tables.now

-- the position that it refers to
abbrev pub referred_by : Resolved → Option ℕ
referred_by resolved = referred_at (batch_of resolved) resolved.i

-- the answer decides this of each name that resolves to the need
abbrev pub IsAnswer : List Record → Need → Bool → (List ℕ → Type 0) → Type 0
IsAnswer rs need answer P = (name : List ℕ) → need_of rs name ≡ Some need → Decides answer (P name)

-- p precedes i and is in another group, which the names at i lack
abbrev pub MissesGroupOf : List Record → ℕ → ℕ → Type 0
MissesGroupOf rs i p = (p < i) × ¬ IsInGroupOf rs i p × ¬ NamesGroupOf rs i p

-- the name breaks F41, F42 or F43 at i
abbrev pub BreaksByName : List Record → ℕ → List ℕ → Type 0
BreaksByName rs i name = (IsIdFrom rs name i ⊎ IsGroupAfter rs name i) ⊎ (group_at rs i ≡ Some name) ⊎ IsMemberAlone rs i name
