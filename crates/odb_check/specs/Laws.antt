-- What holds of the requests of every plan: what a unit is, which texts have a position, and that who depends on a
-- member of another group depends on the group.
use Rattle.std.specs.Prelude.{◌≡◌, ◌↔◌, ◌⊎◌, ℕ, List, Some, Contains}
use Rattle.odb_doc.specs.batch.Records.{Record}
use Rattle.odb_check.specs.declared.need.Need.TheVariants.{One, Group}
use Rattle.odb_check.specs.Needs.{needs_at}
use Rattle.odb_check.specs.Positions.{id_at, group_at, IsInGroupOf}
use Rattle.odb_check.specs.Units.{position_of, unit_at}

-- two positions are in one unit if and only if they are one position, or in one group
pub record HasUnits (rs : List Record) : Type 0 where
  pub together : (i j : ℕ) → (unit_at rs i ≡ unit_at rs j) ↔ ((i ≡ j) ⊎ IsInGroupOf rs i j)

-- what is found for a text is the position that has it as its identifier, and nothing for any other text
pub record HasPositions (rs : List Record) : Type 0 where
  pub found : (id : List ℕ) (p : ℕ) → (position_of rs id ≡ Some p) ↔ (id_at rs p ≡ Some id)

-- a need of a request in a group that is not one's own is a need of that group too
pub record NeedsGroups (rs : List Record) : Type 0 where
  pub needed : (i r : ℕ) (group : List ℕ) → Contains (needs_at rs i) (One r) → group_at rs r ≡ Some group → ¬ (group_at rs i ≡ Some group) → Contains (needs_at rs i) (Group (unit_at rs r))
