-- For invariants and private clauses: the marks of what a request names, a number for each request and each unit,
-- which is the stamp of the last request that named it.
use Rattle.std.specs.Prelude.{◌≡◌, ◌≤◌, ◌==◌, ℕ, Bool, false, List, length, slice_index, slice_set}
use Rattle.std.specs.List.{list_any}
use Rattle.odb_doc.specs.batch.Records.{Record}
use Rattle.odb_check.specs.declared.need.Need.{Need}
use Rattle.odb_check.specs.declared.need.Need.TheVariants.{One, Group}
use Rattle.odb_check.specs.Units.{unit_count}

-- the marks of the requests, with that of a need
abbrev pub ones_with : Need → ℕ → List ℕ → List ℕ
ones_with (One p) stamp ones = slice_set ones p stamp
ones_with (Group u) stamp ones = ones

-- the marks of the units, with that of a need
abbrev pub groups_with : Need → ℕ → List ℕ → List ℕ
groups_with (One p) stamp groups = groups
groups_with (Group u) stamp groups = slice_set groups u stamp

-- whether two needs are one
abbrev pub same_need : Need → Need → Bool
same_need (One p) (One q) = p == q
same_need (One p) (Group v) = false
same_need (Group u) (One q) = false
same_need (Group u) (Group v) = u == v

-- a mark for each request and unit, none above a stamp
pub record AreUpTo (rs : List Record) (stamp : ℕ) (ones groups : List ℕ) : Type 0 where
  pub ones_count : length ones ≡ length rs
  pub groups_count : length groups ≡ unit_count rs
  pub ones_low : (p : ℕ) → slice_index ones p ≤ stamp
  pub groups_low : (u : ℕ) → slice_index groups u ≤ stamp

-- those that have the stamp are these needs
pub record AreMarksOf (rs : List Record) (named : List Need) (stamp : ℕ) (ones groups : List ℕ) : Type 0 where
  pub up_to : AreUpTo rs stamp ones groups
  pub ones_are : (p : ℕ) → (slice_index ones p == stamp) ≡ list_any (same_need (One p)) named
  pub groups_are : (u : ℕ) → (slice_index groups u == stamp) ≡ list_any (same_need (Group u)) named
