-- What a set keeps that is both a list and bits: for its invariant, nothing to believe.
use Rattle.std.specs.Prelude.{◌≡◌, Bool, List}
use Rattle.odb_dense.specs.declared.min_max_set.MinMaxSet.TheInside.{Inside}

-- which numbers are in the set
abbrev pub members : Inside → List Bool
members s = s.listed

-- both have the same numbers
abbrev pub AreSame : Inside → Type 0
AreSame s = s.bits ≡ s.listed
