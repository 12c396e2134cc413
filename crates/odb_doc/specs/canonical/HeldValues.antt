-- What a `Value` of `serde_json` can hold: integers of 64 bits, and objects whose names are in byte order.
use Rattle.std.specs.Prelude.{◌≡◌, ◌<◌, ◌^◌, ℕ, List, pos, negsuc}
use Rattle.std.specs.Cmp.Lexicographic.{slice_cmp}
use Rattle.std.specs.Ordering.{nat_cmp}
use Rattle.std.specs.declared.cmp.Ordering.TheVariants.{Less}
use Rattle.serde_json.specs.Data.{Num, unsigned, negative, float, Data, null, boolean, number, string, array, object, Items, no_items, item, Members, no_members, member}

-- an integer from -2^63 to 2^64 - 1, which is `negative` if and only if it is below 0; or a float. `negsuc n` is -(n + 1)
abbrev pub IsHeldNumber : Num → Type 0
IsHeldNumber (unsigned n) = n < 2 ^ 64
IsHeldNumber (negative (pos n)) = ⊥
IsHeldNumber (negative (negsuc n)) = n < 2 ^ 63
IsHeldNumber (float x) = Unit {0}

-- the name is before each of these, in byte order
abbrev pub IsBelow : List ℕ → Members → Type 0
IsBelow name no_members = Unit {0}
IsBelow name (member other d ms) = (slice_cmp nat_cmp name other ≡ Less) × IsBelow name ms

-- each name is before those after it
abbrev pub AreOrdered : Members → Type 0
AreOrdered no_members = Unit {0}
AreOrdered (member name d ms) = IsBelow name ms × AreOrdered ms

abbrev mutual
  -- each number can be held, however deep, and the names of each object are in order
  pub IsHeld : Data → Type 0
  IsHeld null = Unit {0}
  IsHeld (boolean b) = Unit {0}
  IsHeld (number n) = IsHeldNumber n
  IsHeld (string s) = Unit {0}
  IsHeld (array ds) = AreItemsHeld ds
  IsHeld (object ms) = AreOrdered ms × AreMembersHeld ms

  pub AreItemsHeld : Items → Type 0
  AreItemsHeld no_items = Unit {0}
  AreItemsHeld (item d ds) = IsHeld d × AreItemsHeld ds

  pub AreMembersHeld : Members → Type 0
  AreMembersHeld no_members = Unit {0}
  AreMembersHeld (member name d ms) = IsHeld d × AreMembersHeld ms
