-- Parts that a live run gives.
use Rattle.std.specs.Prelude.{◌≡◌, ℕ, true, false, List, Contains}
use Rattle.odb_doc.specs.batch.Records.{Record}
use Rattle.odb_send.specs.Units.{marked}
use Rattle.odb_live.specs.Live.{Live}
use Rattle.odb_live.specs.LiveParts.{HasWholeUnits, RestsOnPart, with_part}
use Rattle.odb_live.specs.declared.run.parts.Part.{Part}

-- A run gives this part of its batch: none of the requests was in a part before, and all are in one afterwards. The part has whole
-- units, and what its requests need, unless that has succeeded.
pub record IsGiven (batch : List Record) (first last : Live) (part : Part) : Type 0 where
  pub is : last ≡ with_part first part.positions.items
  pub apart : (i : ℕ) → Contains part.positions.items i → marked first.out i ≡ false
  pub given : (i : ℕ) → Contains part.positions.items i → marked last.out i ≡ true
  pub needs : RestsOnPart batch first.run part.positions.items
  pub whole : HasWholeUnits batch part.positions.items

-- Of two parts that were given no request is in both, and each request of the first still counts as given.
pub record AreGiven (last : Live) (one other : Part) : Type 0 where
  pub apart : (i : ℕ) → Contains one.positions.items i → ¬ Contains other.positions.items i
  pub kept : (i : ℕ) → Contains one.positions.items i → marked last.out i ≡ true
