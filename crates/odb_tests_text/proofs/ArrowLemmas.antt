-- Where the arrow from what is needed begins.
use Rattle.std.proofs.Common.{◌≡◌, ◌<◌, ℕ, List, length, Contains, refl}
use Rattle.odb_doc.specs.batch.Records.{Record}
use Rattle.odb_check.specs.declared.need.Need.{Need}
use Rattle.odb_check.specs.declared.need.Need.TheVariants.{One, Group}
use Rattle.odb_check.specs.Needs.{needs_at}
use Rattle.odb_check.specs.Units.{unit_at}
use Rattle.odb_text.specs.Drawings.{arrow_start}
use Rattle.odb_tests_text.specs.Texts.{BeginsInNeeded}

-- by the law on arrows from requests, and from groups
pub begins : (batch : List Record) (i : ℕ) → ((r : ℕ) → Contains (needs_at batch i) (One r) → (arrow_start batch (One r) ≡ r) × (r < length batch))
    → ((u : ℕ) → Contains (needs_at batch i) (Group u) → (unit_at batch (arrow_start batch (Group u)) ≡ u) × (arrow_start batch (Group u) < length batch))
    → (need : Need) → Contains (needs_at batch i) need → BeginsInNeeded batch need
begins batch i one group (One r) has = record { within = (one r has).1; unit = refl }
begins batch i one group (Group u) has = record { within = (group u has).1; unit = (group u has).0 }
