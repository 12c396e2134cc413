use Rattle.std.proofs.Common.{◌≡◌, ◌<◌, true, ℕ, slice_index}
use Rattle.odb_doc.specs.Statuses.{is_success}
use Rattle.odb_reply.specs.Fits.{statuses}
use Rattle.odb_tests_text.proofs.laws.units.are_successes.Given as goal

-- the statuses so far are successes
abbrev pub invariant-loop-i : goal.invariant-loop-i
invariant-loop-i l = (j : ℕ) → j < l.i → is_success (slice_index (statuses l.table) j) ≡ true
