use Rattle.std.proofs.Common.{ℕ, ◌<◌}
use Rattle.std.specs.Prelude.{IfSome}
use Rattle.odb_doc.specs.batch.Batches.{records}
use Rattle.odb_doc.specs.canonical.Canonical.{body_at}
use Rattle.odb_doc.specs.canonical.HeldValues.{IsHeld}
use Rattle.odb_doc.specs.WholeNumbers.{HasWholeBody}
use Rattle.odb_doc.proofs.canonical.first_not_whole.Given as goal

abbrev pub invariant-loop-i : goal.invariant-loop-i
invariant-loop-i l = record {
  whole : (k : ℕ) → k < l.i → HasWholeBody (body_at (records l.batch) k);
  held : (k : ℕ) → k < l.i → IfSome (body_at (records l.batch) k) IsHeld;
}
