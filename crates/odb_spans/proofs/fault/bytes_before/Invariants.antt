use Rattle.std.proofs.Common.{◌≤◌, length}
use Rattle.odb_spans.proofs.fault.bytes_before.Given as goal

abbrev pub invariant-loop-newlines : goal.invariant-loop-newlines
invariant-loop-newlines l = l.start ≤ length l.document

abbrev pub decreases-loop-newlines : goal.decreases-loop-newlines
decreases-loop-newlines l = l.newlines
