use Rattle.std.proofs.Common.{◌≡◌, ◌++◌, string_bytes}
use Rattle.odb_doc.specs.batch.Batches.{records}
use Rattle.odb_doc.specs.canonical.Canonical.{canonical_text}
use Rattle.odb_doc.specs.canonical.CanonicalParts.{requests_left}
use Rattle.odb_doc.proofs.canonical.whole_text.Given as goal

-- the text so far, and then the requests that are left, are the whole
abbrev pub invariant-loop-i : goal.invariant-loop-i
invariant-loop-i l = string_bytes l.text ++ requests_left (records l.batch) l.i ≡ canonical_text (records l.batch)
