use Rattle.std.proofs.Common.{◌≡◌, bytes_eq, drop, map}
use Rattle.std.specs.Map.{lookup}
use Rattle.std.specs.Str.{str_to_ascii_lowercase}
use Rattle.odb_doc.specs.Headers.{lent_header, lent_headers}
use Rattle.odb_doc.proofs.batch.folded.Headers.get.Given as goal

-- what is left has the value, if there is one
abbrev pub invariant-loop-header : goal.invariant-loop-header
invariant-loop-header l = lookup (bytes_eq (str_to_ascii_lowercase l.name)) (map lent_header (drop l.header-index l.header-items)) ≡ lookup (bytes_eq (str_to_ascii_lowercase l.name)) (lent_headers l.self)
