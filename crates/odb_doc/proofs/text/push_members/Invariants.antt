use Rattle.std.proofs.Common.{◌≡◌, ◌++◌, false, map, string_bytes}
use Rattle.odb_doc.specs.canonical.CanonicalParts.{headers_left}
use Rattle.odb_doc.specs.Headers.{header_of, headers_in}
use Rattle.odb_doc.proofs.text.push_members.Given as goal

-- the text so far, and then the headers that are left, are the whole
abbrev pub invariant-loop-name : goal.invariant-loop-name
invariant-loop-name l = string_bytes l.text ++ headers_left l.later (map header_of l.name-iterator) ≡ string_bytes l.fn.text ++ headers_left false (headers_in l.headers)
