use Rattle.std.proofs.Common.{◌≡◌, ◌++◌, false, nat_lt, drop, map, string_bytes}
use Rattle.odb_doc.specs.canonical.CanonicalParts.{headers_left}
use Rattle.odb_doc.specs.Headers.{lent_header}
use Rattle.odb_send.specs.Rests.{change_of, rest_header}
use Rattle.odb_send.proofs.headers.push_members.Given as goal

-- the text so far, and then the headers that are left, are the whole
abbrev pub invariant-loop-k : goal.invariant-loop-k
invariant-loop-k l = string_bytes l.text ++ headers_left (nat_lt 0 l.k) (map (rest_header (change_of l.change)) (map lent_header (drop l.k l.headers))) ≡ string_bytes l.fn.text ++ headers_left false (map (rest_header (change_of l.change)) (map lent_header l.headers))
