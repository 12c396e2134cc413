use Rattle.std.proofs.Common.{◌≡◌, ◌++◌, false, nat_lt, drop, string_bytes}
use Rattle.odb_doc.specs.canonical.CanonicalParts.{names_left}
use Rattle.odb_doc.specs.Names.{texts_in}
use Rattle.odb_doc.proofs.text.push_elements.Given as goal

-- the text so far, and then the elements that are left, are the whole
abbrev pub invariant-loop-k : goal.invariant-loop-k
invariant-loop-k l = string_bytes l.text ++ names_left (nat_lt 0 l.k) (texts_in (drop l.k l.elements)) ≡ string_bytes l.fn.text ++ names_left false (texts_in l.elements)
