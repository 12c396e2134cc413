use Rattle.std.proofs.Common.{◌≡◌, map}
use Rattle.odb_doc.specs.Headers.{header_of, headers_in}
use Rattle.odb_send.specs.Answers.{value_in}
use Rattle.odb_send.proofs.answers.value_in.Given as goal

-- what is left has the value, if there is one
abbrev pub invariant-loop-written : goal.invariant-loop-written
invariant-loop-written l = value_in l.name (map header_of l.written-iterator) ≡ value_in l.name (headers_in l.headers)
