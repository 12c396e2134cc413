use Rattle.std.proofs.Common.{◌≡◌, ◌++◌, List, map, string_bytes}
use Rattle.std.specs.List.{AllZip}
use Rattle.odb_doc.specs.Headers.{Header, header_of, headers_in}
use Rattle.odb_calls.specs.Headers.{IsPair}
use Rattle.odb_calls.proofs.headers.paired.Given as goal

-- the headers so far
abbrev pub invariant-loop-name : goal.invariant-loop-name
invariant-loop-name l = record {
  done : List Header;
  split : headers_in l.headers ≡ done ++ map header_of l.name-iterator;
  each : AllZip (IsPair (string_bytes l.text)) done l.pairs.items;
}
