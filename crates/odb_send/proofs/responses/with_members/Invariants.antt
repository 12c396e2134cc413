use Rattle.std.proofs.Common.{◌≡◌, string_bytes, take}
use Rattle.std.specs.List.{AllZip}
use Rattle.odb_reply.specs.ResponseDocuments.{entries}
use Rattle.odb_send.specs.ResponseParts.{HasResponseParts, bodies_of, headers_of}
use Rattle.odb_send.proofs.responses.with_members.Given as goal

-- the parts of the responses so far
abbrev pub invariant-loop-i : goal.invariant-loop-i
invariant-loop-i l = record {
  parts : AllZip (HasResponseParts (string_bytes l.text)) (take l.i (entries l.responses)) l.parts.items;
  headers : headers_of l.parts.items ≡ take l.i l.headers;
  bodies : bodies_of l.parts.items ≡ take l.i l.bodies;
}
