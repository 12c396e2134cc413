use Rattle.std.proofs.Common.{◌≡◌, string_bytes, take}
use Rattle.std.specs.List.{AllZip}
use Rattle.odb_check.specs.Plans.{plan_records}
use Rattle.odb_send.specs.Parts.{HasParts, bodies_of}
use Rattle.odb_send.proofs.requests.with_bodies.Given as goal

-- the parts and the bodies of the requests so far
abbrev pub invariant-loop-i : goal.invariant-loop-i
invariant-loop-i l = record {
  parts : AllZip (HasParts (plan_records l.plan) (string_bytes l.text)) (take l.i (plan_records l.plan)) l.parts.items;
  bodies : bodies_of l.parts.items ≡ take l.i l.bodies;
}
