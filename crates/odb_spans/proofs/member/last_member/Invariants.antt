use Rattle.std.proofs.Common.{List, ◌≤◌, ◌-◌, length}
use Rattle.json.specs.Token.{Token}
use Rattle.json.specs.Json as json
use Rattle.odb_spans.specs.Spans.{IsWithin}
use Rattle.odb_spans.specs.Parts.{HasMembers, MembersLeft}
use Rattle.odb_spans.proofs.member.last_member.Given as goal

abbrev pub invariant-members : goal.invariant-members
invariant-members l = record {
  within : l.at ≤ length l.document;
  bounds : IsWithin (length l.document) l.last;
  remaining : (ms : json.Members) (ts : List Token) → HasMembers l.document l.start ms ts → MembersLeft l.name l.document l.at l.last ms ts;
}

abbrev pub decreases-members : goal.decreases-members
decreases-members l = length l.document - l.at
