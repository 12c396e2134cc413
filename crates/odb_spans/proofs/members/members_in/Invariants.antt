use Rattle.std.proofs.Common.{take}
use Rattle.odb_spans.specs.Parts.{GiveMembers}
use Rattle.odb_spans.proofs.members.members_in.Given as goal

abbrev pub invariant-loop-element : goal.invariant-loop-element
invariant-loop-element l = GiveMembers l.name l.document (take l.element-index l.element-items) l.members.items
