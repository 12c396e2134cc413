-- What an event breaks, and what makes an element a start.
use Rattle.std.proofs.Common.{◌≡◌, List, Option, None, Some, IsSome, MatchOption, option_map, codes, String, string_bytes, refl, subst}
use Rattle.std.specs.declared.alloc.Global.{Global}
use Rattle.serde_json.specs.Data.{Data}
use Rattle.odb_doc.specs.declared.recorded.event_fault.EventRule.{EventRule}
use Rattle.odb_doc.specs.declared.member.Object.TheVariants as objects
use Rattle.odb_doc.specs.recorded.Events.{IsStart}
use Rattle.odb_doc.specs.recorded.LeastEventFault.{BreaksEvent}
use Rattle.odb_doc.specs.Members.{HasOther, text_at}

-- what an event breaks, whatever is before it
abbrev pub Breaks : EventRule → List Data → Data → Type 0
Breaks rule before d = BreaksEvent rule d

-- a start is what has a string at `start` and nothing else
pub start-from : (d : Data) (found : Option (String Global)) → ¬ HasOther objects.Start d → text_at (codes "start") d ≡ option_map string_bytes found
    → MatchOption found (¬ IsStart d) (λ id. IsStart d × (text_at (codes "start") d ≡ Some (string_bytes id)))
start-from d None one is = λ start. cc (subst IsSome is start.id)
start-from d (Some id) one is = (record { one = one; id = rw is refl }, is)
