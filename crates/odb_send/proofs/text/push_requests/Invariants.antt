use Rattle.std.proofs.Common.{◌≡◌, ◌++◌, false, string_bytes}
use Rattle.odb_check.specs.Plans.{plan_records}
use Rattle.odb_send.specs.Marks.{texts_left}
use Rattle.odb_send.specs.Rests.{kept, changes}
use Rattle.odb_send.specs.Texts.{bodies_in}
use Rattle.odb_send.proofs.text.push_requests.Given as goal

-- the text so far, and then the requests that are left, are the whole
abbrev pub invariant-loop-i : goal.invariant-loop-i
invariant-loop-i l = string_bytes l.text ++ texts_left (plan_records l.plan) (kept l.rest) (changes l.rest) (bodies_in l.document l.bodies) l.later l.i ≡ string_bytes l.fn.text ++ texts_left (plan_records l.plan) (kept l.rest) (changes l.rest) (bodies_in l.document l.bodies) false 0
