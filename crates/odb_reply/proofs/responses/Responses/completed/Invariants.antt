use Rattle.std.proofs.Common.{◌≡◌, ◌++◌, map, take}
use Rattle.odb_reply.specs.Completed.{not_performed, unanswered}
use Rattle.odb_check.specs.Plans.{plan_records}
use Rattle.odb_reply.specs.ResponseDocuments.{entry_of}
use Rattle.odb_reply.proofs.responses.Responses.completed.Given as goal

-- the responses, and those that are added for the requests before i
abbrev pub invariant-loop-i : goal.invariant-loop-i
invariant-loop-i l = map entry_of l.list.items ≡ map entry_of l.initial.list.items ++ map not_performed (unanswered (map entry_of l.initial.list.items) (take l.i (plan_records l.plan)))
