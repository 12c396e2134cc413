use Rattle.odb_check.specs.Plans.{plan_records}
use Rattle.odb_reply.specs.Places.{AreNoted}
use Rattle.odb_reply.specs.ResponseDocuments.{entries}
use Rattle.odb_reply.proofs.places.places_of.Given as goal

abbrev pub invariant-loop-at : goal.invariant-loop-at
invariant-loop-at l = AreNoted (plan_records l.plan) (entries l.responses) l.at l.places.items
