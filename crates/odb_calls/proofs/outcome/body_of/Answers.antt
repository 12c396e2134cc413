use Rattle.std.proofs.Common.{rules, refl}
use Rattle.std.proofs.lemmas.List.{nil_from_length}
use Rattle.odb_calls.specs.Live.IsReportedBody.{Absent, Present}
use Rattle.odb_calls.proofs.outcome.body_of.Goals as goal

pub returns-then-is_empty-clause-some : goal.returns-then-is_empty-clause-some
returns-then-is_empty-clause-some c = Absent (nil_from_length c.args.bytes.now (search rules)) refl

pub returns-in-Ok-clause-some : goal.returns-in-Ok-clause-some
returns-in-Ok-clause-some c = Present c.in-Ok.ensures.body
