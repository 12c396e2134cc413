use Rattle.std.proofs.Common.{rules, refl, subst}
use Rattle.odb_doc.specs.batch.Records.{record_of}
use Rattle.odb_check.specs.Plans.{plan_records}
use Rattle.odb_exec.proofs.CourseLemmas.{taken-report_by}
use Rattle.odb_exec.proofs.execution.report.Goals as goal

pub returns-in-Ok-report-clause-taken : goal.returns-in-Ok-report-clause-taken
returns-in-Ok-report-clause-taken g c = taken-report_by g.S.Service.performs (plan_records c.args.plan.now) (g.S.Service.offers c.args.service.now) c.args.scheduler.now c.report.new.self _ _ c.args.i c.in-Ok.outcome
    (c.in-Ok-report.ensures.allowed.0 refl) (search rules)
    (record_of c.request.result.now, c.request.ensures.value, subst (λ answer. g.S.Service.performs c.args.service.now c.args.i (record_of c.request.result.now) answer c.perform.new.self) c.in-Ok.is c.perform.ensures.performed)
    c.in-Ok-report.ensures.ok
