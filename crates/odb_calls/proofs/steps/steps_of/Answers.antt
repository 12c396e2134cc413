use Rattle.std.proofs.Common.{[], List, subst}
use Rattle.odb_calls.specs.Steps.{Adds, attempts}
use Rattle.odb_calls.specs.declared.steps.Step.{Step}
use Rattle.odb_sched.specs.declared.policy.Mode.TheVariants.{Continue, Stop}
use Rattle.odb_calls.proofs.steps.steps_of.Goals as goal
use Rattle.odb_calls.proofs.steps.steps_of.Goals.{in-Continue+in_ok-push_pass-in-Continue, in-Stop+in_ok-push_passes-in-Stop}

pub returns-clause-steps : goal.returns-clause-steps
returns-clause-steps c =
    let document = c.args.document.now in
    let replies = c.args.replies.now in
    elim c.match-mode.branch [
      | in-Continue+in_ok-push_pass-in-Continue w ↦ rw (w.steps-is, w.in-Continue.is) (subst (λ (old : List Step). Adds document (attempts Continue replies) old w.push_pass.new.steps.items) c.new-steps.ensures.items w.in_ok-push_pass-in-Continue.ensures.steps [] tt)
      | in-Stop+in_ok-push_passes-in-Stop w ↦ rw (w.steps-is, w.in-Stop.is) (subst (λ (old : List Step). Adds document (attempts Stop replies) old w.push_passes.new.steps.items) c.new-steps.ensures.items w.in_ok-push_passes-in-Stop.ensures.steps [] tt)
    ]
