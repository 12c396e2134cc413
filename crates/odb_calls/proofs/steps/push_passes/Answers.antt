use Rattle.odb_sched.specs.declared.policy.Mode.TheVariants.{Stop}
use Rattle.std.proofs.Common.{subst}
use Rattle.odb_calls.specs.Steps.{Adds, attempts, attempts_in, has_own_error, undone_unless}
use Rattle.odb_calls.specs.declared.steps.Pass.TheVariants as passes
use Rattle.odb_calls.proofs.StepLemmas.{adds-both, also-done}
use Rattle.odb_calls.proofs.steps.push_passes.Goals as goal

pub returns-clause-steps : goal.returns-clause-steps
returns-clause-steps c =
    let document = c.args.document.now in
    let replies = c.args.replies.now in
    let old = c.args.steps.now.items in
    let one = c.push_pass.new.steps.items in
    let two = c.push_pass-2.new.steps.items in
    let three = c.push_pass-3.new.steps.items in
    let four = c.push_pass-4.new.steps.items in
    let five = c.push_pass-5.new.steps.items in
    let six = c.push_undone_unless.new.steps.items in
    let seven = c.push_pass-6.new.steps.items in
    let A = attempts_in passes.Successes replies in
    let B = attempts_in passes.ErrorStarts replies in
    let C = attempts_in passes.Others replies in
    let D = attempts_in passes.OtherUnits replies in
    let E = attempts_in passes.Errors replies in
    let F = undone_unless (has_own_error replies) replies in
    let G = attempts_in passes.Skipped replies in
    let undone : Adds document F five six = subst (λ stops. Adds document (undone_unless stops replies) five six) c.has_own_error.ensures (c.in_ok-push_undone_unless.ensures document) in
    also-done c.push_pass-6.result (Adds document G six seven) (Adds document (attempts Stop replies) old seven)
    (λ last. adds-both document A _ old one seven c.in_ok-push_pass.ensures.steps (adds-both document B _ one two seven c.in_ok-push_pass-2.ensures.steps (adds-both document C _ two three seven c.in_ok-push_pass-3.ensures.steps (adds-both document D _ three four seven c.in_ok-push_pass-4.ensures.steps
    (adds-both document E _ four five seven c.in_ok-push_pass-5.ensures.steps (adds-both document F G five six seven undone last))))))
    c.push_pass-6.ensures.steps
