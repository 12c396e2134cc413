use Rattle.std.proofs.Common.{◌≡◌, ℕ, arith, length, slice_get, subst}
use Rattle.odb_check.specs.Firsts.{joined_below}
use Rattle.odb_calls.specs.Steps.{Adds, undone_at}
use Rattle.odb_calls.proofs.StepLemmas.{adds-none, adds-undone}
use Rattle.odb_calls.proofs.steps.push_all_undone.Goals as goal

pub loop-k-init : goal.loop-k-init
loop-k-init c = λ document. adds-none document c.args.steps.now.items

pub loop-k-preserved : goal.loop-k-preserved
loop-k-preserved c = λ document.
    adds-undone document c.args.replies.now c.loop-k.k _ c.args.steps.now.items c.loop-k.steps.items c.push_undone.new.steps.items c.loop-k-test.true (c.loop-k.invariant document) (c.in_ok-push_undone.ensures document)

pub returns : goal.returns
returns c = λ document.
    let replies = c.args.replies.now in
    let all : c.loop-k.k ≡ length replies = omega (arith, c.loop-k-test.false, c.loop-k.auto.k-end) in
    subst (λ (n : ℕ). Adds document (joined_below n (λ k. undone_at (slice_get replies k))) c.args.steps.now.items c.loop-k.steps.items) all (c.loop-k.invariant document)
