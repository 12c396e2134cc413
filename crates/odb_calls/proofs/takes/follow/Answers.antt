use Rattle.std.proofs.Common.{◌∙◌, ap, arith, length, refl, subst, sym, List}
use Rattle.std.proofs.lemmas.List.{nil_from_length}
use Rattle.odb_calls.specs.Follows.{FollowsAll}
use Rattle.odb_calls.specs.declared.steps.Step.{Step}
use Rattle.odb_calls.proofs.takes.follow.Goals as goal

pub loop-step-init : goal.loop-step-init
loop-step-init c =
    let gives = c.into_iter-step-iterator.ensures.into_iter_gives in
    record {
      left = gives.1 ∙ c.args.steps.ok.0 ∙ ap length (sym gives.0);
      leads = λ last follows. subst (λ (steps : List Step). FollowsAll c.args.live.now steps last) gives.0 follows;
    }

pub loop-step-preserved : goal.loop-step-preserved
loop-step-preserved c = record {
  left = let fewer = c.in-Some.ensures.steps.1 in let short = ap length c.in-Some.ensures.steps.0 in let was = c.loop-step.invariant.left in omega arith;
  leads = λ last follows. c.loop-step.invariant.leads last (subst (λ (steps : List Step). FollowsAll c.loop-step.live steps last) (sym c.in-Some.ensures.steps.0) (c.try_step.new.live, c.try_step.ensures, follows));
}

pub returns : goal.returns
returns c =
    let none = nil_from_length _ (sym c.loop-step.invariant.left ∙ c.in-None.ensures.steps.0) in
    c.loop-step.invariant.leads c.loop-step.live (subst (λ (steps : List Step). FollowsAll c.loop-step.live steps c.loop-step.live) (sym none) refl)
