use Rattle.std.proofs.Common.{◌<◌, ℕ, List, Contains, sym, subst, arith}
use Rattle.std.proofs.lemmas.List.Elements.{All-push}
use Rattle.odb_live.proofs.LabelLemmas.{all-below-push}
use Rattle.odb_live.proofs.run.labels.positions_below.Goals as goal

pub loop-i-preserved : goal.loop-i-preserved
loop-i-preserved c =
    let i = c.loop-i.i in
    let items = sym c.in_ok-push.ensures.items in
    record {
      all = λ k below. subst (λ (xs : List ℕ). Contains xs k) items (all-below-push c.loop-i.positions.items i c.loop-i.invariant.all k below);
      within = rw c.in_ok-push.ensures.items (All-push (λ k. k < c.args.count) c.loop-i.positions.items i c.loop-i.invariant.within c.loop-i-test.true);
    }

pub returns : goal.returns
returns c = record { all = λ k below. c.loop-i.invariant.all k (omega (arith, c.loop-i-test.false)); within = c.loop-i.invariant.within }
