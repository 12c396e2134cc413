use Rattle.std.proofs.Common.{◌≡◌, ℕ, true, Contains}
use Rattle.odb_send.specs.Units.{marked}
use Rattle.odb_live.proofs.OpenedLemmas.{given-sizes}
use Rattle.odb_tests_live.proofs.laws.parts.gives_two.Goals as goal

pub gives_more-requires-clause-labels : goal.gives_more-requires-clause-labels
gives_more-requires-clause-labels c =
    let opens = c.requires in
    let batch = opens.holds.batch in
    (given-sizes c.args.policy batch c.args.events.now c.args.live.now c.gives.new.live c.in_ok-first.first.positions.items (c.every_batch.ensures.plan_graph batch) opens.holds.holds.1 c.in_ok-first.ensures.holds.holds.1.is).0

pub gives_more-requires-clause-marks : goal.gives_more-requires-clause-marks
gives_more-requires-clause-marks c =
    let opens = c.requires in
    let batch = opens.holds.batch in
    (given-sizes c.args.policy batch c.args.events.now c.args.live.now c.gives.new.live c.in_ok-first.first.positions.items (c.every_batch.ensures.plan_graph batch) opens.holds.holds.1 c.in_ok-first.ensures.holds.holds.1.is).1

pub returns : goal.returns
returns c =
    let given : (i : ℕ) → Contains c.in_ok-first.first.positions.items i → marked c.gives.new.live.out i ≡ true = c.in_ok-first.ensures.holds.holds.1.given in
    record {
      apart = λ i has. c.in_ok-second.ensures.apart i (given i has);
      kept = λ i has. c.gives_more.ensures.kept i (given i has);
    }
