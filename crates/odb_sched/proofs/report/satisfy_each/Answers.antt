-- Each entry of the list takes one from the count of its request.
use Rattle.std.proofs.Common.{◌≡◌, ◌∙◌, ◌+◌, ◌==◌, sym, ap, subst, ◌<◌, length, get_or, take, count_by}
use Rattle.std.proofs.lemmas.List.{take_all}
use Rattle.odb_sched.specs.declared.counts.Counts.{Counts}
use Rattle.odb_sched.proofs.SatisfyingLemmas.{some_left, fallen_more}
use Rattle.odb_sched.proofs.report.satisfy_each.Goals as goal

pub satisfy-requires-clause-some : goal.satisfy-requires-clause-some
satisfy-requires-clause-some c =
    let within = c.requires.within c.loop-i.i-index 0 c.loop-i-test.true in
    some_left _ _ c.loop-i.i-index c.args.list.now c.loop-i-test.true (c.loop-i.invariant.fallen _ within) (c.requires.enough _ within)

pub loop-i-preserved : goal.loop-i-preserved
loop-i-preserved c =
    let within = c.requires.within c.loop-i.i-index 0 c.loop-i-test.true in
    record {
      rest = c.satisfy.ensures.rest ∙ ap (λ (t : Counts). record t { unmet = c.satisfy.new.counts.unmet; ready = c.satisfy.new.counts.ready; openings = c.satisfy.new.counts.openings }) c.loop-i.invariant.rest;
      ready = c.satisfy.ensures.ready;
      openings = c.satisfy.ensures.openings;
      fallen = λ i inside. subst (λ unmet. get_or unmet i 0 + count_by (λ j. j == i) (take (c.loop-i.i-index + 1) c.args.list.now) ≡ get_or c.args.counts.now.unmet.items i 0) (sym c.satisfy.ensures.unmet)
          (fallen_more _ c.loop-i.i-index i c.loop-i.counts.unmet.items c.args.list.now c.loop-i-test.true
          (let room : length c.loop-i.counts.unmet.items ≡ length c.args.graph.now.plan_graph.units = c.loop-i.invariant.ready.entries.unmet in subst (λ n. get_or c.args.list.now c.loop-i.i-index 0 < n) (sym room) within)
          (some_left _ _ c.loop-i.i-index c.args.list.now c.loop-i-test.true (c.loop-i.invariant.fallen _ within) (c.requires.enough _ within))
          (c.loop-i.invariant.fallen i inside));
    }

pub returns-clause-fallen : goal.returns-clause-fallen
returns-clause-fallen c = λ i inside. subst (λ prefix. get_or c.loop-i.counts.unmet.items i 0 + count_by (λ j. j == i) prefix ≡ get_or c.args.counts.now.unmet.items i 0)
    (take_all c.loop-i.i-index c.args.list.now c.loop-i-test.false) (c.loop-i.invariant.fallen i inside)
