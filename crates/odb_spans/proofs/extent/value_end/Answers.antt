use Rattle.std.proofs.Common.{◌≡◌, ◌+◌, ◌-◌, inl, inr, get_or, subst, arith}
use Rattle.std.specs.Str.{IsCharBoundary}
use Rattle.std.proofs.lemmas.Str.{IsCharBoundary-before_ascii, IsCharBoundary-after_ascii}
use Rattle.odb_spans.specs.States.{mode_of, IsAfter}
use Rattle.odb_spans.proofs.ScanLemmas.{value-begins, value-none, extent-passes, extent-ends, extent-none}
use Rattle.odb_spans.proofs.extent.value_end.Goals as goal

pub returns-in_default-clause-extent : goal.returns-in_default-clause-extent
returns-in_default-clause-extent c = omega (arith, value-none c.args.text.now c.args.at c.in_default.ensures)

pub loop-end-init : goal.loop-end-init
loop-end-init c =
    let begins = c.begun-state.ensures.begins in
    let passed = c.passed-start.ensures in
    let here : c.args.at ≡ c.args.at + 1 - 1 = omega arith in
    record {
      so_far = omega (arith, value-begins c.args.text.now c.args.at c.in-Some.first c.begun-state.result c.in-Some.ensures.0 c.in-Some.ensures.1 begins, passed.extent);
      within = passed.within;
      some = omega (arith, passed.after);
      few = omega (arith, c.begun-state.ensures.depth, passed.after);
      after = passed.last (subst (λ i. IsAfter (get_or c.args.text.now i 0) c.begun-state.result.mode) here (begins.after _ c.in-Some.ensures.1));
    }

pub returns-in_default-after-clause-extent : goal.returns-in_default-after-clause-extent
returns-in_default-after-clause-extent c =
    omega (arith, c.loop-end.invariant.so_far, extent-ends c.args.text.now c.loop-end.end c.of.result c.loop-end.state c.loop-end-test.true c.of.ensures c.in_default-after.ensures.passes)

pub returns-in_default-after-clause-boundary : goal.returns-in_default-after-clause-boundary
returns-in_default-after-clause-boundary c utf8 =
    let text = c.args.text.now in
    let end = c.loop-end.end in
    let back : end - 1 + 1 ≡ end = omega (arith, c.loop-end.invariant.some) in
    elim (c.in_default-after.ensures.passes.ascii _ _ c.of.ensures c.loop-end.invariant.after) as (λ _. IsCharBoundary text end) [
      | inl here ↦ IsCharBoundary-before_ascii text end c.loop-end-test.true here
      | inr before ↦ subst (IsCharBoundary text) back (IsCharBoundary-after_ascii text (end - 1) utf8 (omega (arith, c.loop-end-test.true, c.loop-end.invariant.some)) before)
    ]

pub loop-end-preserved : goal.loop-end-preserved
loop-end-preserved c =
    let passes = c.in-Some-after.ensures.passes in
    let passed = c.passed-end.ensures in
    let here : c.loop-end.end ≡ c.loop-end.end + 1 - 1 = omega arith in
    record {
      so_far = omega (arith, c.loop-end.invariant.so_far, extent-passes c.args.text.now c.loop-end.end c.of.result c.loop-end.state c.in-Some-after.next c.loop-end-test.true c.of.ensures passes, passed.extent);
      within = passed.within;
      some = omega (arith, c.loop-end.invariant.some, passed.after);
      few = omega (arith, c.in-Some-after.ensures.depth, c.loop-end.invariant.few, passed.after);
      after = passed.last (subst (λ i. IsAfter (get_or c.args.text.now i 0) c.in-Some-after.next.mode) here (passes.after _ c.of.ensures));
    }

pub returns-clause-extent : goal.returns-clause-extent
returns-clause-extent c = omega (arith, c.loop-end.invariant.so_far, extent-none c.args.text.now c.loop-end.end (mode_of c.loop-end.state.mode) c.loop-end.state.depth (omega (arith, c.loop-end-test.false)))
