use Rattle.std.proofs.Common.{◌≡◌, ◌∙◌, ◌<◌, ℕ, false, not, length, replicate, sym, ap, subst, arith}
use Rattle.std.proofs.lemmas.Bool.{true≢false}
use Rattle.odb_check.specs.Plans.{plan_records}
use Rattle.odb_check.specs.Units.{unit_at, unit_count}
use Rattle.odb_send.specs.Marks.{AreBarred}
use Rattle.odb_send.specs.Units.{IsBarred}
use Rattle.odb_send.proofs.MarkLemmas.{AreBarred-none, AreBarred-exempt, AreBarred-kept, AreBarred-more, AreBarred-all, barred-own, barred-needing}
use Rattle.odb_send.proofs.units.barred_units.Goals as goal
use Rattle.odb_send.proofs.units.barred_units.Goals.{then-not-is_exempt+then-needs_marked, then-not-passes, else-not-passes, else-not-is_exempt, else-not-is_exempt-via-then-not-is_exempt+else-needs_marked, else-not-is_exempt-via-else-not-is_exempt}

pub loop-i-init : goal.loop-i-init
loop-i-init g c exempt test spared answers =
    let rs = plan_records c.args.plan.now in
    let all : c.in_ok-units.units.items ≡ replicate (unit_count rs) false = c.in_ok-units.ensures.items_if_clones_equal (λ y same. same) ∙ ap (λ n. replicate n false) c.unit_count.ensures.count in
    rw all (AreBarred-none rs exempt test)

pub loop-i-preserved : goal.loop-i-preserved
loop-i-preserved g c exempt test spared answers =
    let rs = plan_records c.args.plan.now in
    let i = c.loop-i.i in
    let units = c.loop-i.units.items in
    let before = c.loop-i.invariant exempt test spared answers in
    let within : i < length rs = omega (arith, c.loop-i-test.true, c.len-i-end.ensures.count) in
    let unit : c.unit_of-u.result ≡ unit_at rs i = c.unit_of-u.ensures.value in
    let inside : unit_at rs i < unit_count rs = rw unit at c.unit_of-u.ensures.within in
    let free : c.is_exempt.result ≡ exempt (unit_at rs i) = spared c.unit_of-u.result c.is_exempt.result c.unit_of-u.ensures.within c.is_exempt.ensures ∙ ap exempt unit in
    elim c.if-not-is_exempt.branch [
      | then-not-is_exempt+then-needs_marked w ↦
          let bound = sym free ∙ w.if-not-is_exempt.true in
          let barred : IsBarred rs exempt test (unit_at rs i) = elim w.if-not-passes.branch [
            | then-not-passes v ↦ barred-own rs exempt test i within bound (sym (answers i w.passes.result within w.passes.ensures) ∙ v.if-not-passes.true)
            | else-not-passes v ↦ barred-needing rs exempt test i units before within bound (rw v.deref.ensures.value at (sym v.needs_marked.ensures ∙ sym v.value-is ∙ w.if-needs_marked.true))
          ] in
          rw (w.units-is, unit) (AreBarred-more rs exempt test i units c.every_plan.ensures.good before inside barred)
      | else-not-is_exempt w ↦ rw w.units-is (elim w.else-not-is_exempt.branch [
        | else-not-is_exempt-via-then-not-is_exempt+else-needs_marked v ↦ elim v.if-not-passes.branch [
          | then-not-passes u ↦ absurd (true≢false (sym (ap not u.if-not-passes.true) ∙ sym u.value-is ∙ v.if-needs_marked.false))
          | else-not-passes u ↦
              AreBarred-kept rs exempt test i units before (sym (answers i v.passes.result within v.passes.ensures) ∙ u.if-not-passes.false) (rw u.deref.ensures.value at (sym u.needs_marked.ensures ∙ sym u.value-is ∙ v.if-needs_marked.false))
        ]
        | else-not-is_exempt-via-else-not-is_exempt v ↦ AreBarred-exempt rs exempt test i units before (sym free ∙ v.if-not-is_exempt.false)
      ])
    ]

pub returns : goal.returns
returns g c exempt test spared answers =
    let rs = plan_records c.args.plan.now in
    let all : c.loop-i.i ≡ length rs = omega (arith, c.loop-i.auto.i-end, c.len-i-end.ensures.count, c.loop-i-test.false) in
    AreBarred-all rs exempt test c.loop-i.units.items (subst (λ (n : ℕ). AreBarred rs exempt test n c.loop-i.units.items) all (c.loop-i.invariant exempt test spared answers))
