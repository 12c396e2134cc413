use Rattle.std.proofs.Common.{◌≡◌, ◌∙◌, ◌<◌, ◌≤◌, false, length, replicate, sym, ap, arith}
use Rattle.std.proofs.lemmas.List.{get_or_default}
use Rattle.odb_check.specs.Plans.{plan_records}
use Rattle.odb_check.specs.Units.{unit_count}
use Rattle.odb_send.specs.NextPart.{MayGo}
use Rattle.odb_send.specs.Units.{marked}
use Rattle.odb_send.proofs.NextPartLemmas.{AreFirst-none, AreFirst-over, AreFirst-more, may_go, may_not_done, may_not_wait, part_full}
use Rattle.odb_send.proofs.next_part.fitting_units.Goals as goal
use Rattle.odb_send.proofs.next_part.fitting_units.Goals.{then-not-done-u+then-not-index+else-count-room, else-not-done-u, else-not-done-u-via-then-not-done-u+else-not-index, else-not-done-u-via-else-not-done-u}

pub loop-u-init : goal.loop-u-init
loop-u-init c =
    let rs = plan_records c.args.plan.now in
    let all : c.in_ok-units.units.items ≡ replicate (unit_count rs) false = c.in_ok-units.ensures.items_if_clones_equal (λ y same. same) ∙ ap (λ n. replicate n false) c.unit_count.ensures.count in
    rw all (AreFirst-none rs c.args.done.now c.args.left.now c.args.limit)

pub returns-then-count-room : goal.returns-then-count-room
returns-then-count-room c =
    let rs = plan_records c.args.plan.now in
    let u = c.loop-u.u in
    let known : u < unit_count rs = omega (arith, c.loop-u-test.true, c.unit_count-u-end.ensures.count) in
    let waiting = c.in_ok-waiting.waiting.items in
    let inside : u < length waiting = omega (arith, known, c.in_ok-waiting.ensures.count) in
    let free : marked waiting u ≡ false = get_or_default waiting u false c.index.result.now inside ∙ sym c.index.ensures ∙ c.if-not-index.true in
    let goes : MayGo rs c.args.done.now c.args.left.now u = may_go rs c.args.done.now c.args.left.now c.in_ok-waiting.waiting.items u known c.in_ok-waiting.ensures c.if-not-done-u.true free in
    part_full rs c.args.done.now c.args.left.now c.args.limit u c.loop-u.room c.unit_size-count.result c.loop-u.units.items c.loop-u.invariant goes c.unit_size-count.ensures.size c.if-count-room.true

pub loop-u-preserved : goal.loop-u-preserved
loop-u-preserved c =
    let rs = plan_records c.args.plan.now in
    let u = c.loop-u.u in
    let done = c.args.done.now in
    let left = c.args.left.now in
    let waiting = c.in_ok-waiting.waiting.items in
    let known : u < unit_count rs = omega (arith, c.loop-u-test.true, c.unit_count-u-end.ensures.count) in
    let inside : u < length waiting = omega (arith, known, c.in_ok-waiting.ensures.count) in
    elim c.if-not-done-u.branch [
      | then-not-done-u+then-not-index+else-count-room w ↦
          let fits : w.unit_size-count.result ≤ c.loop-u.room = omega (arith, w.if-count-room) in
          let goes : MayGo rs done left u = may_go rs done left waiting u known c.in_ok-waiting.ensures w.if-not-done-u.true (get_or_default waiting u false w.index.result.now inside ∙ sym w.index.ensures ∙ w.if-not-index.true) in
          rw (w.units-is, w.room-is) (AreFirst-more rs done left c.args.limit u c.loop-u.room w.unit_size-count.result c.loop-u.units.items c.loop-u.invariant goes w.unit_size-count.ensures.size fits)
      | else-not-done-u w ↦
          let out : ¬ MayGo rs done left u = λ goes. elim w.else-not-done-u.branch [
            | else-not-done-u-via-then-not-done-u+else-not-index v ↦ may_not_wait rs done left waiting u known c.in_ok-waiting.ensures (get_or_default waiting u false v.index.result.now inside ∙ sym v.index.ensures ∙ v.if-not-index.false) goes
            | else-not-done-u-via-else-not-done-u v ↦ may_not_done rs done left u v.if-not-done-u.false goes
          ] in
          rw (w.units-is, w.room-is) (AreFirst-over rs done left c.args.limit u c.loop-u.room c.loop-u.units.items c.loop-u.invariant out)
    ]
