use Rattle.std.proofs.Common.{◌≡◌, ◌∙◌, ◌≢◌, ℕ, Some, false, length, replicate, sym, ap, arith, rules}
use Rattle.odb_check.specs.Plans.{plan_records}
use Rattle.odb_check.specs.Positions.{id_at}
use Rattle.odb_reply.specs.ResponseDocuments.{entries, entry_of}
use Rattle.odb_check.proofs.PositionLemmas.{id_within}
use Rattle.odb_reply.proofs.CompletedLemmas.{AreMarks-none, AreMarks-known, AreMarks-unknown}
use Rattle.odb_reply.proofs.IdLemmas.{one_position}
use Rattle.odb_reply.proofs.completed.marks_of.Goals as goal
use Rattle.odb_reply.proofs.completed.marks_of.Goals.{in-Some, in_default}

pub loop-at-init : goal.loop-at-init
loop-at-init c =
    let rs = plan_records c.args.plan.now in
    let none : c.in_ok-marks.marks.items ≡ replicate (length rs) false = c.in_ok-marks.ensures.items_if_clones_equal (λ y same. search rules) ∙ ap (λ n. replicate n false) c.len.ensures.count in
    rw none (AreMarks-none rs (entries c.args.responses.now))

pub index_mut-requires : goal.index_mut-requires
index_mut-requires c =
    let rs = plan_records c.args.plan.now in
    let id = c.entry.result.now.id.now in
    let here : id_at rs c.in-Some.i ≡ Some id = (c.every_plan.ensures.positions.found id c.in-Some.i).0 (sym c.in-Some.ensures) in
    omega (arith, id_within rs c.in-Some.i id here, c.loop-at.invariant.count, c.loop-at.marks.ok.0)

pub loop-at-preserved : goal.loop-at-preserved
loop-at-preserved c =
    let rs = plan_records c.args.plan.now in
    let es = entries c.args.responses.now in
    let at = c.loop-at.at in
    let e = entry_of c.entry.result.now in
    let law = c.every_plan.ensures.positions in
    elim c.match-position_near.branch [
      | in-Some w ↦
          let position : id_at rs w.in-Some.i ≡ Some e.id = (law.found e.id w.in-Some.i).0 (sym w.in-Some.ensures) in
          rw w.marks-is (AreMarks-known rs es at w.in-Some.i e c.loop-at.marks.items (one_position rs law) c.loop-at.invariant c.entry.ensures position)
      | in_default w ↦
          let unknown : (p : ℕ) → id_at rs p ≢ Some e.id = λ p is. let found = (law.found e.id p).1 is in absurd (cc (found, w.in_default.is, c.position_near.ensures)) in
          rw w.marks-is (AreMarks-unknown rs es at e c.loop-at.marks.items c.loop-at.invariant c.entry.ensures unknown)
    ]
