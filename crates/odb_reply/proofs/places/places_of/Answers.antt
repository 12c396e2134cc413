use Rattle.std.proofs.Common.{◌≡◌, ◌∙◌, ℕ, Some, None, length, replicate, option_map, ap, sym, subst, arith, rules}
use Rattle.odb_check.specs.Plans.{plan_records}
use Rattle.odb_reply.specs.Fits.{id_in}
use Rattle.odb_reply.specs.Places.{Places, AreNoted, IsNoted, IsMisplaced}
use Rattle.odb_reply.specs.ResponseDocuments.{Entry, entries}
use Rattle.odb_reply.proofs.IdLemmas.{one_position}
use Rattle.odb_reply.proofs.PlaceLemmas.{AreNoted-none, AreNoted-more, RefusesMatch-misplaced, length-noted}
use Rattle.odb_sched.proofs.ListLemmas.{written_over}
use Rattle.odb_reply.proofs.places.places_of.Goals as goal

pub loop-at-init : goal.loop-at-init
loop-at-init c =
    let rs = plan_records c.args.plan.now in
    let none : c.in_ok-places.places.items ≡ replicate (length rs) None = c.in_ok-places.ensures.items_if_clones_equal (λ y same. search rules) ∙ ap (λ n. replicate n None) c.len.ensures.count in
    rw none (AreNoted-none rs (entries c.args.responses.now))

pub loop-at-preserved : goal.loop-at-preserved
loop-at-preserved c =
    let rs = plan_records c.args.plan.now in
    let es = entries c.args.responses.now in
    let id = c.entry.result.now.id.now in
    let old : Places = c.loop-at.places.items in
    let new : Places = c.note_place.new.places in
    let has : id_in es c.loop-at.at ≡ Some id = ap (λ found. option_map (λ (e : Entry). e.id) found) c.entry.ensures in
    let noted : IsNoted rs id c.loop-at.at old new = subst (λ (xs : Places). IsNoted rs id c.loop-at.at xs new) c.deref_mut.ensures.value c.in_default.ensures.noted in
    let whole = written_over old new c.loop-at.places.len (length-noted rs id c.loop-at.at old new noted) c.loop-at.places.ok.0 in
    rw whole (AreNoted-more rs es c.loop-at.at id old new c.loop-at.invariant has noted)

pub returns-in-Err-clause-first : goal.returns-in-Err-clause-first
returns-in-Err-clause-first c =
    let rs = plan_records c.args.plan.now in
    let es = entries c.args.responses.now in
    let id = c.entry.result.now.id.now in
    let old : Places = c.loop-at.places.items in
    let has : id_in es c.loop-at.at ≡ Some id = ap (λ found. option_map (λ (e : Entry). e.id) found) c.entry.ensures in
    let misplaced : IsMisplaced rs id old c.in-Err.rule = subst (λ (xs : Places). IsMisplaced rs id xs c.in-Err.rule) c.deref_mut.ensures.value c.in-Err.ensures.misplaced in
    RefusesMatch-misplaced rs es c.loop-at.at id old c.in-Err.rule (one_position rs c.every_plan.ensures.positions) c.loop-at.invariant has misplaced

pub returns-clause-noted : goal.returns-clause-noted
returns-clause-noted c =
    let rs = plan_records c.args.plan.now in
    let es = entries c.args.responses.now in
    let all : length es ≡ c.loop-at.at = omega (arith, c.loop-at.auto.at-end) in
    subst (λ (n : ℕ). AreNoted rs es n c.loop-at.places.items) (sym all) c.loop-at.invariant

pub returns-clause-once : goal.returns-clause-once
returns-clause-once c = one_position (plan_records c.args.plan.now) c.every_plan.ensures.positions
