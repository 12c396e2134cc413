-- Entry by entry from the last, each is noted at its position.
use Rattle.std.proofs.Common.{◌≡◌, ◌∙◌, ap, sym, [], ◌∷◌, ◌++◌, length, map, replicate, List, Option, None, string_bytes}
use Rattle.std.proofs.lemmas.List.{map-append, nil_from_length}
use Rattle.odb_doc.specs.declared.recorded.outcome.Outcome.{Outcome}
use Rattle.odb_doc.specs.recorded.Outcomes.{recorded}
use Rattle.odb_check.specs.Plans.{plan_records}
use Rattle.odb_check.specs.Units.{position_of}
use Rattle.odb_exec.specs.Recordings.{noted_at}
use Rattle.odb_exec.proofs.RecordedLemmas.{noted-first, noted-more, noted-all, length-noted, length-noted_at}
use Rattle.odb_sched.proofs.ListLemmas.{written_over}
use Rattle.odb_exec.proofs.service.by_position.Goals as goal

pub loop-id-init : goal.loop-id-init
loop-id-init c = noted-first (plan_records c.args.plan.now) (map recorded c.args.entries.items) c.in_ok-outcomes.outcomes.items
    (c.in_ok-outcomes.ensures ∙ ap (λ n. replicate n None) c.len.ensures.count)

pub note-requires : goal.note-requires
note-requires c = ap length c.deref_mut.ensures.value ∙ length-noted (plan_records c.args.plan.now) (map recorded c.args.entries.items) (map recorded c.loop-id.entries.items) c.loop-id.outcomes.items c.loop-id.invariant

pub loop-id-preserved : goal.loop-id-preserved
loop-id-preserved c =
    let batch = plan_records c.args.plan.now in
    let left = map recorded c.pop.new.self.items in
    let old : List (Option Outcome) = c.loop-id.outcomes.items in
    let new : List (Option Outcome) = c.note.new.outcomes in
    let last : map recorded c.loop-id.entries.items ≡ left ++ recorded (c.in-Some.id, c.in-Some.outcome) ∷ [] =
    ap (map recorded) c.in-Some.ensures.items ∙ map-append recorded c.pop.new.self.items ((c.in-Some.id, c.in-Some.outcome) ∷ []) in
    let name : c.deref.result.now ≡ string_bytes c.in-Some.id = c.deref.ensures in
    let note : new ≡ noted_at (position_of batch (string_bytes c.in-Some.id)) old c.in-Some.outcome =
    c.note.ensures ∙ ap (λ id. noted_at (position_of batch id) c.deref_mut.result.now c.in-Some.outcome) name ∙ ap (λ xs. noted_at (position_of batch (string_bytes c.in-Some.id)) xs c.in-Some.outcome) c.deref_mut.ensures.value in
    let same : length new ≡ length old = ap length note ∙ length-noted_at (position_of batch (string_bytes c.in-Some.id)) old c.in-Some.outcome in
    noted-more batch (map recorded c.args.entries.items) (map recorded c.loop-id.entries.items) left (string_bytes c.in-Some.id) c.in-Some.outcome old _
    c.every_plan.ensures.good c.loop-id.invariant last (written_over old new c.loop-id.outcomes.len same c.loop-id.outcomes.ok.0 ∙ note)

pub returns : goal.returns
returns c =
    let none : c.loop-id.entries.items ≡ [] = nil_from_length c.loop-id.entries.items (sym c.loop-id.entries.ok.0 ∙ c.in_default.ensures.cases.0) in
    noted-all (plan_records c.args.plan.now) (map recorded c.args.entries.items) (map recorded c.loop-id.entries.items) c.loop-id.outcomes.items c.loop-id.invariant (ap (map recorded) none)
