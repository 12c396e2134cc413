-- Which requests are ready once phases, skipped requests or marks have changed.
use Rattle.std.proofs.Common.{◌≡◌, ◌≢◌, ℕ, ◌<◌, ◌==◌, ◌∙◌, sym, ap, refl, Bool, false, not, ◌&&◌, List, length, length-set, get_or, set, inl, inr, get_or-set_same, get_or-set_other}
use Rattle.std.proofs.lemmas.Bool.{cases_eq}
use Rattle.odb_check.specs.PlanGraph.{PlanGraph, unit_of}
use Rattle.odb_dense.specs.declared.worklist.Mark.{Mark}
use Rattle.odb_sched.specs.declared.counts.Counts.{Counts}
use Rattle.odb_sched.specs.declared.openings.Openings.{Openings}
use Rattle.odb_sched.specs.declared.phase.Phase.{Phase}
use Rattle.odb_sched.specs.declared.phase.Phase.TheVariants.{Unstarted}
use Rattle.odb_sched.specs.run.State.{is_unstarted}
use Rattle.odb_sched.specs.invariants.Counts.{AreCounts, AreReady, HasReady}
use Rattle.odb_sched.specs.invariants.Propagation.{HaveMarked}

-- the phases are as many as before one was written
pub as_long : (plan : PlanGraph) (phases : List Phase) (i : ℕ) (phase : Phase) (t : Counts) → AreCounts plan (set phases i phase) t → length phases ≡ length plan.units
as_long plan phases i phase t are = sym (length-set phases i phase) ∙ are.ready.entries.phased

-- if the same requests are skipped, the same are ready
pub ready_same : (plan : PlanGraph) (skipped other : ℕ → Bool) (phases : List Phase) (t : Counts) → ((i : ℕ) → i < length plan.units → skipped i ≡ other i) → AreReady plan skipped phases t → AreReady plan other phases t
ready_same plan skipped other phases t same are = record {
  entries = are.entries;
  exact = λ i within. are.exact i within ∙ ap (λ b. is_unstarted (get_or phases i Unstarted) && not b && (get_or t.unmet.items i 0 == 0)) (same i within);
}

-- marking units skips no request
pub ready_marked : (plan : PlanGraph) (phases : List Phase) (t : Counts) (units : List Mark) → HaveMarked t.failed units → HasReady plan phases t → HasReady plan phases (record t { failed = units })
ready_marked plan phases t units marks are = record {
  entries = record { phased = are.entries.phased; unmet = are.entries.unmet; pending = are.entries.pending; units = marks.each ∙ are.entries.units; ready = are.entries.ready };
  exact = λ i within. are.exact i within ∙ ap (λ b. is_unstarted (get_or phases i Unstarted) && not b && (get_or t.unmet.items i 0 == 0)) (sym (marks.same (unit_of plan i)));
}

-- one request is ready no longer
pub ready_without : (plan : PlanGraph) (skipped other : ℕ → Bool) (phases later : List Phase) (t : Counts) (i : ℕ) (running : List Bool) (openings : Openings) → length later ≡ length plan.units → i < length plan.units
    → (is_unstarted (get_or later i Unstarted) && not (other i)) ≡ false → ((j : ℕ) → j ≢ i → (get_or phases j Unstarted ≡ get_or later j Unstarted) × (skipped j ≡ other j)) → AreReady plan skipped phases t
    → AreReady plan other later (record t { ready = set t.ready i false; running = running; openings = openings })
ready_without plan skipped other phases later t i running openings long within out same are = record {
  entries = record { phased = long; unmet = are.entries.unmet; pending = are.entries.pending; units = are.entries.units; ready = length-set t.ready i false ∙ are.entries.ready };
  exact = λ j below. elim (cases_eq j i) [
    | inl here ↦ rw (here, get_or-set_same t.ready i false false (rw are.entries.ready within), out) refl
    | inr elsewhere ↦
        get_or-set_other t.ready i j false false elsewhere ∙ are.exact j below
        ∙ ap (λ phase. is_unstarted phase && not (skipped j) && (get_or t.unmet.items j 0 == 0)) (same j elsewhere).0
        ∙ ap (λ b. is_unstarted (get_or later j Unstarted) && not b && (get_or t.unmet.items j 0 == 0)) (same j elsewhere).1
  ];
}
