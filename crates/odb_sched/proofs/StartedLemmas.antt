-- A started request moves from the ready ones to the running ones, and nothing else that is counted changes.
use Rattle.std.proofs.Common.{◌≡◌, ◌<◌, ◌∙◌, ℕ, Bool, List, sym, ap, subst, true, false, set, get_or, refl, length, get_or-set_other}
use Rattle.std.proofs.lemmas.Bool.{and_left}
use Rattle.odb_check.specs.PlanGraph.{PlanGraph}
use Rattle.odb_sched.specs.declared.policy.Mode.{Mode}
use Rattle.odb_sched.specs.declared.counts.Counts.{Counts}
use Rattle.odb_sched.specs.declared.openings.Openings.{Openings}
use Rattle.odb_sched.specs.declared.phase.Phase.{Phase}
use Rattle.odb_sched.specs.declared.phase.Phase.TheVariants.{Unstarted, Running}
use Rattle.odb_sched.specs.run.State.{is_unstarted, is_running, has_succeeded, has_failed}
use Rattle.odb_sched.specs.run.Steps.{stopped_in}
use Rattle.odb_sched.specs.invariants.Counts.{AreCounts, HasReady, is_skipped}
use Rattle.odb_sched.specs.invariants.Openings.{AreOpenings}
use Rattle.odb_sched.proofs.KeptLemmas.{written_at, written_back}
use Rattle.odb_sched.proofs.PhaseLemmas.{Unstarted-from}
use Rattle.odb_sched.proofs.SameLemmas.{as_before, unmet_same, pending_same, propagated_same, running_same}
use Rattle.odb_sched.proofs.ReadyLemmas.{as_long, ready_without}
use Rattle.odb_sched.proofs.StopLemmas.{stopped_by_start}

pub counts_started : (plan : PlanGraph) (phases : List Phase) (t : Counts) (i : ℕ) (ready running : List Bool) (openings : Openings) → i < length plan.units → is_unstarted (get_or phases i Unstarted) ≡ true → AreCounts plan phases t
    → ready ≡ set t.ready i false → running ≡ set t.running i true → AreOpenings plan (set phases i Running) t.unmet.items openings → AreCounts plan (set phases i Running) (record t { ready = ready; running = running; openings = openings })
counts_started plan phases t i ready running openings within fresh counts is_ready is_running_set opened =
    let written = set phases i Running in
    let before : AreCounts plan (set written i Unstarted) t = subst (λ ps. AreCounts plan ps t) (sym (written_back phases written i Unstarted Running refl (Unstarted-from _ fresh))) counts in
    let phased : i < length phases = rw counts.ready.entries.phased within in
    let is : get_or written i Unstarted ≡ Running = written_at phases written i Running phased refl in
    let runs : is_running (get_or written i Unstarted) ≡ true = ap is_running is in
    let succeeded = as_before has_succeeded written i Unstarted (ap has_succeeded (sym is)) in
    record {
      ready = subst (λ ready. HasReady plan written (record t { ready = ready; running = running; openings = openings })) (sym is_ready)
          (ready_without plan (is_skipped plan t.failed) (is_skipped plan t.failed) (set written i Unstarted) written t i running openings (as_long _ _ _ _ _ before) within
          (and_left _ _ (ap is_unstarted is)) (λ j elsewhere. (get_or-set_other written i j Unstarted Unstarted elsewhere, refl)) before.ready);
      unmet = λ j inside. before.unmet j inside ∙ unmet_same plan (set written i Unstarted) written succeeded j;
      pending = λ u inside. before.pending u inside ∙ pending_same plan (set written i Unstarted) written succeeded u;
      units = propagated_same plan (set written i Unstarted) written t.failed (as_before has_failed written i Unstarted (ap has_failed (sym is))) before.units;
      openings = opened;
      running = is_running_set ∙ ap (λ running. set running i true) before.running ∙ running_same written i Unstarted true runs;
    }

-- no start stops a run
pub stopped_as_before : (mode : Mode) (phases : List Phase) (i : ℕ) → i < length phases → is_unstarted (get_or phases i Unstarted) ≡ true → stopped_in mode (set phases i Running) ≡ stopped_in mode phases
stopped_as_before mode phases i within fresh =
    let runs : is_running (get_or (set phases i Running) i Unstarted) ≡ true = ap is_running (written_at phases (set phases i Running) i Running within refl) in
    sym (stopped_by_start mode (set phases i Running) i runs) ∙ ap (stopped_in mode) (written_back phases (set phases i Running) i Unstarted Running refl (Unstarted-from _ fresh))
