-- What a scheduler keeps, after an event and at the end.
use Rattle.std.proofs.Common.{◌≡◌, ◌↔◌, ◌⊎◌, inl, inr, ℕ, zero, suc, ◌<◌, refl, ◌∙◌, sym, ap, true, false, List, [], ◌∷◌, length, get_or, get_or-set_same, set, IsTrue}
use Rattle.std.proofs.lemmas.Bool.{both_ways, true_from_ne_false}
use Rattle.odb_sched.specs.declared.phase.Phase.{Phase}
use Rattle.odb_sched.specs.declared.phase.Phase.TheVariants.{Unstarted}
use Rattle.odb_sched.specs.run.State.{is_running, State, size, phase_at}
use Rattle.odb_sched.specs.run.Steps.{may_start, is_finished}
use Rattle.odb_sched.specs.invariants.Kept.{IsReached}
use Rattle.odb_sched.proofs.StuckLemmas.{never_stuck, none_runs, none_starts}

-- a second write restores the phase before the first
pub set_back : (phases : List Phase) (i : ℕ) (before new : Phase) → get_or phases i Unstarted ≡ before → set (set phases i new) i before ≡ phases
set_back [] i before new e = refl
set_back (phase ∷ phases) zero before new e = ap (λ p. p ∷ phases) (sym e)
set_back (phase ∷ phases) (suc i) before new e = ap (λ ps. phase ∷ ps) (set_back phases i before new e)

-- writing the old phase back restores the phases
pub written_back : (phases written : List Phase) (i : ℕ) (before new : Phase) → written ≡ set phases i new → get_or phases i Unstarted ≡ before → set written i before ≡ phases
written_back phases written i before new write was = ap (λ ps. set ps i before) write ∙ set_back phases i before new was

-- what was written is read
pub written_at : (phases written : List Phase) (i : ℕ) (new : Phase) → i < length phases → written ≡ set phases i new → get_or written i Unstarted ≡ new
written_at phases written i new within write = ap (λ ps. get_or ps i Unstarted) write ∙ get_or-set_same phases i new Unstarted within

-- a run is finished exactly when none may start and none runs
pub finished_idle : (state : State) → IsReached state → IsTrue (is_finished state) ↔ ((i : ℕ) → i < size state → (may_start state i ≡ false) × (is_running (phase_at state i) ≡ false))
finished_idle state reached = (
  (λ finished i within. (none_starts state i finished within, none_runs state i finished within)),
  (λ idle. true_from_ne_false _ (λ unfinished. not_idle (never_stuck state reached unfinished) idle)),
)
  where
    not_idle : (i : ℕ) × (i < size state) × ((is_running (phase_at state i) ≡ true) ⊎ (may_start state i ≡ true)) → ((i : ℕ) → i < size state → (may_start state i ≡ false) × (is_running (phase_at state i) ≡ false)) → ⊥
    not_idle (i, within, some) idle = elim some [
      | inl runs ↦ both_ways _ (idle i within).1 runs
      | inr starts ↦ both_ways _ (idle i within).0 starts
    ]
