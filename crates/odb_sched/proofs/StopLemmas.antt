-- Whether a run is stopped, after an event and before the first.
use Rattle.std.proofs.Common.{◌≡◌, ℕ, zero, suc, ◌<◌, ◌∙◌, ap, refl, arith, Bool, true, false, ◌&&◌, ◌||◌, List, [], ◌∷◌, length, get_or, set, replicate}
use Rattle.std.specs.List.{list_any}
use Rattle.odb_sched.specs.declared.policy.Mode.{Mode}
use Rattle.odb_sched.specs.declared.phase.Phase.{Phase}
use Rattle.odb_sched.specs.declared.phase.Phase.TheVariants.{Unstarted, Running}
use Rattle.odb_sched.specs.run.State.{is_running, has_erred}
use Rattle.odb_sched.specs.run.Steps.{stops, stopped_in}

running_not_erred : (phase : Phase) → is_running phase ≡ true → has_erred phase ≡ false
running_not_erred Running e = refl
running_not_erred phase e = cc

erred_by_start : (phases : List Phase) (i : ℕ) → is_running (get_or phases i Unstarted) ≡ true → list_any has_erred (set phases i Unstarted) ≡ list_any has_erred phases
erred_by_start [] i runs = refl
erred_by_start (phase ∷ phases) zero runs = rw (running_not_erred phase runs) refl
erred_by_start (phase ∷ phases) (suc i) runs = ap (λ b. has_erred phase || b) (erred_by_start phases i runs)

-- a run is stopped after a start if it was before
pub stopped_by_start : (mode : Mode) (phases : List Phase) (i : ℕ) → is_running (get_or phases i Unstarted) ≡ true → stopped_in mode (set phases i Unstarted) ≡ stopped_in mode phases
stopped_by_start mode phases i runs = ap (λ b. stops mode && b) (erred_by_start phases i runs)

erred_by_report : (phases : List Phase) (i : ℕ) → i < length phases → (list_any has_erred (set phases i Running) || has_erred (get_or phases i Unstarted)) ≡ list_any has_erred phases
erred_by_report [] i within = absurd (omega arith)
erred_by_report (phase ∷ phases) zero within = at (has_erred phase) (list_any has_erred phases)
  where
    at : (a b : Bool) → (b || a) ≡ (a || b)
    at true true = refl
    at true false = refl
    at false true = refl
    at false false = refl
erred_by_report (phase ∷ phases) (suc i) within = at (has_erred phase) ∙ ap (λ b. has_erred phase || b) (erred_by_report phases i (omega arith))
  where
    at : (a : Bool) → ((a || list_any has_erred (set phases i Running)) || has_erred (get_or phases i Unstarted)) ≡ (a || (list_any has_erred (set phases i Running) || has_erred (get_or phases i Unstarted)))
    at true = refl
    at false = refl

-- a run is stopped after a report if it was before, or by the report
pub stopped_by_report : (mode : Mode) (phases : List Phase) (i : ℕ) → i < length phases → (stopped_in mode (set phases i Running) || (stops mode && has_erred (get_or phases i Unstarted))) ≡ stopped_in mode phases
stopped_by_report mode phases i within = at (stops mode) ∙ ap (λ b. stops mode && b) (erred_by_report phases i within)
  where
    at : (a : Bool) → ((a && list_any has_erred (set phases i Running)) || (a && has_erred (get_or phases i Unstarted))) ≡ (a && (list_any has_erred (set phases i Running) || has_erred (get_or phases i Unstarted)))
    at true = refl
    at false = refl

-- so is one that was stopped, whatever stopped it before
pub stopped_still : (closed : Bool) (mode : Mode) (phases : List Phase) (i : ℕ) → i < length phases → ((closed || stopped_in mode (set phases i Running)) || (stops mode && has_erred (get_or phases i Unstarted))) ≡ (closed || stopped_in mode phases)
stopped_still true mode phases i within = refl
stopped_still false mode phases i within = stopped_by_report mode phases i within

erred_first : (n : ℕ) → list_any has_erred (replicate n Unstarted) ≡ false
erred_first zero = refl
erred_first (suc n) = erred_first n

-- before any event no run is stopped
pub stopped_first : (mode : Mode) (n : ℕ) → stopped_in mode (replicate n Unstarted) ≡ false
stopped_first mode n = rw (erred_first n) (at (stops mode))
  where
    at : (a : Bool) → (a && false) ≡ false
    at true = refl
    at false = refl
