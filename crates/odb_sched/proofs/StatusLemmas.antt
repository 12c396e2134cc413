-- The statuses of what was reported, and of the answers.
use Rattle.std.proofs.Common.{◌≡◌, ℕ, ◌∙◌, ap, sym, subst, refl, Bool, true, false, not, ◌&&◌, Some, None, is_some, unwrap_or, IsTrue, inl, inr, set, if◌then◌else◌}
use Rattle.std.proofs.lemmas.Bool.{true≢false}
use Rattle.odb_doc.specs.declared.recorded.outcome.Outcome.{Outcome}
use Rattle.odb_sched.specs.declared.phase.Phase.{Phase}
use Rattle.odb_sched.specs.declared.phase.Phase.TheVariants.{Reported}
use Rattle.odb_doc.specs.Statuses.{is_success, is_status}
use Rattle.odb_sched.specs.run.Answers.{outcome_of, answer_of, answer, status_of, HasStatuses}
use Rattle.odb_sched.specs.run.State.{State, phase_at}
use Rattle.odb_sched.proofs.PhaseLemmas.{get_or-set_cases}

-- what a request has reported has such a status, if it has reported
abbrev HasStatus : Phase → Type 0
HasStatus phase = (outcome : Outcome) → outcome_of phase ≡ Some outcome → IsTrue (is_status outcome.status)

pub no_outcome : (phase : Phase) → outcome_of phase ≡ None → HasStatus phase
no_outcome phase none outcome e = absurd (true≢false (sym (ap is_some e) ∙ ap is_some none))

pub one_outcome : (reported : Outcome) → is_status reported.status ≡ true → HasStatus (Reported reported)
one_outcome reported sound outcome e = subst (λ (o : Outcome). IsTrue (is_status o.status)) (ap (λ found. unwrap_or found reported) e) sound

-- statuses stay in range when the phase of a request is written
pub statuses-set : (state : State) (i : ℕ) (new : Phase) → HasStatuses state → HasStatus new → HasStatuses (record state { phases = set state.phases i new })
statuses-set state i new statuses fresh j outcome e = elim (get_or-set_cases state.phases i j new) [
  | inl written ↦ fresh outcome (ap outcome_of (sym written.1) ∙ e)
  | inr kept ↦ statuses j outcome (ap outcome_of (sym kept) ∙ e)
]

one_of : (b : Bool) (outcome : Outcome) → is_status outcome.status ≡ true → is_status (status_of (if b then None else Some outcome)) ≡ true
one_of true outcome sound = refl
one_of false outcome sound = sound

status-answer_of : (phase : Phase) (succeeded : Bool) → HasStatus phase → is_status (status_of (answer_of phase succeeded)) ≡ true
status-answer_of (Reported outcome) succeeded has = one_of (is_success outcome.status && not succeeded) outcome (has outcome refl)
status-answer_of phase succeeded has = refl

-- what a request is answered has a status from 200 to 599
pub status-answer : (state : State) (i : ℕ) → HasStatuses state → is_status (status_of (answer state i)) ≡ true
status-answer state i statuses = status-answer_of (phase_at state i) _ (statuses i)
