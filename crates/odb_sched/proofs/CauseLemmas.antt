-- The first cause against a start or a report. An event may come if and only if there is none.
use Rattle.std.proofs.Common.{◌≡◌, ◌↔◌, ◌∙◌, ℕ, ◌<◌, ◌≤◌, ◌+◌, ap, sym, refl, arith, true, false, not, length, Option, Some, None, is_none, is_some, unwrap_or, find, IsTrue, inl, inr, ◌⊎◌}
use Rattle.std.proofs.lemmas.Bool.{both_ways, true≢false, true_from_ne_false, false_from_ne_true, and_from, and_parts, cases_lt, cases_order}
use Rattle.odb_doc.specs.declared.recorded.outcome.Outcome.{Outcome}
use Rattle.odb_doc.specs.LeastRules.{IsLeast}
use Rattle.odb_check.specs.declared.need.Need.{Need}
use Rattle.odb_check.specs.PlanGraph.{unit_of, needs_of}
use Rattle.odb_sched.specs.declared.refusal.StartRefusal.{StartRefusal}
use Rattle.odb_sched.specs.declared.refusal.StartRefusal.TheVariants as start
use Rattle.odb_sched.specs.declared.refusal.ReportRefusal.{ReportRefusal}
use Rattle.odb_sched.specs.declared.refusal.ReportRefusal.TheVariants as report
use Rattle.odb_doc.specs.Statuses.{is_status}
use Rattle.odb_sched.specs.run.State.{is_unstarted, is_running, State, size, phase_at}
use Rattle.odb_sched.specs.run.Steps.{is_stopped, unit_failed, is_satisfied, all_satisfied, running_count, spare_in, places, may_start, may_report, start_number, BarsStart, IsStartCause, report_number, BarsReport, IsReportCause}
use Rattle.odb_sched.proofs.BelowLemmas.{find-all}
use Rattle.odb_sched.proofs.StartLemmas.{MayStart, may_start-from, may_start-parts, fewer_run, Unstarted-not_running}

-- two first causes have the same number
pub same_number : {R : Type 0} (number : R → ℕ) (Bars : R → Type 0) (cause other : R) → IsLeast number Bars cause → IsLeast number Bars other → number cause ≡ number other
same_number number Bars cause other x y = at (cases_order (number cause) (number other))
  where
    at : (number cause ≡ number other) ⊎ ((number cause < number other) ⊎ (number other < number cause)) → number cause ≡ number other
    at (inl same) = same
    at (inr (inl less)) = absurd (y.least cause less x.broken)
    at (inr (inr less)) = absurd (x.least other less y.broken)

-- ---- starts

module _ (state : State) (i : ℕ) where
  abbrev unmet : Option Need
  unmet = find (λ need. not (is_satisfied state need)) (needs_of state.plan_graph i)

  module _ (fresh : is_unstarted (phase_at state i) ≡ true) (going : is_stopped state ≡ false) (sound : unit_failed state (unit_of state.plan_graph i) ≡ false) (met : unmet ≡ None) where
    -- none of the causes before the width bars the start
    none_before : (other : StartRefusal) → start_number other < 5 → ¬ BarsStart other state i
    none_before start.AlreadyStarted less bars = both_ways _ bars fresh
    none_before start.Stopped less bars = both_ways _ going bars
    none_before start.UnitFailed less bars = both_ways _ sound bars
    none_before (start.Waiting need) less bars = true≢false (sym (ap is_some (sym met ∙ bars)))
    none_before start.WidthReached less bars = absurd (omega arith)

    pub first_full : places state ≤ running_count state → IsStartCause state i start.WidthReached
    first_full bars = record { broken = bars; least = none_before }

    pub none_bars : running_count state < places state → may_start state i ≡ true
    none_bars room = may_start-from state i (record { fresh = fresh; unstopped = going; sound = sound; satisfied = sym (find-all (is_satisfied state) (needs_of state.plan_graph i)) ∙ ap is_none met; room = room })

  same_start : (cause other : StartRefusal) → BarsStart cause state i → BarsStart other state i → start_number cause ≡ start_number other → cause ≡ other
  same_start start.AlreadyStarted start.AlreadyStarted a b same = refl
  same_start start.Stopped start.Stopped a b same = refl
  same_start start.UnitFailed start.UnitFailed a b same = refl
  same_start (start.Waiting need) (start.Waiting other) a b same = ap (λ found. start.Waiting (unwrap_or found need)) (sym a ∙ b)
  same_start start.WidthReached start.WidthReached a b same = refl
  same_start cause other a b same = absurd (omega arith)

  pub one_start : (cause other : StartRefusal) → IsStartCause state i cause → IsStartCause state i other → cause ≡ other
  one_start cause other x y = same_start cause other x.broken y.broken (same_number start_number (λ c. BarsStart c state i) cause other x y)

  unbarred : MayStart state i → (cause : StartRefusal) → ¬ BarsStart cause state i
  unbarred may start.AlreadyStarted bars = both_ways _ bars may.fresh
  unbarred may start.Stopped bars = both_ways _ may.unstopped bars
  unbarred may start.UnitFailed bars = both_ways _ may.sound bars
  unbarred may (start.Waiting need) bars = both_ways (all_satisfied state i) (sym (find-all (is_satisfied state) (needs_of state.plan_graph i)) ∙ ap is_none bars) may.satisfied
  unbarred may start.WidthReached bars = let room = may.room in absurd (omega arith)

  none_unmet : (found : Option Need) → ((need : Need) → found ≡ Some need → ⊥) → found ≡ None
  none_unmet None none = refl
  none_unmet (Some need) none = absurd (none need refl)

  free : ((cause : StartRefusal) → ¬ BarsStart cause state i) → (running_count state < places state) ⊎ (places state ≤ running_count state) → may_start state i ≡ true
  free none (inr full) = absurd (none start.WidthReached full)
  free none (inl room) = none_bars (true_from_ne_false _ (none start.AlreadyStarted)) (false_from_ne_true _ (none start.Stopped)) (false_from_ne_true _ (none start.UnitFailed)) (none_unmet unmet (λ need. none (start.Waiting need))) room

  pub start_bars : IsTrue (may_start state i) ↔ ((cause : StartRefusal) → ¬ BarsStart cause state i)
  start_bars = ((λ may. unbarred (may_start-parts state i may)), (λ none. free none (cases_lt (running_count state) (places state))))

  -- what a cause bars may not come
  pub start_barred : (cause : StartRefusal) → IsStartCause state i cause → may_start state i ≡ false
  start_barred cause first = false_from_ne_true _ (λ may. unbarred (may_start-parts state i may) cause first.broken)

  -- a width for all requests holds none back
  pub not_held_back : length state.phases ≡ size state → i < size state → size state ≤ state.policy.width → ¬ IsStartCause state i start.WidthReached
  not_held_back each within wide first =
      let fresh : is_unstarted (phase_at state i) ≡ true = true_from_ne_false _ (first.least start.AlreadyStarted (omega arith)) in
      let fewer : running_count state < length state.phases = fewer_run state.phases i (omega arith) (Unstarted-not_running (phase_at state i) fresh) in
      let full : state.policy.width + spare_in state.awaited ≤ running_count state = first.broken in
      absurd (omega arith)

-- ---- reports

module _ (state : State) (i : ℕ) (outcome : Outcome) where
  same_report : (cause other : ReportRefusal) → report_number cause ≡ report_number other → cause ≡ other
  same_report report.NotRunning report.NotRunning same = refl
  same_report report.BadStatus report.BadStatus same = refl
  same_report cause other same = absurd (omega arith)

  pub one_report : (cause other : ReportRefusal) → IsReportCause state i outcome cause → IsReportCause state i outcome other → cause ≡ other
  one_report cause other x y = same_report cause other (same_number report_number (λ c. BarsReport c state i outcome) cause other x y)

  -- no cause comes before the first
  none_less : (other : ReportRefusal) → report_number other < 1 → ⊥
  none_less report.NotRunning less = omega arith
  none_less report.BadStatus less = omega arith

  pub first_idle : is_running (phase_at state i) ≡ false → IsReportCause state i outcome report.NotRunning
  first_idle bars = record { broken = bars; least = λ other less. absurd (none_less other less) }

  module _ (runs : is_running (phase_at state i) ≡ true) where
    runs_before : (other : ReportRefusal) → report_number other < 2 → ¬ BarsReport other state i outcome
    runs_before report.NotRunning less bars = both_ways _ bars runs
    runs_before report.BadStatus less bars = absurd (omega arith)

    pub first_bad : is_status outcome.status ≡ false → IsReportCause state i outcome report.BadStatus
    first_bad bars = record { broken = bars; least = runs_before }

  unbarred_report : (is_running (phase_at state i) ≡ true) × (is_status outcome.status ≡ true) → (cause : ReportRefusal) → ¬ BarsReport cause state i outcome
  unbarred_report parts report.NotRunning bars = both_ways _ bars parts.0
  unbarred_report parts report.BadStatus bars = both_ways _ bars parts.1

  pub report_bars : IsTrue (may_report state i outcome) ↔ ((cause : ReportRefusal) → ¬ BarsReport cause state i outcome)
  report_bars = (
    (λ may. unbarred_report (and_parts (is_running (phase_at state i)) (is_status outcome.status) may)),
    (λ none. and_from _ _ (true_from_ne_false _ (none report.NotRunning)) (true_from_ne_false _ (none report.BadStatus))),
  )

  -- what a cause bars may not come
  pub report_barred : (cause : ReportRefusal) → IsReportCause state i outcome cause → may_report state i outcome ≡ false
  report_barred cause first = false_from_ne_true _ (λ may. unbarred_report (and_parts (is_running (phase_at state i)) (is_status outcome.status) may) cause first.broken)
