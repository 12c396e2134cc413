-- What holds of a unit that is sent as one.
use Rattle.std.proofs.Common.{◌≡◌, ℕ, zero, suc, ◌<◌, ◌+◌, ◌-◌, ◌==◌, ◌∙◌, sym, refl, ap, subst, arith, Bool, true, false, cond, if◌then◌else◌, List, length, get_or, set, count_by, eqb-true}
use Rattle.std.specs.List.{list_any}
use Rattle.std.proofs.lemmas.List.{ext_get_or}
use Rattle.std.proofs.lemmas.List.Sums.{sum_by_push}
use Rattle.odb_check.specs.Firsts.{count_below, list_below}
use Rattle.odb_check.specs.PlanGraph.{PlanGraph, unit_of}
use Rattle.odb_check.proofs.BelowLemmas.{length-list_below, get_or-list_below}
use Rattle.odb_sched.specs.declared.event.Event.{Event}
use Rattle.odb_sched.specs.declared.phase.Phase.{Phase}
use Rattle.odb_sched.specs.declared.phase.Phase.TheVariants.{Unstarted, Running}
use Rattle.odb_sched.specs.run.State.{State, is_running, members_in, running_members, started_unit}
use Rattle.odb_sched.specs.run.Steps.{spare_in, is_satisfied}
use Rattle.odb_sched.specs.run.Units.{has_begun_in}
use Rattle.odb_sched.specs.run.Runs.{after_all, first_report, starts}
use Rattle.odb_sched.specs.run.Whole.{IsWhole, AreWhole}
use Rattle.odb_sched.specs.invariants.Kept.{IsReached}
use Rattle.odb_sched.proofs.BeginLemmas.{MayBegin, may_begin-parts, member_unstarted, unit_apart}
use Rattle.odb_sched.proofs.CountLemmas.{count_either}
use Rattle.odb_sched.proofs.EventLemmas.{phase_after_all, phase_since}
use Rattle.odb_sched.proofs.LaneLemmas.{spare-set}
use Rattle.odb_sched.proofs.MemberLemmas.{member_runs, reached_unit}
use Rattle.odb_sched.proofs.OuterLemmas.{outer-each}
use Rattle.odb_sched.proofs.ResultLemmas.{all_or_none}
use Rattle.odb_sched.proofs.RunLemmas.{plan_graph-after_all}
use Rattle.odb_sched.proofs.StartLemmas.{Unstarted-not_running}

-- the running ones among the phases that a function gives
count_listed : (n : ℕ) (value : ℕ → Phase) → count_by is_running (list_below n value) ≡ count_below n (λ i. is_running (value i))
count_listed zero value = refl
count_listed (suc n) value = sum_by_push (λ phase. cond (is_running phase) 1 0) (list_below n value) (value n) ∙ rw (count_listed n value) (at (is_running (value n)) (count_below n (λ i. is_running (value i))))
  where
    at : (b : Bool) (m : ℕ) → m + cond b 1 0 ≡ cond b (suc m) m
    at true m = omega arith
    at false m = omega arith

-- the running ones by position
pub count_phases : (phases : List Phase) (n : ℕ) → length phases ≡ n → count_by is_running phases ≡ count_below n (λ i. is_running (get_or phases i Unstarted))
count_phases phases n each =
    ap (count_by is_running) (ext_get_or Unstarted phases (list_below n (λ i. get_or phases i Unstarted)) (each ∙ sym (length-list_below n (λ i. get_or phases i Unstarted)))
    (λ i within. sym (get_or-list_below n (λ j. get_or phases j Unstarted) i Unstarted (subst (λ m. i < m) each within))))
    ∙ count_listed n (λ i. get_or phases i Unstarted)

-- all members more run
pub members_run : (plan : PlanGraph) (phases : List Phase) (u : ℕ) → length phases ≡ length plan.units → has_begun_in plan phases u ≡ false → count_by is_running (running_members plan phases u) ≡ count_by is_running phases + members_in plan u
members_run plan phases u each fresh =
    count_listed (length plan.units) (λ i. if unit_of plan i == u then Running else get_or phases i Unstarted)
    ∙ count_either (length plan.units) (λ i. is_running (get_or phases i Unstarted)) (λ i. unit_of plan i == u) (λ i. is_running (if unit_of plan i == u then Running else get_or phases i Unstarted))
    (λ i within here. Unstarted-not_running (get_or phases i Unstarted) (member_unstarted plan phases u i fresh within (eqb-true _ _ here)))
    (λ i within. at (unit_of plan i == u) (get_or phases i Unstarted))
    ∙ ap (λ m. m + members_in plan u) (sym (count_phases phases (length plan.units) each))
  where
    at : (b : Bool) (phase : Phase) → is_running (if b then Running else phase) ≡ (if b then true else is_running phase)
    at true phase = refl
    at false phase = refl

module _ (state : State) (u : ℕ) (reached : IsReached state) (begin : MayBegin state u) (known : u < state.plan_graph.unit_count) (some : 0 < members_in state.plan_graph u) where
  apart : get_or state.awaited u 0 ≡ 0
  apart = unit_apart state u reached some begin.fresh

  more : count_by is_running (running_members state.plan_graph state.phases u) ≡ count_by is_running state.phases + members_in state.plan_graph u
  more = members_run state.plan_graph state.phases u reached.each begin.fresh

  pub sent : IsReached (started_unit state u)
  sent = reached_unit state u reached begin known some apart more

  same_graph : (events : List Event) → (after_all (started_unit state u) events).plan_graph ≡ state.plan_graph
  same_graph events = plan_graph-after_all (started_unit state u) events

  one_place : count_by is_running (running_members state.plan_graph state.phases u) + (state.policy.width + spare_in state.awaited)
      ≡ (count_by is_running state.phases + 1) + (state.policy.width + spare_in (set state.awaited u (members_in state.plan_graph u)))
  one_place =
      let by_unit : length state.awaited ≡ state.plan_graph.unit_count = reached.by_unit in
      let grown : spare_in (set state.awaited u (members_in state.plan_graph u)) + (get_or state.awaited u 0 - 1) ≡ spare_in state.awaited + (members_in state.plan_graph u - 1) = spare-set state.awaited u (members_in state.plan_graph u) (omega (arith, by_unit, known)) in
      let run = more in
      let none = apart in
      omega (arith, grown, run, none, some)

  whole : IsWhole state u
  whole = record {
    needs = λ i need member has other. outer-each state.plan_graph u i need (is_satisfied state) begin.satisfied member.0 member.1 has other;
    one_place = one_place;
    together = λ events run i member.
        phase_after_all (started_unit state u) events i sent run
        ∙ ap (λ phase. phase_since phase (first_report i events) (list_any (starts i) events)) (member_runs state.plan_graph state.phases u i member.0 member.1);
    all_or_none = λ events run i j first second good.
        all_or_none (after_all (started_unit state u) events) i j (rw (same_graph events) first.0) (rw (same_graph events) second.0) (rw (same_graph events) (first.1 ∙ sym second.1)) good;
  }

pub are_whole : (state : State) → IsReached state → ((u : ℕ) → u < state.plan_graph.unit_count → 0 < members_in state.plan_graph u) → AreWhole state
are_whole state reached populated u known may = whole state u reached (may_begin-parts state u may) known (populated u known)
