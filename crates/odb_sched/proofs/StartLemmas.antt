-- The conditions of a start.
use Rattle.std.proofs.Common.{◌≡◌, ℕ, ◌<◌, ◌≤◌, ◌+◌, ap, cond, count_by, get_or, set, List, length, refl, true, false, not, ◌&&◌, lt-ltb, ltb-true, arith, nat_lt}
use Rattle.std.proofs.lemmas.List.Sums.{count_by-le-length, sum_by-set}
use Rattle.std.proofs.lemmas.List.{length-set}
use Rattle.odb_sched.specs.declared.phase.Phase.{Phase}
use Rattle.odb_sched.specs.declared.phase.Phase.TheVariants.{Unstarted, Running}
use Rattle.std.proofs.lemmas.Bool.{and_from, and_parts, not-true, not_from_false}
use Rattle.odb_check.specs.PlanGraph.{unit_of}
use Rattle.odb_sched.specs.run.State.{is_unstarted, is_running, State, phase_at}
use Rattle.odb_sched.specs.run.Steps.{is_stopped, unit_failed, all_satisfied, running_count, spare_in, places, may_start}

pub record MayStart (state : State) (i : ℕ) : Type 0 where
  pub fresh : is_unstarted (phase_at state i) ≡ true
  pub unstopped : is_stopped state ≡ false
  pub sound : unit_failed state (unit_of state.plan_graph i) ≡ false
  pub satisfied : all_satisfied state i ≡ true
  pub room : running_count state < places state

pub may_start-from : (state : State) (i : ℕ) → MayStart state i → may_start state i ≡ true
may_start-from state i parts =
    and_from _ _ (and_from _ _ (and_from _ _ (and_from _ _ parts.fresh (not_from_false _ parts.unstopped)) (not_from_false _ parts.sound)) parts.satisfied) (lt-ltb _ _ parts.room)

pub may_start-parts : (state : State) (i : ℕ) → may_start state i ≡ true → MayStart state i
may_start-parts state i may =
    let room = and_parts (is_unstarted (phase_at state i) && not (is_stopped state) && not (unit_failed state (unit_of state.plan_graph i)) && all_satisfied state i) (nat_lt (running_count state) (places state)) may in
    let satisfied = and_parts (is_unstarted (phase_at state i) && not (is_stopped state) && not (unit_failed state (unit_of state.plan_graph i))) (all_satisfied state i) room.0 in
    let sound = and_parts (is_unstarted (phase_at state i) && not (is_stopped state)) (not (unit_failed state (unit_of state.plan_graph i))) satisfied.0 in
    let fresh = and_parts (is_unstarted (phase_at state i)) (not (is_stopped state)) sound.0 in
    record { fresh = fresh.0; unstopped = not-true _ fresh.1; sound = not-true _ sound.1; satisfied = satisfied.1; room = ltb-true _ _ room.1 }

-- a request may run, whatever the width
pub some_places : (state : State) → 0 < places state
some_places state =
    let wide : 0 < state.policy.width = state.policy.wide in
    let all : 0 < state.policy.width + spare_in state.awaited = omega arith in
    all

pub Unstarted-not_running : (phase : Phase) → is_unstarted phase ≡ true → is_running phase ≡ false
Unstarted-not_running Unstarted e = refl
Unstarted-not_running phase e = cc

abbrev weight : Phase → ℕ
weight phase = cond (is_running phase) 1 0

-- if one of the phases is not running, fewer run than there are
pub fewer_run : (phases : List Phase) (i : ℕ) → i < length phases → is_running (get_or phases i Unstarted) ≡ false → count_by is_running phases < length phases
fewer_run phases i within idle =
    let more : count_by is_running (set phases i Running) + weight (get_or phases i Unstarted) ≡ count_by is_running phases + 1 = sum_by-set weight phases i Running Unstarted within in
    let most : count_by is_running (set phases i Running) ≤ length (set phases i Running) = count_by-le-length is_running (set phases i Running) in
    let same : length (set phases i Running) ≡ length phases = length-set phases i Running in
    let none : weight (get_or phases i Unstarted) ≡ 0 = ap (λ b. cond b 1 0) idle in
    omega arith

-- one request more runs once a request has started
pub one_more_runs : (phases : List Phase) (i : ℕ) → i < length phases → is_unstarted (get_or phases i Unstarted) ≡ true → count_by is_running (set phases i Running) ≡ count_by is_running phases + 1
one_more_runs phases i within fresh =
    let more : count_by is_running (set phases i Running) + weight (get_or phases i Unstarted) ≡ count_by is_running phases + 1 = sum_by-set weight phases i Running Unstarted within in
    let none : weight (get_or phases i Unstarted) ≡ 0 = ap (λ b. cond b 1 0) (Unstarted-not_running _ fresh) in
    omega arith
