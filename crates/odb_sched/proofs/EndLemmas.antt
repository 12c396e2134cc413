-- The end of the positions that may start, or that run, as the end of a set.
use Rattle.std.proofs.Common.{◌≡◌, ℕ, ◌<◌, ◌+◌, ◌∙◌, sym, ap, refl, subst, Bool, true, false, ◌&&◌, not, nat_lt, lt-ltb, ltb-true, length, get_or, count_by, inl, inr, Option, Some, None, IsSome, IfSome}
use Rattle.std.specs.FinSet.{contains, contains-from_list_nat}
use Rattle.std.proofs.lemmas.List.{length-map}
use Rattle.std.proofs.lemmas.Bool.{cases_lt, and_parts, and_from, both_ways, false_from_ne_true}
use Rattle.odb_sched.specs.declared.order.End.{End}
use Rattle.odb_sched.specs.declared.order.End.TheVariants.{Least, Greatest}
use Rattle.odb_check.specs.Firsts.{passing_below}
use Rattle.odb_sched.specs.run.Choosing.{positions_of, IsNone, ready_set, running_set}
use Rattle.odb_sched.specs.invariants.Ends.{IsNearer, IsEndOf, IsAt}
use Rattle.odb_sched.specs.declared.counts.Progress.{Progress}
use Rattle.odb_sched.specs.run.State.{is_running, State, size, phase_at}
use Rattle.odb_sched.specs.run.Steps.{may_start, is_finished}
use Rattle.odb_sched.specs.invariants.Kept.{IsReached, IsCounted}
use Rattle.odb_sched.proofs.KeptLemmas.{finished_idle}
use Rattle.odb_sched.proofs.CountedLemmas.{starts_is, runs_is}
use Rattle.odb_sched.proofs.ChoiceLemmas.{contains-passing}

-- a number is in the set of those below n that pass exactly when it does
pub contains_passing : (n : ℕ) (test : ℕ → Bool) (i : ℕ) → contains (positions_of (passing_below n test)) i ≡ (nat_lt i n && test i)
contains_passing n test i = contains-from_list_nat (passing_below n test) i ∙ contains-passing n test i

among : (n : ℕ) (test : ℕ → Bool) (i : ℕ) → i < n → test i ≡ true → contains (positions_of (passing_below n test)) i ≡ true
among n test i within passes = contains_passing n test i ∙ and_from _ _ (lt-ltb i n within) passes

-- no number passes, so the set is empty
pub none_at : (n : ℕ) (test : ℕ → Bool) → ((i : ℕ) → i < n → test i ≡ false) → IsNone (positions_of (passing_below n test))
none_at n test none i = false_from_ne_true _ (λ e.
    let parts = and_parts (nat_lt i n) (test i) (sym (contains_passing n test i) ∙ e) in
    both_ways _ (none i (ltb-true i n parts.0)) parts.1)

-- a number that passes, with none nearer to the end, is at the end of the set
pub end_at : (end : End) (n : ℕ) (test : ℕ → Bool) (i : ℕ) → i < n → test i ≡ true → ((j : ℕ) → j < n → IsNearer end j i → test j ≡ false) → IsAt end (positions_of (passing_below n test)) i
end_at Least n test i within passes nearest = record {
  among = among n test i within passes;
  least = λ j e. elim (cases_lt j i) [
    | inl below ↦
        let parts = and_parts (nat_lt j n) (test j) (sym (contains_passing n test j) ∙ e) in
        absurd (both_ways _ (nearest j (ltb-true j n parts.0) below) parts.1)
    | inr later ↦ later
  ];
}
end_at Greatest n test i within passes nearest = record {
  among = among n test i within passes;
  greatest = λ j e. elim (cases_lt i j) [
    | inl above ↦
        let parts = and_parts (nat_lt j n) (test j) (sym (contains_passing n test j) ∙ e) in
        absurd (both_ways _ (nearest j (ltb-true j n parts.0) above) parts.1)
    | inr earlier ↦ earlier
  ];
}

-- of an empty set no number passes
pub none_below : (n : ℕ) (test : ℕ → Bool) (i : ℕ) → IsNone (positions_of (passing_below n test)) → i < n → test i ≡ false
none_below n test i none within = false_from_ne_true _ (λ passes. both_ways _ (none i) (among n test i within passes))

-- a run in which none may start and none runs is finished
pub finished_none : (state : State) → IsReached state → IsNone (ready_set state) → IsNone (running_set state) → is_finished state ≡ true
finished_none state reached ready running = (finished_idle state reached).1 (λ i within. (none_below (size state) (may_start state) i ready within, none_below (size state) (λ j. is_running (phase_at state j)) i running within))

-- no position may start
pub none_starts : (state : State) (counted : Progress) → IsReached state → IsCounted state counted → ((i : ℕ) → (get_or counted.counts.ready i false && not counted.stopped && nat_lt (count_by (λ runs. runs) counted.counts.running) (state.policy.width + counted.lanes.spare)) ≡ false) → IsNone (ready_set state)
none_starts state counted reached are none = none_at (size state) (may_start state) (λ i within. sym (starts_is state counted i reached are within) ∙ none i)

-- no position runs
pub none_runs : (state : State) (counted : Progress) → IsCounted state counted → ((i : ℕ) → get_or counted.counts.running i false ≡ false) → IsNone (running_set state)
none_runs state counted are none = none_at (size state) (λ j. is_running (phase_at state j)) (λ i within. sym (runs_is state counted i are) ∙ none i)

-- the position at the end of the ready ones may start, and is at the end of those that may
pub starts_at : (state : State) (counted : Progress) (end : End) (found : Option ℕ) → IsReached state → IsCounted state counted → IfSome found (IsEndOf end counted.counts.ready)
    → (IsSome found → (counted.stopped ≡ false) × (nat_lt (count_by (λ runs. runs) counted.counts.running) (state.policy.width + counted.lanes.spare) ≡ true))
    → IfSome found (λ i. (i < size state) × (may_start state i ≡ true) × IsAt end (ready_set state) i)
starts_at state counted end None reached are at allowed = tt
starts_at state counted end (Some i) reached are at allowed =
    let within : i < size state = subst (λ n. i < n) are.counts.ready.entries.ready at.within in
    let open_run = allowed refl in
    let may : may_start state i ≡ true = sym (starts_is state counted i reached are within) ∙ rw (at.among, open_run.0, open_run.1) refl in
    (within, may, end_at end (size state) (may_start state) i within may (λ j inside nearer. sym (starts_is state counted j reached are inside) ∙ rw (at.nearest j nearer) refl))

-- the last or first of the running positions is running, and is the last or first in the order of positions
pub runs_at : (state : State) (counted : Progress) (end : End) (found : Option ℕ) → IsReached state → IsCounted state counted → IfSome found (IsEndOf end counted.counts.running)
    → IfSome found (λ i. (i < size state) × (is_running (phase_at state i) ≡ true) × IsAt end (running_set state) i)
runs_at state counted end None reached are at = tt
runs_at state counted end (Some i) reached are at =
    let within : i < size state = subst (λ n. i < n) (ap length are.counts.running ∙ length-map state.phases is_running ∙ reached.each) at.within in
    let runs : is_running (phase_at state i) ≡ true = sym (runs_is state counted i are) ∙ at.among in
    (within, runs, end_at end (size state) (λ j. is_running (phase_at state j)) i within runs (λ j inside nearer. sym (runs_is state counted j are) ∙ at.nearest j nearer))
