-- How many run at once in a live run, where a unit that was sent as one counts as one.
use Rattle.std.proofs.Common.{◌≡◌, ◌≢◌, ℕ, zero, suc, ◌<◌, ◌≤◌, ◌+◌, ◌-◌, ◌==◌, ◌∙◌, sym, refl, ap, subst, arith, ◌⊎◌, Bool, true, false, not, cond, if◌then◌else◌, ◌&&◌, ◌||◌, eq-eqb, ne_eqb, List, [], ◌∷◌, length, get_or, get_or-set_same, get_or-set_other, set, inl, inr}
use Rattle.std.specs.List.{sum_by}
use Rattle.std.proofs.lemmas.Bool.{cases_Bool, cases_eq, and_from, and_parts, both_ways, true≢false, false_from_ne_true}
use Rattle.std.proofs.lemmas.List.{ext_get_or, get_or-replicate}
use Rattle.std.proofs.lemmas.List.Sums.{sum_by_push}
use Rattle.odb_check.specs.Firsts.{any_below, count_below, list_below}
use Rattle.odb_check.specs.PlanGraph.{PlanGraph, IsPlan, unit_of}
use Rattle.odb_check.proofs.BelowLemmas.{length-list_below, get_or-list_below}
use Rattle.odb_doc.specs.declared.recorded.outcome.Outcome.{Outcome}
use Rattle.odb_doc.specs.Statuses.{is_status}
use Rattle.odb_sched.specs.declared.event.Event.TheVariants.{Start, Report}
use Rattle.odb_sched.specs.declared.phase.Phase.{Phase}
use Rattle.odb_sched.specs.declared.phase.Phase.TheVariants.{Unstarted, Running, Reported}
use Rattle.odb_sched.specs.declared.policy.Policy.{Policy}
use Rattle.odb_sched.specs.run.State.{State, is_running, is_unstarted, members_in, phase_at, reported, running_members, size, started, started_unit}
use Rattle.odb_sched.specs.run.Steps.{may_report, may_start, running_count, spare_in}
use Rattle.odb_sched.specs.run.LiveEvents.{LiveEvent, Single, StartUnit, Stop, after_live, after_all_live, IsLiveRunFrom, is_sent}
use Rattle.odb_sched.specs.run.LiveLaws.{single_count, sent_count}
use Rattle.odb_sched.specs.invariants.Kept.{first_of, IsReached}
use Rattle.odb_sched.proofs.BelowLemmas.{any_below-Decides}
use Rattle.odb_sched.proofs.CountLemmas.{count_either, count_less, count_none, count_same}
use Rattle.odb_sched.proofs.LiveLemmas.{IsPopulated, counted, reached_after_live}
use Rattle.odb_sched.proofs.MemberLemmas.{member_runs, other_stays}
use Rattle.odb_sched.proofs.PhaseLemmas.{Running-from, get_or-set_cases}
use Rattle.odb_sched.proofs.ReachedLemmas.{reached_first}
use Rattle.odb_sched.proofs.StartLemmas.{may_start-parts}
use Rattle.odb_sched.proofs.WholeLemmas.{count_phases}

-- ---- sums of what a function gives at the numbers below a bound

abbrev sum_below : ℕ → (ℕ → ℕ) → ℕ
sum_below zero value = 0
sum_below (suc n) value = sum_below n value + value n

sum_same : (n : ℕ) (value other : ℕ → ℕ) → ((u : ℕ) → u < n → value u ≡ other u) → sum_below n value ≡ sum_below n other
sum_same zero value other same = refl
sum_same (suc n) value other same = rw (sum_same n value other (λ u below. same u (omega (arith, below))), same n (omega arith)) refl

sum_plus : (n : ℕ) (value other : ℕ → ℕ) → sum_below n (λ u. value u + other u) ≡ sum_below n value + sum_below n other
sum_plus zero value other = refl
sum_plus (suc n) value other = let before = sum_plus n value other in omega (arith, before)

sum_none : (n : ℕ) → sum_below n (λ u. 0) ≡ 0
sum_none zero = refl
sum_none (suc n) = let before = sum_none n in omega (arith, before)

-- one of them is one more
sum_more : (n k : ℕ) (value : ℕ → ℕ) → k < n → sum_below n (λ u. cond (k == u) (suc (value u)) (value u)) ≡ suc (sum_below n value)
sum_more zero k value below = absurd (omega (arith, below))
sum_more (suc n) k value below = elim (cases_eq k n) [
  | inl same ↦
      let before : sum_below n (λ u. cond (k == u) (suc (value u)) (value u)) ≡ sum_below n value = sum_same n (λ u. cond (k == u) (suc (value u)) (value u)) value (λ u less. rw (ne_eqb k u (λ e. omega (arith, less, e, same))) refl) in
      rw (before, eq-eqb k n same) (omega arith)
  | inr other ↦
      let before = sum_more n k value (omega (arith, below, other)) in
      rw (before, ne_eqb k n other) (omega arith)
]

sum_one : (n k : ℕ) (b : Bool) (value : ℕ → ℕ) → k < n → sum_below n (λ u. cond (b && (k == u)) (suc (value u)) (value u)) ≡ cond b (suc (sum_below n value)) (sum_below n value)
sum_one n k true value below = sum_more n k value below
sum_one n k false value below = refl

sum_count : (n : ℕ) (test : ℕ → Bool) → count_below n test ≡ sum_below n (λ u. cond (test u) 1 0)
sum_count zero test = refl
sum_count (suc n) test = rw (← sum_count n test) (at (test n) (count_below n test))
  where
    at : (b : Bool) (c : ℕ) → cond b (suc c) c ≡ c + cond b 1 0
    at true c = omega arith
    at false c = omega arith

-- those that pass, group by group
by_groups : (n m : ℕ) (group : ℕ → ℕ) (test : ℕ → Bool) → ((i : ℕ) → i < n → group i < m) → count_below n test ≡ sum_below m (λ u. count_below n (λ i. test i && (group i == u)))
by_groups zero m group test known = sym (sum_none m)
by_groups (suc n) m group test known =
    ap (λ c. cond (test n) (suc c) c) (by_groups n m group test (λ i below. known i (omega (arith, below))))
    ∙ sym (sum_one m (group n) (test n) (λ u. count_below n (λ i. test i && (group i == u))) (known n (omega arith)))

sum_listed : (test : ℕ → ℕ) (n : ℕ) (value : ℕ → ℕ) → sum_by test (list_below n value) ≡ sum_below n (λ u. test (value u))
sum_listed test zero value = refl
sum_listed test (suc n) value = sum_by_push test (list_below n value) (value n) ∙ ap (λ m. m + test (value n)) (sum_listed test n value)

sum_of_list : (test : ℕ → ℕ) (xs : List ℕ) (n : ℕ) → length xs ≡ n → sum_by test xs ≡ sum_below n (λ u. test (get_or xs u 0))
sum_of_list test xs n each =
    ap (sum_by test) (ext_get_or 0 xs (list_below n (λ u. get_or xs u 0)) (each ∙ sym (length-list_below n (λ u. get_or xs u 0)))
    (λ u within. sym (get_or-list_below n (λ v. get_or xs v 0) u 0 (subst (λ m. u < m) each within))))
    ∙ sum_listed test n (λ u. get_or xs u 0)

-- ---- what is awaited of units that were sent as one

-- how many members of a unit run
abbrev running_in : PlanGraph → List Phase → ℕ → ℕ
running_in plan phases u = count_below (length plan.units) (λ i. is_running (get_or phases i Unstarted) && (unit_of plan i == u))

and_false : (b : Bool) → (b && false) ≡ false
and_false true = refl
and_false false = refl

-- phases that are alike at the members of a unit have as many running members
alike : (plan : PlanGraph) (phases others : List Phase) (u : ℕ) → ((i : ℕ) → i < length plan.units → unit_of plan i ≡ u → get_or phases i Unstarted ≡ get_or others i Unstarted) → running_in plan phases u ≡ running_in plan others u
alike plan phases others u same = count_same (length plan.units) (λ i. is_running (get_or phases i Unstarted) && (unit_of plan i == u)) (λ i. is_running (get_or others i Unstarted) && (unit_of plan i == u)) (λ i within. elim (cases_eq (unit_of plan i) u) [
  | inl here ↦ rw (same i within here) refl
  | inr elsewhere ↦ rw (ne_eqb _ _ elsewhere, and_false (is_running (get_or phases i Unstarted)), and_false (is_running (get_or others i Unstarted))) refl
])

-- a write over a request of another unit
written_elsewhere : (plan : PlanGraph) (phases : List Phase) (i u : ℕ) (new : Phase) → unit_of plan i ≢ u → running_in plan (set phases i new) u ≡ running_in plan phases u
written_elsewhere plan phases i u new elsewhere = alike plan (set phases i new) phases u (λ k within here. get_or-set_other phases i k new Unstarted (λ same. elsewhere (ap (unit_of plan) (sym same) ∙ here)))

-- of a unit that was sent as one the reports of its running members are awaited, and each member has started; of any other none
record AreSent (state : State) (was_sent : ℕ → Bool) : Type 0 where
  awaited : (u : ℕ) → u < state.plan_graph.unit_count → get_or state.awaited u 0 ≡ cond (was_sent u) (running_in state.plan_graph state.phases u) 0
  begun : (i : ℕ) → i < size state → was_sent (unit_of state.plan_graph i) ≡ true → is_unstarted (phase_at state i) ≡ false

sent_as : (state : State) (was_sent other : ℕ → Bool) → ((u : ℕ) → was_sent u ≡ other u) → AreSent state was_sent → AreSent state other
sent_as state was_sent other same are = record {
  awaited = λ u inside. are.awaited u inside ∙ ap (λ b. cond b (running_in state.plan_graph state.phases u) 0) (same u);
  begun = λ i within was. are.begun i within (same (unit_of state.plan_graph i) ∙ was);
}

begun_after : (phases : List Phase) (i j : ℕ) (new : Phase) → is_unstarted new ≡ false → is_unstarted (get_or phases i Unstarted) ≡ false → is_unstarted (get_or (set phases j new) i Unstarted) ≡ false
begun_after phases i j new started before = elim (get_or-set_cases phases j i new) [
  | inl written ↦ ap is_unstarted written.1 ∙ started
  | inr kept ↦ ap is_unstarted kept ∙ before
]

sent_start : (state : State) (j : ℕ) (was_sent : ℕ → Bool) → AreSent state was_sent → j < size state → may_start state j ≡ true → AreSent (started state j) was_sent
sent_start state j was_sent are known may = record {
  awaited = λ u inside. are.awaited u inside ∙ at u (cases_Bool (was_sent u));
  begun = λ i within was. begun_after state.phases i j Running refl (are.begun i within was);
}
  where
    at : (u : ℕ) → (was_sent u ≡ true) ⊎ (was_sent u ≡ false) → cond (was_sent u) (running_in state.plan_graph state.phases u) 0 ≡ cond (was_sent u) (running_in state.plan_graph (set state.phases j Running) u) 0
    at u (inr unsent) = rw unsent refl
    at u (inl was) = ap (λ n. cond (was_sent u) n 0) (sym (written_elsewhere state.plan_graph state.phases j u Running
        (λ here. both_ways (is_unstarted (phase_at state j)) (are.begun j known (ap was_sent here ∙ was)) (may_start-parts state j may).fresh)))

one_less : (plan : PlanGraph) (phases : List Phase) (j : ℕ) (outcome : Outcome) → length phases ≡ length plan.units → j < length plan.units → get_or phases j Unstarted ≡ Running → running_in plan phases (unit_of plan j) ≡ suc (running_in plan (set phases j (Reported outcome)) (unit_of plan j))
one_less plan phases j outcome each within runs =
    count_less (length plan.units) j (λ i. is_running (get_or phases i Unstarted) && (unit_of plan i == unit_of plan j)) (λ i. is_running (get_or (set phases j (Reported outcome)) i Unstarted) && (unit_of plan i == unit_of plan j)) within
    (rw (runs, eq-eqb (unit_of plan j) (unit_of plan j) refl) refl)
    (rw (get_or-set_same phases j (Reported outcome) Unstarted (omega (arith, each, within))) refl)
    (λ i below other. rw (get_or-set_other phases j i (Reported outcome) Unstarted other) refl)

sent_report : (state : State) (j : ℕ) (outcome : Outcome) (was_sent : ℕ → Bool) → IsReached state → AreSent state was_sent → j < size state → may_report state j outcome ≡ true → AreSent (reported state j outcome) was_sent
sent_report state j outcome was_sent reached are known may = record {
  awaited = λ u inside. elim (cases_eq u (unit_of state.plan_graph j)) [
    | inl here ↦ subst (λ v. get_or (set state.awaited (unit_of state.plan_graph j) (get_or state.awaited (unit_of state.plan_graph j) 0 - 1)) v 0 ≡ cond (was_sent v) (running_in state.plan_graph (set state.phases j (Reported outcome)) v) 0) (sym here) own
    | inr other ↦ get_or-set_other state.awaited (unit_of state.plan_graph j) u _ 0 other ∙ are.awaited u inside
        ∙ ap (λ n. cond (was_sent u) n 0) (sym (written_elsewhere state.plan_graph state.phases j u (Reported outcome) (λ e. other (sym e))))
  ];
  begun = λ i within was. begun_after state.phases i j (Reported outcome) refl (are.begun i within was);
}
  where
    inner : ℕ
    inner = unit_of state.plan_graph j

    at : (b : Bool) (before after left : ℕ) → left ≡ cond b before 0 → before ≡ suc after → left - 1 ≡ cond b after 0
    at true before after left is more = omega (arith, is, more)
    at false before after left is more = omega (arith, is)

    own : get_or (set state.awaited (unit_of state.plan_graph j) (get_or state.awaited (unit_of state.plan_graph j) 0 - 1)) (unit_of state.plan_graph j) 0 ≡ cond (was_sent (unit_of state.plan_graph j)) (running_in state.plan_graph (set state.phases j (Reported outcome)) (unit_of state.plan_graph j)) 0
    own =
        let counts : unit_of state.plan_graph j < state.plan_graph.unit_count = reached.laws.counted j known in
        let by_unit : length state.awaited ≡ state.plan_graph.unit_count = reached.by_unit in
        let runs = Running-from (phase_at state j) (and_parts (is_running (phase_at state j)) (is_status outcome.status) may).0 in
        get_or-set_same state.awaited (unit_of state.plan_graph j) _ 0 (omega (arith, counts, by_unit))
        ∙ at (was_sent (unit_of state.plan_graph j)) (running_in state.plan_graph state.phases (unit_of state.plan_graph j)) (running_in state.plan_graph (set state.phases j (Reported outcome)) (unit_of state.plan_graph j)) (get_or state.awaited (unit_of state.plan_graph j) 0)
        (are.awaited (unit_of state.plan_graph j) counts) (one_less state.plan_graph state.phases j outcome reached.each known runs)

sent_unit : (state : State) (v : ℕ) (was_sent : ℕ → Bool) → IsReached state → AreSent state was_sent → v < state.plan_graph.unit_count → AreSent (started_unit state v) (λ u. (v == u) || was_sent u)
sent_unit state v was_sent reached are known = record {
  awaited = λ u inside. elim (cases_eq u v) [
    | inl here ↦ subst (λ w. get_or (set state.awaited v (members_in state.plan_graph v)) w 0 ≡ cond ((v == w) || was_sent w) (running_in state.plan_graph (running_members state.plan_graph state.phases v) w) 0) (sym here)
        (let by_unit : length state.awaited ≡ state.plan_graph.unit_count = reached.by_unit in
        get_or-set_same state.awaited v (members_in state.plan_graph v) 0 (omega (arith, known, by_unit)) ∙ sym (rw (eq-eqb v v refl) all_run))
    | inr other ↦ get_or-set_other state.awaited v u (members_in state.plan_graph v) 0 other ∙ are.awaited u inside
        ∙ rw (ne_eqb v u (λ e. other (sym e))) (ap (λ n. cond (was_sent u) n 0) (sym (alike state.plan_graph (running_members state.plan_graph state.phases v) state.phases u (λ i within here. other_stays state.plan_graph state.phases v i within (λ same. other (sym here ∙ same))))))
  ];
  begun = λ i within was. elim (cases_eq (unit_of state.plan_graph i) v) [
    | inl here ↦ ap is_unstarted (member_runs state.plan_graph state.phases v i within here)
    | inr elsewhere ↦ ap is_unstarted (other_stays state.plan_graph state.phases v i within elsewhere) ∙ are.begun i within (sym (ap (λ b. b || was_sent (unit_of state.plan_graph i)) (ne_eqb v (unit_of state.plan_graph i) (λ e. elsewhere (sym e)))) ∙ was)
  ];
}
  where
    all_run : running_in state.plan_graph (running_members state.plan_graph state.phases v) v ≡ members_in state.plan_graph v
    all_run = count_same (length state.plan_graph.units) (λ i. is_running (get_or (running_members state.plan_graph state.phases v) i Unstarted) && (unit_of state.plan_graph i == v)) (λ i. unit_of state.plan_graph i == v) (λ i within. elim (cases_eq (unit_of state.plan_graph i) v) [
      | inl here ↦ rw (member_runs state.plan_graph state.phases v i within here) refl
      | inr elsewhere ↦ rw (ne_eqb _ _ elsewhere) (and_false (is_running (get_or (running_members state.plan_graph state.phases v) i Unstarted)))
    ])

or_turned : (a b c : Bool) → (b || (a || c)) ≡ ((a || b) || c)
or_turned true true c = refl
or_turned true false c = refl
or_turned false true c = refl
or_turned false false c = refl

sent_along : (state : State) (events : List LiveEvent) (was_sent : ℕ → Bool) → IsPopulated state.plan_graph → IsReached state → IsLiveRunFrom state events → AreSent state was_sent → AreSent (after_all_live state events) (λ u. is_sent events u || was_sent u)
sent_along state [] was_sent some reached run are = are
sent_along state (Single (Start j) ∷ es) was_sent some reached run are =
    sent_along (started state j) es was_sent some (reached_after_live state (Single (Start j)) some reached run.0 run.1) run.2 (sent_start state j was_sent are run.0 run.1)
sent_along state (Single (Report j outcome) ∷ es) was_sent some reached run are =
    sent_along (reported state j outcome) es was_sent some (reached_after_live state (Single (Report j outcome)) some reached run.0 run.1) run.2 (sent_report state j outcome was_sent reached are run.0 run.1)
sent_along state (StartUnit v ∷ es) was_sent some reached run are =
    sent_as (after_all_live (started_unit state v) es) (λ u. is_sent es u || ((v == u) || was_sent u)) (λ u. ((v == u) || is_sent es u) || was_sent u) (λ u. or_turned (v == u) (is_sent es u) (was_sent u))
    (sent_along (started_unit state v) es (λ u. (v == u) || was_sent u) some (reached_after_live state (StartUnit v) some reached run.0 run.1) run.2 (sent_unit state v was_sent reached are run.0))
sent_along state (Stop ∷ es) was_sent some reached run are =
    sent_along (after_live state Stop) es was_sent some (reached_after_live state Stop some reached run.0 run.1) run.2 (record { awaited = are.awaited; begun = are.begun })

-- ---- how many run at once

module _ (state : State) (was_sent : ℕ → Bool) (reached : IsReached state) (are : AreSent state was_sent) where
  abbrev runs : ℕ → Bool
  runs i = is_running (phase_at state i)

  abbrev unit : ℕ → ℕ
  unit i = unit_of state.plan_graph i

  abbrev any_runs : ℕ → Bool
  any_runs u = any_below (size state) (λ i. (unit i == u) && runs i)

  -- the members of a unit that was sent as one, among all
  of_unit : (u : ℕ) → u < state.plan_graph.unit_count → count_below (size state) (λ i. (runs i && was_sent (unit i)) && (unit i == u)) ≡ get_or state.awaited u 0
  of_unit u inside = elim (cases_Bool (was_sent u)) [
    | inl was ↦ count_same (size state) (λ i. (runs i && was_sent (unit i)) && (unit i == u)) (λ i. runs i && (unit i == u)) (λ i within. elim (cases_eq (unit i) u) [
      | inl here ↦ rw (here, was) (keeps (runs i) (u == u))
      | inr elsewhere ↦ rw (ne_eqb _ _ elsewhere, and_false (runs i), and_false (runs i && was_sent (unit i))) refl
    ]) ∙ sym (are.awaited u inside ∙ ap (λ b. cond b (running_in state.plan_graph state.phases u) 0) was)
    | inr unsent ↦ count_none (size state) (λ i. (runs i && was_sent (unit i)) && (unit i == u)) (λ i within. elim (cases_eq (unit i) u) [
      | inl here ↦ rw (here, unsent, and_false (runs i)) refl
      | inr elsewhere ↦ rw (ne_eqb _ _ elsewhere) (and_false (runs i && was_sent (unit i)))
    ]) ∙ sym (are.awaited u inside ∙ ap (λ b. cond b (running_in state.plan_graph state.phases u) 0) unsent)
  ]
    where
      keeps : (r q : Bool) → ((r && true) && q) ≡ (r && q)
      keeps true q = refl
      keeps false q = refl

  -- of what is awaited of a unit one is the place that it takes
  place_of : (u : ℕ) → u < state.plan_graph.unit_count → get_or state.awaited u 0 ≡ cond (was_sent u && any_runs u) 1 0 + (get_or state.awaited u 0 - 1)
  place_of u inside = elim (cases_Bool (was_sent u)) [
    | inl was ↦
        let awaited : get_or state.awaited u 0 ≡ running_in state.plan_graph state.phases u = are.awaited u inside ∙ ap (λ b. cond b (running_in state.plan_graph state.phases u) 0) was in
        elim (cases_Bool (any_runs u)) [
          | inl any ↦
              let (i, within, both) = (any_below-Decides (size state) (λ k. (unit k == u) && runs k)).0 any in
              let parts = and_parts (unit i == u) (runs i) both in
              let some : 0 < running_in state.plan_graph state.phases u = counted (λ k. runs k && (unit k == u)) (size state) i within (and_from _ _ parts.1 parts.0) in
              rw (was, any) (omega (arith, awaited, some))
          | inr none ↦
              let empty : running_in state.plan_graph state.phases u ≡ 0 = count_none (size state) (λ k. runs k && (unit k == u)) (λ i within. false_from_ne_true _ (λ both.
              let parts = and_parts (runs i) (unit i == u) both in
              both_ways (any_runs u) none ((any_below-Decides (size state) (λ k. (unit k == u) && runs k)).1 (i, within, and_from _ _ parts.1 parts.0)))) in
              rw (was, none) (omega (arith, awaited, empty))
        ]
    | inr unsent ↦
        let awaited : get_or state.awaited u 0 ≡ 0 = are.awaited u inside ∙ ap (λ b. cond b (running_in state.plan_graph state.phases u) 0) unsent in
        rw unsent (omega (arith, awaited))
  ]

  taken : count_below (size state) (λ i. runs i && not (was_sent (unit i))) + count_below state.plan_graph.unit_count (λ u. was_sent u && any_runs u) ≤ state.policy.width
  taken =
      let singly = count_below (size state) (λ i. runs i && not (was_sent (unit i))) in
      let places = count_below state.plan_graph.unit_count (λ u. was_sent u && any_runs u) in
      let all : running_count state ≡ singly + count_below (size state) (λ i. runs i && was_sent (unit i)) =
      count_phases state.phases (size state) reached.each
      ∙ count_either (size state) (λ i. runs i && not (was_sent (unit i))) (λ i. runs i && was_sent (unit i)) runs (λ i within. apart (runs i) (was_sent (unit i))) (λ i within. either (runs i) (was_sent (unit i))) in
      let grouped : count_below (size state) (λ i. runs i && was_sent (unit i)) ≡ places + spare_in state.awaited =
      by_groups (size state) state.plan_graph.unit_count unit (λ i. runs i && was_sent (unit i)) (λ i within. reached.laws.counted i within)
      ∙ sum_same state.plan_graph.unit_count (λ u. count_below (size state) (λ i. (runs i && was_sent (unit i)) && (unit i == u))) (λ u. cond (was_sent u && any_runs u) 1 0 + (get_or state.awaited u 0 - 1)) (λ u inside. of_unit u inside ∙ place_of u inside)
      ∙ sum_plus state.plan_graph.unit_count (λ u. cond (was_sent u && any_runs u) 1 0) (λ u. get_or state.awaited u 0 - 1)
      ∙ rw (← sum_count state.plan_graph.unit_count (λ u. was_sent u && any_runs u), ← sum_of_list (λ n. n - 1) state.awaited state.plan_graph.unit_count reached.by_unit) refl in
      let narrow : running_count state ≤ state.policy.width + spare_in state.awaited = reached.narrow in
      omega (arith, all, grouped, narrow)
    where
      apart : (r s : Bool) → (r && s) ≡ true → (r && not s) ≡ false
      apart true true e = refl
      apart true false e = absurd (true≢false (sym e))
      apart false s e = refl

      either : (r s : Bool) → r ≡ (if r && s then true else (r && not s))
      either true true = refl
      either true false = refl
      either false s = refl

or_false : (b : Bool) → (b || false) ≡ b
or_false true = refl
or_false false = refl

-- from the first event on
pub width_live : (plan : PlanGraph) (policy : Policy) (events : List LiveEvent) → IsPlan plan → IsPopulated plan → IsLiveRunFrom (first_of plan policy) events → IsReached (after_all_live (first_of plan policy) events)
    → single_count (after_all_live (first_of plan policy) events) events + sent_count (after_all_live (first_of plan policy) events) events ≤ (after_all_live (first_of plan policy) events).policy.width
width_live plan policy events laws some run reached =
    taken (after_all_live (first_of plan policy) events) (is_sent events) reached
    (sent_as (after_all_live (first_of plan policy) events) (λ u. is_sent events u || false) (is_sent events) (λ u. or_false (is_sent events u))
    (sent_along (first_of plan policy) events (λ u. false) some (reached_first plan policy laws) run (record {
      awaited = λ u inside. get_or-replicate plan.unit_count u 0 0 inside;
      begun = λ i within was. absurd (true≢false (sym was));
    })))
