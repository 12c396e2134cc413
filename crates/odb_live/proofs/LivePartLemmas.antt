-- The marks of the requests that are in a part, and what holds of every part of a live run.
use Rattle.std.proofs.Common.{◌≡◌, ◌≢◌, ◌∙◌, ◌⊎◌, ◌<◌, ◌==◌, ◌&&◌, ℕ, zero, suc, Bool, true, false, not, if◌then◌else◌, nat_lt, List, [], ◌∷◌, ◌++◌, length, set, All, Contains, inl, inr, refl, ap, sym, subst, arith, eq-eqb}
use Rattle.std.proofs.lemmas.Bool.{cases_Bool, cases_eq, and_from, and_parts, not_from_false, not-true, or_from, true≢false, false≢true}
use Rattle.std.proofs.lemmas.List.{length-set}
use Rattle.std.proofs.lemmas.List.Elements.{All-head, All-tail, Contains-append_cases, Contains-append_left, Contains-append_right}
use Rattle.odb_doc.specs.Statuses.{is_success}
use Rattle.odb_doc.specs.batch.Records.{Record}
use Rattle.odb_doc.proofs.ElementLemmas.{Contains-cases, Contains-head}
use Rattle.odb_check.specs.declared.need.Need.{Need}
use Rattle.odb_check.specs.declared.need.Need.TheVariants.{One, Group}
use Rattle.odb_check.specs.Firsts.{joined_below}
use Rattle.odb_check.specs.LeastNameFault.{HasGoodNames}
use Rattle.odb_check.specs.PlanGraph.{IsPlan, IsPlanGraphOf, needs_of, unit_of, unit_needed}
use Rattle.odb_check.specs.Units.{unit_at, unit_count}
use Rattle.odb_check.proofs.BelowLemmas.{get_or-list_below}
use Rattle.odb_check.proofs.UnitLemmas.{unit_before}
use Rattle.odb_sched.specs.declared.phase.Phase.{Phase}
use Rattle.odb_sched.specs.declared.phase.Phase.TheVariants as phases
use Rattle.odb_sched.specs.declared.states.RequestState.{RequestState}
use Rattle.odb_sched.specs.declared.states.RequestState.TheVariants.{Waiting, Ready, Running, Reported, Skipped}
use Rattle.odb_sched.specs.run.Failing.{Fails}
use Rattle.odb_sched.specs.run.Failing.Fails.{own as failing_own, propagated as failing_propagated}
use Rattle.odb_sched.specs.run.Laws.{IsNeverStuck}
use Rattle.odb_sched.specs.run.State.{State, has_failed, has_succeeded as phase_succeeded, is_reported, is_unstarted, phase_at, size}
use Rattle.odb_sched.specs.run.States.{request_state, state_in}
use Rattle.odb_sched.specs.run.Steps.{all_satisfied, is_finished, is_stopped, places, running_count, unit_failed}
use Rattle.odb_sched.specs.run.Units.{IsOver, has_begun}
use Rattle.odb_sched.proofs.BelowLemmas.{any_below-Decides}
use Rattle.odb_sched.proofs.FailingLemmas.{Fails-from_fails, fails-from_Fails}
use Rattle.odb_send.specs.NextPart.{HasNoLonger, HasProgress, HasToWait, MayGo, has_succeeded, may_start, position_in, positions_in, state_at}
use Rattle.odb_send.specs.Rests.{is_kept, kept}
use Rattle.odb_send.specs.Units.{IsWhole, marked}
use Rattle.odb_send.specs.Units.IsBarred.{own, needing}
use Rattle.odb_send.proofs.MarkLemmas.{marked-kept, marked-set, not_marked}
use Rattle.odb_send.proofs.PartLawLemmas.{fresh, needs_met_after, some_go}
use Rattle.odb_live.specs.declared.run.parts.Part.{Part}
use Rattle.odb_live.specs.Live.{Live}
use Rattle.odb_live.specs.LiveParts.{HasWholeUnits, IsIdle, IsPart, RestsOnPart, answer, marks_after, seen, seen_at, states_of}

-- one request more is marked
pub marks-more : (out : List Bool) (positions : List ℕ) (i : ℕ) → marks_after out (positions ++ i ∷ []) ≡ set (marks_after out positions) i true
marks-more out [] i = refl
marks-more out (j ∷ positions) i = marks-more (set out j true) positions i

-- there are as many marks as before
pub marks-length : (out : List Bool) (positions : List ℕ) → length (marks_after out positions) ≡ length out
marks-length out [] = refl
marks-length out (i ∷ positions) = marks-length (set out i true) positions ∙ length-set out i true

later-within : (out : List Bool) (j : ℕ) (positions : List ℕ) → All (λ k. k < length out) (j ∷ positions) → All (λ k. k < length (set out j true)) positions
later-within out j positions within = subst (λ n. All (λ k. k < n) positions) (sym (length-set out j true)) (All-tail (λ k. k < length out) j positions within)

-- a mark stays
pub marks-stay : (out : List Bool) (positions : List ℕ) (i : ℕ) → All (λ j. j < length out) positions → marked out i ≡ true → marked (marks_after out positions) i ≡ true
marks-stay out [] i within is = is
marks-stay out (j ∷ positions) i within is =
    let first : j < length out = All-head (λ k. k < length out) j positions within in
    marks-stay (set out j true) positions i (later-within out j positions within) (marked-kept out j i first is)

-- each of these requests is marked
pub marks-all : (out : List Bool) (positions : List ℕ) (i : ℕ) → All (λ j. j < length out) positions → Contains positions i → marked (marks_after out positions) i ≡ true
marks-all out [] i within has = absurd (omega (arith, has.1))
marks-all out (j ∷ positions) i within has =
    let first : j < length out = All-head (λ k. k < length out) j positions within in
    let later = later-within out j positions within in
    elim (Contains-cases j i positions has) [
      | inl here ↦ marks-stay (set out j true) positions i later (subst (λ k. marked (set out j true) k ≡ true) here (marked-set out j first))
      | inr there ↦ marks-all (set out j true) positions i later there
    ]

-- ---- the positions of a part

kept-below : (rs : List Record) (part : List Bool) (i n : ℕ) → Contains (joined_below n (position_in rs part)) i → (i < n) × (is_kept rs part i ≡ true)
kept-below rs part i zero has = absurd (omega (arith, has.1))
kept-below rs part i (suc n) has = elim (Contains-append_cases (joined_below n (position_in rs part)) (position_in rs part n) i has) [
  | inl early ↦ let before = kept-below rs part i n early in (omega (arith, before.0), before.1)
  | inr last ↦ at (is_kept rs part n) refl last
]
  where
    at : (b : Bool) → is_kept rs part n ≡ b → Contains (if b then n ∷ [] else []) i → (i < suc n) × (is_kept rs part i ≡ true)
    at true is here = elim (Contains-cases n i [] here) [
      | inl same ↦ (omega (arith, same), ap (is_kept rs part) (sym same) ∙ is)
      | inr none ↦ absurd (omega (arith, none.1))
    ]
    at false is none = absurd (omega (arith, none.1))

pub kept-listed : (rs : List Record) (part : List Bool) (i : ℕ) → Contains (positions_in rs part) i → (i < length rs) × (is_kept rs part i ≡ true)
kept-listed rs part i has = kept-below rs part i (length rs) has

listed-below : (rs : List Record) (part : List Bool) (i n : ℕ) → i < n → is_kept rs part i ≡ true → Contains (joined_below n (position_in rs part)) i
listed-below rs part i zero less is = absurd (omega (arith, less))
listed-below rs part i (suc n) less is = elim (cases_eq i n) [
  | inl same ↦
      let here : is_kept rs part n ≡ true = ap (is_kept rs part) (sym same) ∙ is in
      let last : Contains (position_in rs part n) n = subst (λ (b : Bool). Contains (if b then n ∷ [] else []) n) (sym here) (Contains-head n []) in
      Contains-append_right (joined_below n (position_in rs part)) (position_in rs part n) i (subst (λ k. Contains (position_in rs part n) k) (sym same) last)
  | inr other ↦ Contains-append_left (joined_below n (position_in rs part)) (position_in rs part n) i (listed-below rs part i n (omega (arith, less, other)) is)
]

pub listed-kept : (rs : List Record) (part : List Bool) (i : ℕ) → i < length rs → is_kept rs part i ≡ true → Contains (positions_in rs part) i
listed-kept rs part i less is = listed-below rs part i (length rs) less is

-- ---- the states of the requests

seen-start : (out : Bool) (state : RequestState) → may_start (seen out state) ≡ true → out ≡ false
seen-start false state is = refl
seen-start true Waiting is = absurd (false≢true is)
seen-start true Ready is = absurd (false≢true is)
seen-start true Running is = absurd (false≢true is)
seen-start true (Reported status) is = absurd (false≢true is)
seen-start true Skipped is = absurd (false≢true is)

seen-success : (out : Bool) (state : RequestState) → has_succeeded (seen out state) ≡ true → has_succeeded state ≡ true
seen-success false state is = is
seen-success true Waiting is = absurd (false≢true is)
seen-success true Ready is = absurd (false≢true is)
seen-success true Running is = absurd (false≢true is)
seen-success true (Reported status) is = is
seen-success true Skipped is = absurd (false≢true is)

phase-success : (phase : Phase) (ready never : Bool) → has_succeeded (state_in phase ready never) ≡ true → phase_succeeded phase ≡ true
phase-success phases.Unstarted true never is = absurd (false≢true is)
phase-success phases.Unstarted false true is = absurd (false≢true is)
phase-success phases.Unstarted false false is = absurd (false≢true is)
phase-success phases.Running ready never is = absurd (false≢true is)
phase-success (phases.Reported outcome) ready never is = is

success-seen : (out : Bool) (phase : Phase) (ready never : Bool) → phase_succeeded phase ≡ true → has_succeeded (seen out (state_in phase ready never)) ≡ true
success-seen out phases.Unstarted ready never is = absurd (false≢true is)
success-seen out phases.Running ready never is = absurd (false≢true is)
success-seen false (phases.Reported outcome) ready never is = is
success-seen true (phases.Reported outcome) ready never is = is

open-state : (phase : Phase) (ready never : Bool) → is_unstarted phase ≡ true → never ≡ false → may_start (state_in phase ready never) ≡ true
open-state phases.Unstarted true never is open_unit = refl
open-state phases.Unstarted false true is open_unit = absurd (true≢false open_unit)
open-state phases.Unstarted false false is open_unit = refl
open-state phases.Running ready never is open_unit = absurd (false≢true is)
open-state (phases.Reported outcome) ready never is open_unit = absurd (false≢true is)

reported-success : (phase : Phase) → is_reported phase ≡ true → has_failed phase ≡ false → phase_succeeded phase ≡ true
reported-success phases.Unstarted is good = absurd (false≢true is)
reported-success phases.Running is good = absurd (false≢true is)
reported-success (phases.Reported outcome) is good = at (is_success outcome.status) good
  where
    at : (b : Bool) → not b ≡ false → b ≡ true
    at true none = refl
    at false none = absurd (true≢false none)

-- ---- what holds of every part

module _ (rs : List Record) (run : State) (out : List Bool) (count : size run ≡ length rs) where
  state-is : (i : ℕ) → i < length rs → state_at (states_of run out) i ≡ seen_at run out i
  state-is i within = get_or-list_below (size run) (seen_at run out) i Skipped (omega (arith, within, count))

  module _ (document : List ℕ) (limit : ℕ) (part : Part) (is : IsPart document rs run out limit part) where
    in-rest : (i : ℕ) → Contains part.positions.items i → (i < length rs) × (is_kept rs (kept is.rest) i ≡ true)
    in-rest i has = kept-listed rs (kept is.rest) i (subst (λ (xs : List ℕ). Contains xs i) is.positions_are has)

    in-part : (i : ℕ) → i < length rs → is_kept rs (kept is.rest) i ≡ true → Contains part.positions.items i
    in-part i within stays = subst (λ (xs : List ℕ). Contains xs i) (sym is.positions_are) (listed-kept rs (kept is.rest) i within stays)

    -- no request of the part was in an earlier one
    pub part-fresh : (i : ℕ) → Contains part.positions.items i → marked out i ≡ false
    part-fresh i has =
        let (within, stays) = in-rest i has in
        let starts = fresh rs (states_of run out) limit (answer run) is.rest is.part_is i within stays in
        seen-start (marked out i) (request_state run i) (ap may_start (sym (state-is i within)) ∙ starts)

    -- what it needs is in it, or has succeeded
    pub part-needs : HasGoodNames rs → RestsOnPart rs run part.positions.items
    part-needs good i need has inside r below unit =
        let (within, stays) = in-rest i has in
        let there : r < length rs = omega (arith, below, count) in
        elim (needs_met_after rs (states_of run out) limit (answer run) is.rest good is.part_is i need within stays inside) [
          | inl kept_unit ↦ inl (in-part r there (ap (marked (kept is.rest)) unit ∙ kept_unit))
          | inr whole ↦ inr (phase-success (phase_at run r) _ _ (seen-success (marked out r) (request_state run r) (ap has_succeeded (sym (state-is r there)) ∙ whole r there unit)))
        ]

    -- its groups are whole
    pub part-whole : HasWholeUnits rs part.positions.items
    part-whole i j has within unit = let (less, stays) = in-rest i has in in-part j within (ap (marked (kept is.rest)) unit ∙ stays)

    -- where a unit may go, it has a request
    pub part-some : HasNoLonger rs limit → (u : ℕ) → MayGo rs is.part_is.done is.part_is.left u → (i : ℕ) × Contains part.positions.items i
    part-some short u goes = let (i, within, stays) = some_go rs is.part_is.done is.part_is.left limit (answer run) (kept is.rest) is.part_is.part_is.units short u goes in (i, in-part i within stays)

-- ---- a run that goes on

module _ (rs : List Record) (live : Live) (graph : IsPlanGraphOf rs live.run.plan_graph) (laws : IsPlan live.run.plan_graph) (idle : IsIdle live) (goes_on : is_stopped live.run ≡ false) where
  abbrev bad : ℕ → Bool
  bad i = has_failed (phase_at live.run i)

  state-seen : (i : ℕ) → i < length rs → state_at (states_of live.run live.out) i ≡ seen_at live.run live.out i
  state-seen = state-is rs live.run live.out graph.size

  inside : (i : ℕ) → i < length rs → i < size live.run
  inside i within = omega (arith, within, graph.size)

  -- of a unit that has not begun no request has
  not-begun : (v i : ℕ) → i < size live.run → unit_of live.run.plan_graph i ≡ v → has_begun live.run v ≡ false → is_unstarted (phase_at live.run i) ≡ true
  not-begun v i within unit none = elim (cases_Bool (is_unstarted (phase_at live.run i))) [
    | inl is ↦ is
    | inr started ↦ absurd (true≢false (sym ((any_below-Decides (size live.run) (λ j. (unit_of live.run.plan_graph j == v) && not (is_unstarted (phase_at live.run j)))).1
        (i, within, and_from (unit_of live.run.plan_graph i == v) (not (is_unstarted (phase_at live.run i))) (eq-eqb (unit_of live.run.plan_graph i) v unit) (not_from_false (is_unstarted (phase_at live.run i)) started))) ∙ none))
  ]

  -- a unit that is over and has not failed has succeeded
  over-success : (v i : ℕ) → i < size live.run → unit_of live.run.plan_graph i ≡ v → IsOver live.run v → unit_failed live.run v ≡ false → phase_succeeded (phase_at live.run i) ≡ true
  over-success v i within unit over good = elim (cases_Bool (has_failed (phase_at live.run i))) [
    | inl failed ↦ absurd (true≢false (sym (fails-from_Fails live.run.plan_graph bad v laws (subst (Fails live.run.plan_graph bad) unit (failing_own i within failed))) ∙ good))
    | inr fine ↦ reported-success (phase_at live.run i) (over i within unit) fine
  ]

  -- a unit that has not failed has succeeded, or may be sent
  done-or-open : (v : ℕ) → v < unit_count rs → unit_failed live.run v ≡ false
      → IsWhole rs (λ i. has_succeeded (state_at (states_of live.run live.out) i)) v ⊎ IsWhole rs (λ i. may_start (state_at (states_of live.run live.out) i)) v
  done-or-open v known good = elim (cases_Bool (has_begun live.run v)) [
    | inl begun ↦ elim (idle.none_begun v (omega (arith, known, graph.unit_count)) begun) [
      | inl over ↦ inl (λ i within unit.
          let succeeded = over-success v i (inside i within) (graph.units i within ∙ unit) over good in
          ap has_succeeded (state-seen i within) ∙ success-seen (marked live.out i) (phase_at live.run i) _ _ succeeded)
      | inr failed ↦ absurd (true≢false (sym failed ∙ good))
    ]
    | inr none ↦ inr (λ i within unit.
        let here : unit_of live.run.plan_graph i ≡ v = graph.units i within ∙ unit in
        let fine : unit_failed live.run (unit_of live.run.plan_graph i) ≡ false = ap (unit_failed live.run) here ∙ good in
        let starts : may_start (request_state live.run i) ≡ true =
        open-state (phase_at live.run i) _ _ (not-begun v i (inside i within) here none) (or_from (is_stopped live.run) (unit_failed live.run (unit_of live.run.plan_graph i)) goes_on fine) in
        elim (cases_Bool (marked live.out i)) [
          | inl given ↦ absurd (true≢false (sym starts ∙ idle.none_out i (inside i within) given))
          | inr kept_back ↦ ap may_start (state-seen i within ∙ ap (λ (b : Bool). seen b (request_state live.run i)) kept_back) ∙ starts
        ])
  ]

  -- what a request needs, by the numbers of the run and by the batch
  needed-same : (i : ℕ) (need : Need) → i < length rs → Contains (needs_of live.run.plan_graph i) need → unit_needed (unit_of live.run.plan_graph) need ≡ unit_needed (unit_at rs) need
  needed-same i (One r) within has = let before : r < i = laws.earlier i (One r) (inside i within) has in graph.units r (omega (arith, before, within))
  needed-same i (Group u) within has = refl

  -- a unit that has to wait has failed
  waits-failed : (done left : List Bool) → HasProgress rs (states_of live.run live.out) done left → (v : ℕ) → HasToWait rs done left v → unit_failed live.run v ≡ true
  waits-failed done left progress v (own i within bound lacks) = elim (cases_Bool (unit_failed live.run (unit_at rs i))) [
    | inl failed ↦ failed
    | inr good ↦
        let known = unit_before rs i (length rs) within in
        absurd (elim (done-or-open (unit_at rs i) known good) [
          | inl whole ↦ true≢false (sym ((progress.succeeded.each (unit_at rs i) known).1 whole) ∙ bound)
          | inr whole ↦ true≢false (sym ((progress.starting.each (unit_at rs i) known).1 whole) ∙ lacks)
        ])
  ]
  waits-failed done left progress v (needing i need within bound needs waits) =
      let failed = waits-failed done left progress (unit_needed (unit_at rs) need) waits in
      elim (cases_eq (unit_needed (unit_at rs) need) (unit_at rs i)) [
        | inl same ↦ ap (unit_failed live.run) (sym same) ∙ failed
        | inr other ↦
            let has : Contains (needs_of live.run.plan_graph i) need = subst (λ (ns : List Need). Contains ns need) (sym (graph.needs i within)) needs in
            let needed = needed-same i need within has in
            let unit = graph.units i within in
            let apart : unit_needed (unit_of live.run.plan_graph) need ≢ unit_of live.run.plan_graph i = λ same. other (sym needed ∙ same ∙ unit) in
            let fails_too : Fails live.run.plan_graph bad (unit_needed (unit_of live.run.plan_graph) need) = subst (Fails live.run.plan_graph bad) (sym needed) (Fails-from_fails live.run.plan_graph bad (unit_needed (unit_at rs) need) failed) in
            fails-from_Fails live.run.plan_graph bad (unit_at rs i) laws (subst (Fails live.run.plan_graph bad) unit (failing_propagated i need (inside i within) has apart fails_too))
      ]

  -- the unit of a request that may start may go
  pub ready-goes : (done left : List Bool) → HasProgress rs (states_of live.run live.out) done left → (i : ℕ) → i < length rs → is_unstarted (phase_at live.run i) ≡ true → unit_failed live.run (unit_of live.run.plan_graph i) ≡ false → MayGo rs done left (unit_at rs i)
  ready-goes done left progress i within unstarted good =
      let known = unit_before rs i (length rs) within in
      let fine : unit_failed live.run (unit_at rs i) ≡ false = ap (unit_failed live.run) (sym (graph.units i within)) ∙ good in
      record {
        known = known;
        not_done = not_marked (marked done (unit_at rs i)) (λ marks.
            let succeeded = (progress.succeeded.each (unit_at rs i) known).0 marks i within refl in
            let phase = phase-success (phase_at live.run i) _ _ (seen-success (marked live.out i) (request_state live.run i) (ap has_succeeded (sym (state-seen i within)) ∙ succeeded)) in
            not-both (phase_at live.run i) unstarted phase);
        free = λ waits. true≢false (sym (waits-failed done left progress (unit_at rs i) waits) ∙ fine);
      }
    where
      not-both : (phase : Phase) → is_unstarted phase ≡ true → phase_succeeded phase ≡ true → ⊥
      not-both phases.Unstarted is succeeded = false≢true succeeded
      not-both phases.Running is succeeded = false≢true is
      not-both (phases.Reported outcome) is succeeded = false≢true is

-- a run on which nothing is on its way gives a part, unless it is finished
pub idle-goes : (rs : List Record) (live : Live) (document : List ℕ) (limit : ℕ) (part : Part) → IsPlanGraphOf rs live.run.plan_graph → IsPlan live.run.plan_graph → IsNeverStuck live.run → is_finished live.run ≡ false → IsIdle live → HasNoLonger rs limit
    → IsPart document rs live.run live.out limit part → (i : ℕ) × Contains part.positions.items i
idle-goes rs live document limit part graph laws alive unfinished idle short is =
    let (i, within, either) = alive unfinished in
    elim either [
      | inl runs ↦ absurd (true≢false (sym runs ∙ idle.none_runs i within))
      | inr starts ↦
          let first = and_parts (is_unstarted (phase_at live.run i) && not (is_stopped live.run) && not (unit_failed live.run (unit_of live.run.plan_graph i)) && all_satisfied live.run i) (nat_lt (running_count live.run) (places live.run)) starts in
          let second = and_parts (is_unstarted (phase_at live.run i) && not (is_stopped live.run) && not (unit_failed live.run (unit_of live.run.plan_graph i))) (all_satisfied live.run i) first.0 in
          let third = and_parts (is_unstarted (phase_at live.run i) && not (is_stopped live.run)) (not (unit_failed live.run (unit_of live.run.plan_graph i))) second.0 in
          let fourth = and_parts (is_unstarted (phase_at live.run i)) (not (is_stopped live.run)) third.0 in
          let known : i < length rs = omega (arith, within, graph.size) in
          part-some rs live.run live.out graph.size document limit part is short (unit_at rs i)
          (ready-goes rs live graph laws idle (not-true (is_stopped live.run) fourth.1) is.part_is.done is.part_is.left is.part_is.progress i known fourth.0 (not-true (unit_failed live.run (unit_of live.run.plan_graph i)) third.1))
    ]
