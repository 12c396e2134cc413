-- A live run that was just opened: how many requests it has, and that nothing is on its way after no events, or if no request runs.
use Rattle.std.proofs.Common.{◌≡◌, ◌∙◌, ◌<◌, ◌≤◌, ◌==◌, ◌&&◌, ℕ, zero, suc, Bool, true, false, cond, if◌then◌else◌, nat_lt, not, List, [], ◌∷◌, length, get_or, replicate, set, inl, inr, ap, arith, eq-eqb, refl, subst, sym}
use Rattle.std.specs.List.{AllZip, count_by}
use Rattle.std.proofs.lemmas.Bool.{and_from, and_parts, cases_Bool, cases_eq, cases_lt, cases_order, eqb-true, lt-ltb, true≢false}
use Rattle.std.proofs.lemmas.List.{get_or-replicate, get_or_past, length-map, length-replicate, length-set}
use Rattle.serde_json.specs.Data.{Data}
use Rattle.odb_doc.specs.batch.Records.{IsBatchOf, Record}
use Rattle.odb_doc.specs.recorded.Events.{AreEventsOf, EventValue}
use Rattle.odb_check.specs.PlanGraph.{IsPlanGraphOf, PlanGraph, unit_of}
use Rattle.odb_check.specs.Firsts.{count_below}
use Rattle.odb_check.specs.Plans.{batch_plan_graph}
use Rattle.odb_check.specs.Units.{unit_at}
use Rattle.odb_check.proofs.UnitLemmas.{unit_before}
use Rattle.odb_reply.specs.Responses.{LabelValue, label_of, labels_of}
use Rattle.odb_sched.specs.declared.event.Event.{Event}
use Rattle.odb_sched.specs.declared.phase.Phase.{Phase}
use Rattle.odb_sched.specs.declared.phase.Phase.TheVariants as phases
use Rattle.odb_sched.specs.declared.phase.Phase.TheVariants.{Unstarted}
use Rattle.odb_sched.specs.declared.policy.Policy.{Policy}
use Rattle.odb_sched.specs.run.Resolving.{IsResolved}
use Rattle.odb_sched.specs.run.State.{State, first_state, is_reported, is_running, is_unstarted, phase_at, size, without_requests}
use Rattle.odb_sched.specs.run.Units.{has_begun_in}
use Rattle.odb_sched.proofs.BelowLemmas.{any_below-Decides}
use Rattle.odb_sched.proofs.PhaseLemmas.{get_or-replicate_Unstarted}
use Rattle.odb_sched.proofs.RunLemmas.{plan_graph-after_all}
use Rattle.odb_send.specs.NextPart.{HasNoLonger}
use Rattle.odb_engine.specs.Cascade.{Accepts}
use Rattle.odb_live.specs.Live.{IsOpened, Live}
use Rattle.odb_live.specs.LiveParts.{IsIdle, marks_after, with_part}
use Rattle.odb_engine.specs.Runs.{AreEventsIn, end_of}
use Rattle.odb_engine.proofs.MemoryLemmas.{one_value}

-- ---- its requests

-- two batches with the ids and groups of the run have as many requests
pub same-length : (batch other : List Record) (live : Live) → live.labels ≡ labels_of batch → live.labels ≡ labels_of other → length batch ≡ length other
same-length batch other live is has = sym (length-map batch label_of) ∙ (ap (λ (labels : List LabelValue). length labels) (sym is ∙ has) ∙ length-map other label_of)

-- it has as many labels as its batch has requests
pub labels-length : (batch : List Record) (live : Live) → live.labels ≡ labels_of batch → length live.labels ≡ length batch
labels-length batch live is = ap (λ (labels : List LabelValue). length labels) is ∙ length-map batch label_of

pub opened-size : (policy : Policy) (batch : List Record) (events : List ℕ) (live : Live) → IsPlanGraphOf batch (batch_plan_graph batch) → IsOpened policy batch events live → size live.run ≡ length batch
opened-size policy batch events live graph is =
    ap (λ (s : State). size s) is.after.state ∙ (ap (λ (plan : PlanGraph). length plan.units) (plan_graph-after_all (first_state batch policy) is.after.events) ∙ graph.size)

-- each has a mark
pub opened-marks : (policy : Policy) (batch : List Record) (events : List ℕ) (live : Live) → IsPlanGraphOf batch (batch_plan_graph batch) → IsOpened policy batch events live → length live.out ≡ size live.run
opened-marks policy batch events live graph is =
    ap (λ (marks : List Bool). length marks) is.out ∙ (length-replicate (length batch) false ∙ sym (opened-size policy batch events live graph is))

-- ---- after no events

-- two readings of one document of events are the same
pub same-events : ((value : Data) (events others : List EventValue) → AreEventsOf value events → AreEventsOf value others → events ≡ others)
    → (bytes : List ℕ) (events others : List EventValue) → AreEventsIn bytes events → AreEventsIn bytes others → events ≡ others
same-events law bytes events others one two =
    law two.value events others (subst (λ (v : Data). AreEventsOf v events) (one_value bytes one.value two.value one.document two.document) one.holds.1) two.holds.1

pub none-listed : (events : List EventValue) → length events ≡ 0 → events ≡ []
none-listed [] is = refl
none-listed (e ∷ events) is = absurd (cc is)

none-resolved : (batch : List Record) (events : List Event) → AllZip (IsResolved batch) [] events → events ≡ []
none-resolved batch [] is = refl
none-resolved batch (e ∷ events) is = absurd is

pub opened-first : (policy : Policy) (batch : List Record) (bytes : List ℕ) (live : Live) (is : IsOpened policy batch bytes live) → is.after.named ≡ [] → live.run ≡ without_requests (first_state batch policy)
opened-first policy batch bytes live is empty =
    let none = none-resolved batch is.after.events (subst (λ (named : List EventValue). AllZip (IsResolved batch) named is.after.events) empty is.after.resolved) in
    is.after.state ∙ ap (λ (events : List Event). without_requests (end_of policy batch events)) none

unmarked : (n i : ℕ) → get_or (replicate n false) i false ≡ false
unmarked n i = elim (cases_lt i n) [
  | inl within ↦ get_or-replicate n i false false within
  | inr past ↦ get_or_past (replicate n false) i false (rw (length-replicate n false) past)
]

none-begun : (plan : PlanGraph) (n u : ℕ) → ¬ has_begun_in plan (replicate n Unstarted) u ≡ true
none-begun plan n u begun =
    let (i, within, here) = (any_below-Decides (length plan.units) (λ i. (unit_of plan i == u) && not (is_unstarted (get_or (replicate n Unstarted) i Unstarted)))).0 begun in
    true≢false (sym (and_parts _ _ here).1 ∙ ap (λ phase. not (is_unstarted phase)) (get_or-replicate_Unstarted n i))

-- nothing is on its way
pub idle-first : (policy : Policy) (batch : List Record) (live : Live) (n : ℕ) → live.run ≡ without_requests (first_state batch policy) → live.out ≡ replicate n false → IsIdle live
idle-first policy batch live n run out =
    let count = length (batch_plan_graph batch).units in
    record {
      none_runs = λ i within. ap (λ (s : State). is_running (phase_at s i)) run ∙ ap is_running (get_or-replicate_Unstarted count i);
      none_out = λ i within marked. absurd (true≢false (sym marked ∙ (ap (λ (marks : List Bool). get_or marks i false) out ∙ unmarked n i)));
      none_begun = λ u known begun. absurd (none-begun (batch_plan_graph batch) count u (sym (ap (λ (s : State). has_begun_in s.plan_graph s.phases u) run) ∙ begun));
    }

-- ---- if no request runs

-- a list of the positions that pass, each once
abbrev pub ListsOnce : ℕ → (ℕ → Bool) → List ℕ → Type 0
ListsOnce n test xs = (i : ℕ) → count_by (λ x. x == i) xs ≡ (if nat_lt i n && test i then 1 else 0)

-- if it is empty, none passes
none-passes : (n : ℕ) (test : ℕ → Bool) (xs : List ℕ) → length xs ≡ 0 → ListsOnce n test xs → (i : ℕ) → i < n → test i ≡ false
none-passes n test (x ∷ xs) none once i within = absurd (cc none)
none-passes n test [] none once i within = elim (cases_Bool (test i)) [
  | inr fails ↦ fails
  | inl is ↦
      let both : (nat_lt i n && test i) ≡ true = and_from (nat_lt i n) (test i) (lt-ltb i n within) is in
      let zero_is_one : 0 ≡ 1 = once i ∙ ap (λ (b : Bool). if b then 1 else 0) both in
      absurd (omega (arith, zero_is_one))
]

-- where one passes, one is counted, and where two do, two
one-counted : (n : ℕ) (test : ℕ → Bool) (i : ℕ) → i < n → test i ≡ true → 1 ≤ count_below n test
one-counted zero test i within is = absurd (omega (arith, within))
one-counted (suc n) test i within is = elim (cases_eq i n) [
  | inl last ↦ rw (ap test (sym last) ∙ is) (omega arith)
  | inr early ↦ more (test n) (one-counted n test i (omega (arith, within, early)) is)
]
  where
    more : (b : Bool) → 1 ≤ count_below n test → 1 ≤ cond b (suc (count_below n test)) (count_below n test)
    more true some = omega arith
    more false some = some

two-counted : (n : ℕ) (test : ℕ → Bool) (i j : ℕ) → i < j → j < n → test i ≡ true → test j ≡ true → 2 ≤ count_below n test
two-counted zero test i j before within is too = absurd (omega (arith, within))
two-counted (suc n) test i j before within is too = elim (cases_eq j n) [
  | inl last ↦ rw (ap test (sym last) ∙ too) (let some = one-counted n test i (omega (arith, before, last)) is in omega (arith, some))
  | inr early ↦ more (test n) (two-counted n test i j before (omega (arith, within, early)) is too)
]
  where
    more : (b : Bool) → 2 ≤ count_below n test → 2 ≤ cond b (suc (count_below n test)) (count_below n test)
    more true some = omega (arith, some)
    more false some = some

-- a request is alone in its unit if no unit has more than one
alone : (batch : List Record) → HasNoLonger batch 1 → (i j : ℕ) → i < length batch → j < length batch → unit_at batch j ≡ unit_at batch i → j ≡ i
alone batch short i j within inside same = elim (cases_order i j) [
  | inl one ↦ sym one
  | inr (inl before) ↦ absurd (two i j before inside refl same)
  | inr (inr after) ↦ absurd (two j i after within same refl)
]
  where
    two : (a b : ℕ) → a < b → b < length batch → unit_at batch a ≡ unit_at batch i → unit_at batch b ≡ unit_at batch i → ⊥
    two a b before inside_too first second =
        let most = short (unit_at batch i) (unit_before batch i (length batch) within) in
        let counted = two-counted (length batch) (λ k. unit_at batch k == unit_at batch i) a b before inside_too (eq-eqb _ _ first) (eq-eqb _ _ second) in
        omega (arith, most, counted)

reported-one : (phase : Phase) → not (is_unstarted phase) ≡ true → is_running phase ≡ false → is_reported phase ≡ true
reported-one phases.Unstarted started idle = absurd (true≢false (sym started))
reported-one phases.Running started idle = absurd (true≢false idle)
reported-one (phases.Reported outcome) started idle = refl

-- nothing is on its way if no unit has more than one request
pub idle-alone : (batch : List Record) (live : Live) (running : List ℕ) (n : ℕ) → IsPlanGraphOf batch live.run.plan_graph → HasNoLonger batch 1 → length running ≡ 0
    → ListsOnce (size live.run) (λ i. is_running (phase_at live.run i)) running → live.out ≡ replicate n false → IsIdle live
idle-alone batch live running n graph short none once out =
    let idle = none-passes (size live.run) (λ i. is_running (phase_at live.run i)) running none once in
    let plan = live.run.plan_graph in
    record {
      none_runs = idle;
      none_out = λ i within marked. absurd (true≢false (sym marked ∙ (ap (λ (marks : List Bool). get_or marks i false) out ∙ unmarked n i)));
      none_begun = λ u known begun. inl (λ j within unit.
          let (i, inside, here) = (any_below-Decides (length plan.units) (λ k. (unit_of plan k == u) && not (is_unstarted (phase_at live.run k)))).0 begun in
          let both : ((unit_of plan i == u) ≡ true) × (not (is_unstarted (phase_at live.run i)) ≡ true) = and_parts _ _ here in
          let less : i < length batch = omega (arith, inside, graph.size) in
          let below : j < length batch = omega (arith, within, graph.size) in
          let same : unit_at batch j ≡ unit_at batch i = sym (graph.units j below) ∙ unit ∙ sym (eqb-true _ _ both.0) ∙ graph.units i less in
          let is : j ≡ i = alone batch short i j less below same in
          subst (λ k. is_reported (phase_at live.run k) ≡ true) (sym is) (reported-one (phase_at live.run i) both.1 (idle i inside)));
    }

-- the numbers of its units and needs
pub opened-graph : (policy : Policy) (batch : List Record) (events : List ℕ) (live : Live) → IsPlanGraphOf batch (batch_plan_graph batch) → IsOpened policy batch events live → IsPlanGraphOf batch live.run.plan_graph
opened-graph policy batch events live graph is =
    subst (IsPlanGraphOf batch) (sym (ap (λ (s : State). s.plan_graph) is.after.state ∙ plan_graph-after_all (first_state batch policy) is.after.events)) graph

-- two readings of one document of a batch have the same requests
pub same-requests : ((value : Data) (batch other : List Record) → IsBatchOf value batch → IsBatchOf value other → batch ≡ other) → (bytes : List ℕ) (P Q : List Record → Type 0) → (one : Accepts bytes P) (two : Accepts bytes Q) → one.holds.batch ≡ two.holds.batch
same-requests law bytes P Q one two =
    law two.value _ _ (subst (λ (v : Data). IsBatchOf v one.holds.batch) (one_value bytes one.value two.value one.document two.document) one.holds.is_batch) two.holds.is_batch

-- ---- marks

-- there are as many as before
pub marks-length : (out : List Bool) (positions : List ℕ) → length (marks_after out positions) ≡ length out
marks-length out [] = refl
marks-length out (i ∷ positions) = marks-length (set out i true) positions ∙ length-set out i true

-- a run that was opened and has given a part has a label and a mark for each request
pub given-sizes : (policy : Policy) (batch : List Record) (events : List ℕ) (first last : Live) (positions : List ℕ) → IsPlanGraphOf batch (batch_plan_graph batch) → IsOpened policy batch events first → last ≡ with_part first positions
    → (length last.labels ≡ size last.run) × (length last.out ≡ size last.run)
given-sizes policy batch events first last positions graph opened is =
    subst (λ (live : Live). (length live.labels ≡ size live.run) × (length live.out ≡ size live.run)) (sym is) (
      labels-length batch first opened.labels ∙ sym (opened-size policy batch events first graph opened),
      marks-length first.out positions ∙ opened-marks policy batch events first graph opened,
    )
