-- Calls on a handle, one after another: those that are taken are a live run, and the others change nothing.
use Rattle.std.proofs.Common.{◌≡◌, ◌∙◌, ◌⊎◌, ℕ, ◌<◌, refl, sym, ap, subst, arith, true, List, [], ◌∷◌, length, Contains, Option, option_and_then, inl, inr}
use Rattle.std.specs.Prelude.{slice_set}
use Rattle.std.proofs.lemmas.Bool.{cases_eq}
use Rattle.std.proofs.lemmas.List.{length-set}
use Rattle.odb_doc.specs.declared.recorded.outcome.Outcome.{Outcome}
use Rattle.odb_doc.proofs.ElementLemmas.{Contains-cases, Contains-head, Contains-tail}
use Rattle.odb_reply.specs.BodyTexts.{text_at}
use Rattle.odb_reply.proofs.SliceLemmas.{slice_get-set_other, slice_get-set_same}
use Rattle.odb_doc.specs.batch.Records.{Record}
use Rattle.odb_check.specs.PlanGraph.{IsPlan, IsPlanGraphOf, PlanGraph, unit_of}
use Rattle.odb_sched.specs.declared.event.Event.TheVariants as single
use Rattle.odb_sched.specs.declared.event.Event.{Event}
use Rattle.odb_sched.specs.run.State.{State, size}
use Rattle.odb_sched.specs.run.LiveEvents.{LiveEvent, Single, IsKnownTo, IsLiveRunFrom, after_live, after_all_live, may_take, singles}
use Rattle.odb_sched.specs.run.LiveEvents as live_event
use Rattle.odb_sched.proofs.LiveLemmas.{plan_graph-after_live}
use Rattle.odb_live.specs.Live.{Live}
use Rattle.odb_calls.specs.Live.{IsReported, IsReportedBody, Reports, Starts}
use Rattle.odb_calls.specs.Live.Reports.{Taken as ReportTaken, Refused as ReportRefused, NoRequest as ReportUnknown, OutOfMemory as ReportOutOfMemory}
use Rattle.odb_calls.specs.Live.Starts.{Started, Refused as StartRefused, NoRequest as StartUnknown}
use Rattle.odb_calls.specs.Live.Takes.{Taken as OutcomeTaken, Refused as OutcomeRefused}
use Rattle.odb_calls.specs.Live.TakesBody.{Taken as BodyTaken, Refused as BodyRefused, OutOfMemory as BodyOutOfMemory}
use Rattle.odb_calls.specs.Units.{StartsUnit}
use Rattle.odb_calls.specs.Units.StartsUnit.{Started as UnitStarted, Refused as UnitRefused, NoRequest as UnitUnknown}
use Rattle.odb_calls.specs.Sessions.{AreTaken, Call, Start, StartUnit, Report, Stop, Part, Ask, Does, IsNoEvent, IsOfCall, IsSession, IsTakenAs}
use Rattle.odb_calls.specs.Sessions.AreTaken.{None as NoneTaken, Taken as OneTaken, Passed}

-- ---- the texts of bodies

-- the position of a report; other events have none
abbrev reported_position : LiveEvent → ℕ
reported_position (Single (single.Start i)) = 0
reported_position (Single (single.Report i outcome)) = i
reported_position (live_event.StartUnit u) = 0
reported_position live_event.Stop = 0

abbrev IsReport : LiveEvent → Type 0
IsReport (Single (single.Start i)) = ⊥
IsReport (Single (single.Report i outcome)) = Unit {0}
IsReport (live_event.StartUnit u) = ⊥
IsReport live_event.Stop = ⊥

-- what an event makes of the texts: a report notes one, and other events none
data TextsAfter (call : Call) (event : LiveEvent) (old new : Live) : Type 0 where
  Same : new.texts ≡ old.texts → ¬ IsReport event → TextsAfter call event old new
  Notes : (i status : ℕ) (headers body : List ℕ) (outcome : Outcome) (text : Option (List ℕ)) → call ≡ Report i status headers body 0 → event ≡ Single (single.Report i outcome) → IsReported status headers outcome → IsReportedBody body text
      → i < size old.run → new.texts ≡ slice_set old.texts i text → TextsAfter call event old new

-- the text of the body of a request: that of a report that was taken, or the one before, of a request without a report
pub data TextOf (calls : List Call) (events : List LiveEvent) (first last : Live) (i : ℕ) : Type 0 where
  Kept : text_at last.texts i ≡ text_at first.texts i → ((outcome : Outcome) → ¬ Contains (singles events) (single.Report i outcome)) → TextOf calls events first last i
  Told : (outcome : Outcome) → Contains (singles events) (single.Report i outcome) → IsOfCall calls i outcome (text_at last.texts i) → TextOf calls events first last i

singles-more : (event : LiveEvent) (events : List LiveEvent) (e : Event) → Contains (singles events) e → Contains (singles (event ∷ events)) e
singles-more (Single x) events e has = Contains-tail x e (singles events) has
singles-more (live_event.StartUnit u) events e has = has
singles-more live_event.Stop events e has = has

singles-cases : (event : LiveEvent) (events : List LiveEvent) (e : Event) → Contains (singles (event ∷ events)) e → (event ≡ Single e) ⊎ Contains (singles events) e
singles-cases (Single x) events e has = elim (Contains-cases x e (singles events) has) [ inl same ↦ inl (ap Single same) | inr later ↦ inr later ]
singles-cases (live_event.StartUnit u) events e has = inr has
singles-cases live_event.Stop events e has = inr has

one-more : (call : Call) (calls : List Call) (i : ℕ) (outcome : Outcome) (text : Option (List ℕ)) → IsOfCall calls i outcome text → IsOfCall (call ∷ calls) i outcome text
one-more call calls i outcome text is =
    record { status = is.status; headers = is.headers; body = is.body; taken = Contains-tail call (Report i is.status is.headers is.body 0) calls is.taken; reported = is.reported; body_is = is.body_is }

kept-by : (call : Call) (event : LiveEvent) (calls : List Call) (events : List LiveEvent) (first next last : Live) (i : ℕ) → length first.texts ≡ size first.run → TextsAfter call event first next
    → text_at last.texts i ≡ text_at next.texts i → ((outcome : Outcome) → ¬ Contains (singles events) (single.Report i outcome)) → TextOf (call ∷ calls) (event ∷ events) first last i
kept-by call event calls events first next last i count (Same same other) kept none = Kept (kept ∙ ap (λ (texts : List (Option (List ℕ))). text_at texts i) same) (λ outcome has. elim (singles-cases event events (single.Report i outcome) has) [
  | inl now ↦ other (subst IsReport (sym now) tt)
  | inr later ↦ none outcome later
])
kept-by call event calls events first next last i count (Notes j status headers body outcome text called is reported bodied within set) kept none = elim (cases_eq j i) [
  | inl here ↦
      let there : j < length first.texts = omega (arith, within, count) in
      let found : text_at next.texts j ≡ text = ap (λ (texts : List (Option (List ℕ))). text_at texts j) set ∙ ap (option_and_then (λ (x : Option (List ℕ)). x)) (slice_get-set_same first.texts j text there) in
      let last_is : text_at last.texts i ≡ text = kept ∙ ap (text_at next.texts) (sym here) ∙ found in
      let same_event : event ≡ Single (single.Report i outcome) = is ∙ ap (λ k. Single (single.Report k outcome)) here in
      let same_call : call ≡ Report i status headers body 0 = called ∙ ap (λ k. Report k status headers body 0) here in
      Told outcome (subst (λ (x : LiveEvent). Contains (singles (x ∷ events)) (single.Report i outcome)) (sym same_event) (Contains-head (single.Report i outcome) (singles events)))
      (record {
        status = status;
        headers = headers;
        body = body;
        taken = subst (λ (x : Call). Contains (x ∷ calls) (Report i status headers body 0)) (sym same_call) (Contains-head (Report i status headers body 0) calls);
        reported = reported;
        body_is = subst (IsReportedBody body) (sym last_is) bodied;
      })
  | inr elsewhere ↦ Kept
      (kept ∙ ap (λ (texts : List (Option (List ℕ))). text_at texts i) set ∙ ap (option_and_then (λ (x : Option (List ℕ)). x)) (slice_get-set_other first.texts j i text (λ same. elsewhere (sym same))))
      (λ other has. elim (singles-cases event events (single.Report i other) has) [
        | inl now ↦ elsewhere (ap reported_position (sym is ∙ now))
        | inr later ↦ none other later
      ])
]

text-by : (call : Call) (event : LiveEvent) (calls : List Call) (events : List LiveEvent) (first next last : Live) (i : ℕ) → length first.texts ≡ size first.run → TextsAfter call event first next → TextOf calls events next last i
    → TextOf (call ∷ calls) (event ∷ events) first last i
text-by call event calls events first next last i count after (Kept kept none) = kept-by call event calls events first next last i count after kept none
text-by call event calls events first next last i count after (Told outcome has is) = Told outcome (singles-more event events (single.Report i outcome) has) (one-more call calls i outcome (text_at last.texts i) is)

same-count : (call : Call) (event : LiveEvent) (old new : Live) → length old.texts ≡ size old.run → size new.run ≡ size old.run → TextsAfter call event old new → length new.texts ≡ size new.run
same-count call event old new count same (Same texts other) = ap (λ (texts : List (Option (List ℕ))). length texts) texts ∙ count ∙ sym same
same-count call event old new count same (Notes i status headers body outcome text called is reported bodied within set) = ap (λ (texts : List (Option (List ℕ))). length texts) set ∙ length-set old.texts i text ∙ count ∙ sym same

-- but for marks nothing has changed
record Keeps (old new : Live) : Type 0 where
  run : new.run ≡ old.run
  labels : new.labels ≡ old.labels
  texts : new.texts ≡ old.texts

keeps-same : (old new : Live) → new ≡ old → Keeps old new
keeps-same old new same = record { run = ap (λ (l : Live). l.run) same; labels = ap (λ (l : Live). l.labels) same; texts = ap (λ (l : Live). l.texts) same }

passed-by : (call : Call) (calls : List Call) (events : List LiveEvent) (first next last : Live) (i : ℕ) → Keeps first next → TextOf calls events next last i → TextOf (call ∷ calls) events first last i
passed-by call calls events first next last i same (Kept kept none) = Kept (kept ∙ ap (λ (texts : List (Option (List ℕ))). text_at texts i) same.texts) none
passed-by call calls events first next last i same (Told outcome has is) = Told outcome has (one-more call calls i outcome (text_at last.texts i) is)

-- ---- the calls that are taken

-- a call that is taken
record IsEvent (requests : List Record) (call : Call) (old new : Live) : Type 0 where
  event : LiveEvent
  is : IsTakenAs requests call event
  known : IsKnownTo old.run event
  may : may_take old.run event ≡ true
  run : new.run ≡ after_live old.run event
  labels : new.labels ≡ old.labels
  texts : TextsAfter call event old new

module _ (requests : List Record) where
  started : (old new : Live) (i status : ℕ) → Starts old new i status → IsEvent requests (Start i status) old new ⊎ (IsNoEvent (Start i status) × (new ≡ old))
  started old new i status (Started within may is same) = inl (record { event = Single (single.Start i); is = (is, refl); known = within; may = may; run = ap (λ (l : Live). l.run) same; labels = ap (λ (l : Live). l.labels) same; texts = Same (ap (λ (l : Live). l.texts) same) (λ no. no) })
  started old new i status (StartRefused cause within first is same) = inr ((λ none. omega (arith, is, none)), same)
  started old new i status (StartUnknown past is same) = inr ((λ none. omega (arith, is, none)), same)

  sent : (old new : Live) (i status : ℕ) → IsPlan old.run.plan_graph → IsPlanGraphOf requests old.run.plan_graph → StartsUnit old new i status → IsEvent requests (StartUnit i status) old new ⊎ (IsNoEvent (StartUnit i status) × (new ≡ old))
  sent old new i status laws graph (UnitStarted within may is same) = inl (record {
    event = live_event.StartUnit (unit_of old.run.plan_graph i);
    is = (is, ap live_event.StartUnit (graph.units i (subst (λ n. i < n) graph.size within)));
    known = laws.counted i within;
    may = may;
    run = ap (λ (l : Live). l.run) same;
    labels = ap (λ (l : Live). l.labels) same;
    texts = Same (ap (λ (l : Live). l.texts) same) (λ no. no);
  })
  sent old new i status laws graph (UnitRefused cause within first is same) = inr ((λ none. omega (arith, is, none)), same)
  sent old new i status laws graph (UnitUnknown past is same) = inr ((λ none. omega (arith, is, none)), same)

  reported : (old new : Live) (i status : ℕ) (headers body : List ℕ) (returned : ℕ) → Reports old new i status headers body returned
      → IsEvent requests (Report i status headers body returned) old new ⊎ (IsNoEvent (Report i status headers body returned) × (new ≡ old))
  reported old new i status headers body returned (ReportTaken outcome within is (BodyTaken text bodied (OutcomeTaken may done same))) = inl (record {
    event = Single (single.Report i outcome);
    is = (done, outcome, is, refl);
    known = within;
    may = may;
    run = ap (λ (l : Live). l.run) same;
    labels = ap (λ (l : Live). l.labels) same;
    texts = Notes i status headers body outcome text (ap (Report i status headers body) done) refl is bodied within (ap (λ (l : Live). l.texts) same);
  })
  reported old new i status headers body returned (ReportTaken outcome within is (BodyTaken text of (OutcomeRefused cause first done same))) = inr ((λ none. omega (arith, done, none)), same)
  reported old new i status headers body returned (ReportTaken outcome within is (BodyRefused refusal bad done same)) = inr ((λ none. omega (arith, done, none)), same)
  reported old new i status headers body returned (ReportTaken outcome within is (BodyOutOfMemory some done same)) = inr ((λ none. omega (arith, done, none)), same)
  reported old new i status headers body returned (ReportRefused refusal within bad done same) = inr ((λ none. omega (arith, done, none)), same)
  reported old new i status headers body returned (ReportUnknown past done same) = inr ((λ none. omega (arith, done, none)), same)
  reported old new i status headers body returned (ReportOutOfMemory within some done same) = inr ((λ none. omega (arith, done, none)), same)

  or_same : (call : Call) (old new : Live) → IsEvent requests call old new ⊎ (IsNoEvent call × (new ≡ old)) → IsEvent requests call old new ⊎ (IsNoEvent call × Keeps old new)
  or_same call old new (inl event) = inl event
  or_same call old new (inr (none, same)) = inr (none, keeps-same old new same)

  by_call : (call : Call) (old new : Live) → IsPlan old.run.plan_graph → IsPlanGraphOf requests old.run.plan_graph → Does call old new → IsEvent requests call old new ⊎ (IsNoEvent call × Keeps old new)
  by_call (Start i status) old new laws graph does = or_same (Start i status) old new (started old new i status does)
  by_call (StartUnit i status) old new laws graph does = or_same (StartUnit i status) old new (sent old new i status laws graph does)
  by_call (Report i status headers body returned) old new laws graph does = or_same (Report i status headers body returned) old new (reported old new i status headers body returned does)
  by_call Stop old new laws graph does = inl (record { event = live_event.Stop; is = refl; known = tt; may = refl; run = ap (λ (l : Live). l.run) does; labels = ap (λ (l : Live). l.labels) does; texts = Same (ap (λ (l : Live). l.texts) does) (λ no. no) })
  by_call (Part positions) old new laws graph does = inr (tt, record { run = ap (λ (l : Live). l.run) does; labels = ap (λ (l : Live). l.labels) does; texts = ap (λ (l : Live). l.texts) does })
  by_call Ask old new laws graph does = inr (tt, keeps-same old new does)

  -- the events of the calls that are taken
  pub record IsDriven (first : Live) (calls : List Call) (last : Live) : Type 0 where
    pub events : List LiveEvent
    pub taken : AreTaken requests calls events
    pub live : IsLiveRunFrom first.run events
    pub run : last.run ≡ after_all_live first.run events
    pub labels : last.labels ≡ first.labels
    pub texts : (i : ℕ) → TextOf calls events first last i

  pub driven : (first : Live) (calls : List Call) (last : Live) → IsPlan first.run.plan_graph → IsPlanGraphOf requests first.run.plan_graph → length first.texts ≡ size first.run → IsSession first calls last → IsDriven first calls last
  driven first [] last laws graph count same = record {
    events = [];
    taken = NoneTaken;
    live = tt;
    run = ap (λ (l : Live). l.run) same;
    labels = ap (λ (l : Live). l.labels) same;
    texts = λ i. Kept (ap (λ (l : Live). text_at l.texts i) same) (λ outcome has. omega (arith, has.1));
  }
  driven first (call ∷ calls) last laws graph count (next, does, more) = elim (by_call call first next laws graph does) [
    | inl event ↦
        let same : next.run.plan_graph ≡ first.run.plan_graph = ap (λ (s : State). s.plan_graph) event.run ∙ plan_graph-after_live first.run event.event in
        let counted = same-count call event.event first next count (ap (λ (g : PlanGraph). length g.units) same) event.texts in
        let rest = driven next calls last (subst IsPlan (sym same) laws) (subst (IsPlanGraphOf requests) (sym same) graph) counted more in
        record {
          events = event.event ∷ rest.events;
          taken = OneTaken call event.event calls rest.events event.is rest.taken;
          live = (event.known, event.may, subst (λ (s : State). IsLiveRunFrom s rest.events) event.run rest.live);
          run = rest.run ∙ ap (λ (s : State). after_all_live s rest.events) event.run;
          labels = rest.labels ∙ event.labels;
          texts = λ i. text-by call event.event calls rest.events first next last i count event.texts (rest.texts i);
        }
    | inr passed ↦
        let same : next.run.plan_graph ≡ first.run.plan_graph = ap (λ (s : State). s.plan_graph) passed.1.run in
        let counted : length next.texts ≡ size next.run = ap (λ (texts : List (Option (List ℕ))). length texts) passed.1.texts ∙ count ∙ ap size (sym passed.1.run) in
        let rest = driven next calls last (subst IsPlan (sym same) laws) (subst (IsPlanGraphOf requests) (sym same) graph) counted more in
        record {
          events = rest.events;
          taken = Passed call calls rest.events passed.0 rest.taken;
          live = subst (λ (s : State). IsLiveRunFrom s rest.events) passed.1.run rest.live;
          run = rest.run ∙ ap (λ (s : State). after_all_live s rest.events) passed.1.run;
          labels = rest.labels ∙ passed.1.labels;
          texts = λ i. passed-by call calls rest.events first next last i passed.1 (rest.texts i);
        }
  ]
