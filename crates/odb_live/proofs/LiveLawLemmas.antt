-- That what is written of a live run is what a run by recorded events writes.
use Rattle.std.proofs.Common.{◌≡◌, ◌∙◌, ℕ, zero, suc, ◌<◌, arith, get_or, length, option_and_then, Bool, true, List, [], ◌∷◌, ◌++◌, All, Option, Some, None, IfSome, IsNone, IsSomeAnd, inl, inr, refl, sym, ap, subst}
use Rattle.std.specs.List.{AllZip}
use Rattle.std.proofs.lemmas.Bool.{cases_Bool, both_ways}
use Rattle.std.proofs.lemmas.List.{ext_get_or}
use Rattle.std.proofs.lemmas.List.Elements.{All-nil, All-cons}
use Rattle.std.proofs.lemmas.Option.{slice_get-get_or}
use Rattle.std.proofs.lemmas.Slice.Zip.{all_zipped_more}
use Rattle.serde_json.specs.Data.{Data}
use Rattle.serde_json.specs.Written.{has_float}
use Rattle.odb_doc.specs.declared.fault.Place.TheVariants as places
use Rattle.odb_doc.specs.declared.recorded.event_fault.EventRule.TheVariants as rules
use Rattle.odb_doc.specs.batch.Bodies.{body_of}
use Rattle.odb_doc.specs.batch.Records.{Record}
use Rattle.odb_doc.specs.recorded.EventFaults as event_faults
use Rattle.odb_doc.specs.recorded.Events.{EventValue, AreEventsOf, IsEventBy, IsWellFormedEvent, ReadsAs, elements}
use Rattle.odb_doc.specs.recorded.Events as named
use Rattle.odb_doc.specs.recorded.LeastEventFault.{AreEvents, BreaksEvent, IsEventsDocument, RefusesEvents}
use Rattle.odb_doc.specs.WholeNumbers.{IsWhole}
use Rattle.odb_check.specs.LeastNameFault.{HasGoodNames}
use Rattle.odb_sched.specs.declared.event.Event.{Event}
use Rattle.odb_sched.specs.declared.event.Event.TheVariants as event
use Rattle.odb_sched.specs.declared.policy.Policy.{Policy}
use Rattle.odb_sched.specs.run.Resolving.{IsResolved}
use Rattle.odb_sched.specs.run.Runs.{IsRunFrom, event_position}
use Rattle.odb_sched.specs.run.State.{State, after, first_state, size, without_requests}
use Rattle.odb_sched.specs.run.Answers.{answer}
use Rattle.odb_sched.specs.run.Steps.{is_finished, may_come}
use Rattle.odb_check.specs.Texts.{newline}
use Rattle.odb_reply.specs.BodyTexts.{HasNoText}
use Rattle.odb_reply.specs.NotWhole.{HasWholeBodies, HasWholeValue}
use Rattle.odb_reply.specs.Responses.{labels_of, text_of}
use Rattle.odb_reply.proofs.RestLemmas.{text_with-none}
use Rattle.odb_engine.specs.declared.ending.Ended.{Ended}
use Rattle.odb_engine.specs.declared.ending.Ended.TheVariants.{Done}
use Rattle.odb_doc.specs.Refusals.{Printed}
use Rattle.odb_engine.specs.declared.form.Form.{Form}
use Rattle.odb_engine.specs.Cascade.{Accepts, Answers}
use Rattle.odb_engine.specs.ResponseLines.{response_line}
use Rattle.odb_live.specs.Live.{IsAfter, IsLeastOfLive, IsOpened, Live, Opens, RecordsOneMore, Shows, with_run}
use Rattle.odb_live.specs.Live.IsLeastOfLive.{OfBody, OfEnd as AtEnd}
use Rattle.odb_engine.specs.Runs.{AreEventsIn, AreResolved, IsHistoryOf, IsLeastOfRun, Runs, RunsBatch, RunsEvents, RunsValue, end_of}
use Rattle.odb_engine.specs.Runs.IsLeastOfRun.{OfIds, OfEvent, OfEnd}
use Rattle.odb_engine.proofs.LawLemmas.{AreFunctional, answers_accepted, refused_no_value, same_batch}
use Rattle.odb_engine.proofs.RunLawLemmas.{AreOneHistory, HaveOneCause, not-stopped, not-unknown, one-run, same-events}
use Rattle.odb_engine.proofs.RunLemmas.{whole-bodies}
use Rattle.odb_engine.proofs.SecondLemmas.{one_document}
use Rattle.odb_engine.proofs.SecondLemmas as second
use Rattle.odb_sched.proofs.RunLemmas.{requests-after_all, joined, after_all-push}
use Rattle.odb_engine.proofs.MemoryLemmas.{whole-document, one_value}

-- ---- the bodies of a document of events hold whole numbers alone

well-formed-one : (d : Data) (n : EventValue) → ¬ BreaksEvent rules.BadEvents d → ¬ BreaksEvent rules.NotWhole d → ReadsAs d n → IsWellFormedEvent n
well-formed-one d (named.Start id) event whole reads = record { whole = tt }
well-formed-one d (named.Report id outcome) event whole reads = record { whole = subst (λ body. IfSome body IsWhole) reads.body (at (body_of d) refl) }
  where
    at : (body : Option Data) → body_of d ≡ body → IfSome body IsWhole
    at None is = tt
    at (Some body) is = elim (cases_Bool (has_float body)) [
      | inl floats ↦ absurd (event (λ be. whole (record {
        reports = subst IsNone (sym reads.reports) refl;
        report = subst (λ start. IsEventBy start d) reads.reports be;
        body = subst (λ found. IsSomeAnd found (λ b. ¬ IsWhole b)) (sym is) (λ none. both_ways _ none floats);
      })))
      | inr none ↦ none
    ]

well-formed : (ds : List Data) (ns : List EventValue) → AreEvents ds → AllZip ReadsAs ds ns → All IsWellFormedEvent ns
well-formed [] [] none reads = All-nil IsWellFormedEvent
well-formed [] (n ∷ ns) none reads = absurd reads
well-formed (d ∷ ds) [] none reads = absurd reads
well-formed (d ∷ ds) (n ∷ ns) none reads =
    All-cons IsWellFormedEvent n ns (well-formed-one d n (none rules.BadEvents zero) (none rules.NotWhole zero) reads.0)
    (well-formed ds ns (λ rule i. none rule (suc i)) reads.1)

-- ---- the state after events, and what the events write

module _ (causes : HaveOneCause) (policy : Policy) (batch : List Record) (good : HasGoodNames batch) (ns : List EventValue) (es : List Event) (resolved : AreResolved batch ns es) (run : IsRunFrom (first_state batch policy) es)
    (whole : HasWholeBodies (end_of policy batch es)) where
  abbrev last : State
  last = end_of policy batch es

  abbrev first : State
  first = first_state batch policy

  -- a run that is finished has no fault
  faultless : is_finished last ≡ true → (refusal : Printed) → IsLeastOfRun policy batch ns refusal → ⊥
  faultless finished refusal (OfIds i unknown row) = not-unknown batch ns es i resolved unknown.unknown
  faultless finished refusal (OfEvent fs cause others stops row) =
      not-stopped first fs cause stops (subst (IsRunFrom first) (same-events causes policy batch good ns es fs resolved others) run)
  faultless finished refusal (OfEnd fs others walk ends is) =
      both_ways _ ends (ap (λ (l : List Event). is_finished (end_of policy batch l)) (same-events causes policy batch good ns fs es others resolved) ∙ finished)

  finished-one : is_finished last ≡ true → (form : Form) (ended : Ended) (text : List ℕ) → RunsEvents policy batch ns form ended text → (Done ≡ ended) × (response_line last ≡ text)
  finished-one finished form ended text (inl x) = absurd (faultless finished x.refusal x.is)
  finished-one finished form ended text (inr y) =
      (sym y.ends, ap (λ (l : List Event). response_line (end_of policy batch l)) (same-events causes policy batch good ns es y.events resolved y.resolved) ∙ sym y.result)

  -- the live run after the events, with these texts and marks
  abbrev pub lived : List (Option (List ℕ)) → List Bool → Live
  lived texts out = record { labels = labels_of batch; texts = texts; out = out; run = without_requests last }

  pub live-one : (texts : List (Option (List ℕ))) (out : List Bool) → HasNoText texts → (form : Form) (a b : Ended) (s t : List ℕ) → Shows (lived texts out) form a s → RunsEvents policy batch ns form b t → (a ≡ b) × (s ≡ t)
  live-one texts out none form a b s t (inl x) y = at x.is
    where
      at : IsLeastOfLive (lived texts out) x.refusal → (a ≡ b) × (s ≡ t)
      at (AtEnd goes is) = one-run causes policy batch good ns form a b s t (inl (record { refusal = x.refusal; is = OfEnd es resolved run goes is; ends = x.ends; prints = x.prints })) y
      at (OfBody i finished body row) = absurd (body.holds (subst (λ text. HasWholeValue (answer (without_requests last) i) text) (sym (none i)) (whole i body.within)))
  live-one texts out none form a b s t (inr (finished, (ends, is))) y =
      let same = finished-one finished form b t y in
      let untexted = ap (λ bs. bs ++ newline ∷ []) (text_with-none (labels_of batch) texts (answer last) none) in
      let lines = ap (λ (rs : List Record). text_of (labels_of rs) (answer last) ++ newline ∷ []) (sym (requests-after_all first es)) in
      (ends ∙ same.0, is ∙ untexted ∙ lines ∙ same.1)

-- ---- from bytes

module _ (law : AreFunctional) (causes : HaveOneCause) (history : AreOneHistory) (policy : Policy) where
  after-one : (batch : List Record) → HasGoodNames batch → (events : List ℕ) (live : Live) → IsOpened policy batch events live → (form : Form) (a b : Ended) (s t : List ℕ) → Shows live form a s
      → RunsBatch policy batch events form b t → (a ≡ b) × (s ≡ t)
  after-one batch good events live opened form a b s t shows (inl x) = absurd (refused_no_value places.Events events x.refusal _ x.is opened.after.named_in)
  after-one batch good events live opened form a b s t shows (inr has) = at has.holds
    where
      at : RunsValue policy batch has.value form b t → (a ≡ b) × (s ≡ t)
      at (inl x) =
          let same = one_value events opened.after.named_in.value has.value opened.after.named_in.document has.document in
          absurd (second.least_not event_faults.event_row RefusesEvents IsEventsDocument AreEventsOf history has.value opened.after.named x.refusal x.is (subst (λ v. IsHistoryOf v opened.after.named) same opened.after.named_in.holds))
      at (inr (ns, lists, writes)) =
          let in_document : AreEventsIn events ns = record { value = has.value; document = has.document; holds = lists } in
          let same = second.one_reading event_faults.event_row RefusesEvents IsEventsDocument AreEventsOf history events ns opened.after.named in_document opened.after.named_in in
          let sound = well-formed (elements opened.after.named_in.value) opened.after.named opened.after.named_in.holds.0.1 opened.after.named_in.holds.1 in
          live-one causes policy batch good opened.after.named opened.after.events opened.after.resolved opened.after.may_come (whole-bodies policy batch opened.after.named opened.after.events opened.after.resolved sound) live.texts live.out opened.texts form a b s t
          (subst (λ (x : Live). Shows x form a s) (λ k. record { labels = opened.labels k; texts = live.texts; out = live.out; run = opened.after.state k }) shows)
          (subst (λ xs. RunsEvents policy batch xs form b t) same writes)

  pub live-text : (batch events : List ℕ) (live : Live) (form : Form) (a b : Ended) (s t : List ℕ) → Opens policy batch events live → Shows live form a s → Answers (Runs policy (Some events)) batch form b t → (a ≡ b) × (s ≡ t)
  live-text batch events live form a b s t opens shows recorded =
      let x = answers_accepted law (Runs policy (Some events)) _ batch form b t opens recorded in
      let is = opens.holds.holds.1 in
      let (document, gives, writes) = subst (λ rs. Runs policy (Some events) rs form b t) (same_batch law batch _ _ x opens) x.holds.holds.1 in
      let whole = one_document events document events gives (whole-document events _ is.after.named_in) in
      after-one opens.holds.batch opens.holds.holds.0 events live is form a b s t shows (subst (λ bytes. RunsBatch policy opens.holds.batch bytes form b t) whole writes)

-- ---- one event more

after-without : (state : State) (e : Event) → after (without_requests state) e ≡ without_requests (after state e)
after-without state (event.Start i) = refl
after-without state (event.Report i outcome) = refl

may-without : (state : State) (e : Event) → may_come (without_requests state) e ≡ may_come state e
may-without state (event.Start i) = refl
may-without state (event.Report i outcome) = refl

module _ (law : AreFunctional) (history : AreOneHistory) (policy : Policy) where
  after-next : (batch : List Record) (events more : List ℕ) (run : State) (e : Event) → IsAfter policy batch events run → RecordsOneMore batch events more e → event_position e < size run → may_come run e ≡ true
      → IsAfter policy batch more (after run e)
  after-next batch events more run e is next within may =
      let same = second.one_reading event_faults.event_row RefusesEvents IsEventsDocument AreEventsOf history events next.named is.named next.before is.named_in in
      let last = end_of policy batch is.events in
      record {
        named = is.named ++ next.last ∷ [];
        named_in = subst (λ xs. AreEventsIn more (xs ++ next.last ∷ [])) same next.with_it;
        events = is.events ++ e ∷ [];
        resolved = all_zipped_more (IsResolved batch) is.named is.events next.last e is.resolved next.is;
        may_come = joined (first_state batch policy) is.events e is.may_come
            (subst (λ (x : State). event_position e < size x) is.state within)
            (sym (may-without last e) ∙ subst (λ (x : State). may_come x e ≡ true) is.state may);
        state = ap (λ (x : State). after x e) is.state ∙ after-without last e ∙ ap without_requests (sym (after_all-push (first_state batch policy) is.events e));
      }

  pub live-next : (batch events more : List ℕ) (live : Live) (e : Event) → Opens policy batch events live → Accepts batch (λ rs. RecordsOneMore rs events more e) → event_position e < size live.run → may_come live.run e ≡ true
      → Opens policy batch more (with_run live (after live.run e))
  live-next batch events more live e opens next within may =
      let batched = opens.holds in
      let is = batched.holds.1 in
      record {
        value = opens.value;
        document = opens.document;
        holds = record {
          batch = batched.batch;
          shaped = batched.shaped;
          is_batch = batched.is_batch;
          holds = (batched.holds.0, record { labels = is.labels; texts = is.texts; places = is.places; out = is.out; after = after-next batched.batch events more live.run e is.after (subst (λ rs. RecordsOneMore rs events more e) (same_batch law batch _ _ next opens) next.holds.holds.1) within may });
        };
      }

-- ---- the run that two documents open

no_text_at : (texts : List (Option (List ℕ))) (i : ℕ) → HasNoText texts → i < length texts → get_or texts i None ≡ None
no_text_at texts i none within = sym (ap (option_and_then (λ (text : Option (List ℕ)). text)) (slice_get-get_or texts i None within)) ∙ none i

no_texts : (texts others : List (Option (List ℕ))) → length texts ≡ length others → HasNoText texts → HasNoText others → texts ≡ others
no_texts texts others count none also = ext_get_or None texts others count (λ i within. no_text_at texts i none within ∙ sym (no_text_at others i also (omega (arith, within, count))))

opened-one : HaveOneCause → AreOneHistory → (policy : Policy) (batch : List Record) → HasGoodNames batch → (events : List ℕ) (live other : Live) → IsOpened policy batch events live → IsOpened policy batch events other → live ≡ other
opened-one causes history policy batch good events live other one two =
    let a = one.after in
    let b = two.after in
    let same : a.named ≡ b.named = second.one_reading event_faults.event_row RefusesEvents IsEventsDocument AreEventsOf history events a.named b.named a.named_in b.named_in in
    let resolved : AreResolved batch b.named a.events = subst (λ (ns : List EventValue). AreResolved batch ns a.events) same a.resolved in
    let taken = same-events causes policy batch good b.named a.events b.events resolved b.resolved in
    let labels : live.labels ≡ other.labels = one.labels ∙ sym two.labels in
    let texts : live.texts ≡ other.texts = no_texts live.texts other.texts (one.places ∙ sym two.places) one.texts two.texts in
    let out : live.out ≡ other.out = one.out ∙ sym two.out in
    let run : live.run ≡ other.run = a.state ∙ ap (λ es. without_requests (end_of policy batch es)) taken ∙ sym b.state in
    λ i. record { labels = labels i; texts = texts i; out = out i; run = run i }

pub one-opening : AreFunctional → HaveOneCause → AreOneHistory → (policy : Policy) (batch events : List ℕ) (live other : Live) → Opens policy batch events live → Opens policy batch events other → live ≡ other
one-opening law causes history policy batch events live other one two =
    let same : one.holds.batch ≡ two.holds.batch = same_batch law batch (λ rs. IsOpened policy rs events live) (λ rs. IsOpened policy rs events other) one two in
    opened-one causes history policy two.holds.batch two.holds.holds.0 events live other (subst (λ rs. IsOpened policy rs events live) same one.holds.holds.1) two.holds.holds.1
