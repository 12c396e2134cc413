-- The calls that are taken are a live run after the events of the document.
use Rattle.std.proofs.Common.{◌≡◌, ◌≤◌, ◌∙◌, ℕ, All, Some, ap, arith, inl, inr, refl, subst, sym, map, true, ◌++◌, List}
use Rattle.std.specs.List.{AllZip}
use Rattle.serde_json.specs.Data.{Data, depth}
use Rattle.serde_json.specs.Read.{read}
use Rattle.odb_doc.specs.canonical.HeldValues.{IsHeld}
use Rattle.odb_doc.specs.recorded.Events.{AreEventsOf, EventValue, IsRecordableEvent}
use Rattle.odb_doc.specs.batch.Records.{Record}
use Rattle.odb_check.specs.Laws.{HasPositions}
use Rattle.odb_check.specs.PlanGraph.{IsPlan, IsPlanGraphOf}
use Rattle.odb_check.specs.Plans.{batch_plan_graph}
use Rattle.odb_sched.specs.declared.event.Event.{Event}
use Rattle.odb_sched.specs.declared.policy.Mode.{Mode}
use Rattle.odb_sched.specs.declared.policy.Policy.{Policy}
use Rattle.odb_sched.specs.run.Answers.{HasStatuses, answer, status_of}
use Rattle.odb_sched.specs.run.Laws.{RestsOnSuccesses}
use Rattle.odb_sched.specs.run.LiveEvents.{LiveEvent, Single, IsLiveRun, IsLiveRunFrom, after_all_live, first_live, live_state}
use Rattle.odb_sched.specs.run.LiveLaws.{KeepsPromises}
use Rattle.odb_sched.specs.run.PossibleLive.{HasLiveRun, IsPossibleLive}
use Rattle.odb_sched.specs.run.Steps.{is_finished}
use Rattle.odb_sched.specs.run.Runs.{IsRunFrom, after_all}
use Rattle.odb_sched.specs.run.State.{State, first_state, phase_at, with_requests, without_requests}
use Rattle.odb_sched.proofs.LiveLemmas.{plan_graph-after_all_live}
use Rattle.odb_reply.specs.BodyTexts.{text_at, value_with, values_of}
use Rattle.odb_reply.specs.Fits.{ListsFit}
use Rattle.odb_reply.specs.OnePerId.{HasOnePerId}
use Rattle.odb_reply.specs.ResponseDocuments.{ReadsAs, responses_in}
use Rattle.odb_reply.specs.Responses.{LabelValue}
use Rattle.odb_reply.specs.StatusFaults.{status_at}
use Rattle.odb_reply.specs.declared.strictness.Strictness.TheVariants.{Units}
use Rattle.odb_reply.proofs.AnsweredLemmas.{IsResponseDocument-answered, ListsFit-texted, table-texted, texted-statuses}
use Rattle.odb_reply.proofs.IdLemmas.{one_position}
use Rattle.odb_reply.proofs.OneLemmas.{one_per_id}
use Rattle.odb_engine.specs.declared.ending.Ended.TheVariants.{Done}
use Rattle.odb_engine.specs.declared.form.Form.TheVariants.{Lines}
use Rattle.odb_engine.specs.Cascade.{Accepts}
use Rattle.odb_live.specs.Live.{IsOpened, Live, Opens, Shows}
use Rattle.odb_engine.specs.ReadAgain.{IsReadAgain}
use Rattle.odb_calls.specs.Live.{Responds}
use Rattle.odb_calls.specs.Sessions.{Call, IsSession, KeepsSession}
use Rattle.odb_calls.proofs.ReportedLemmas.{answer-statuses, answered-as, shallow-answer}
use Rattle.odb_calls.proofs.SessionLemmas.{driven}
use Rattle.odb_calls.proofs.StepLemmas.{session-joined}
use Rattle.odb_calls.proofs.laws.every_session.Goals as goal

-- the clauses of the laws of odb_check and of odb_sched
record AreLaws (requests : List Record) (policy : Policy) : Type 0 where
  positions : HasPositions requests
  graph : IsPlanGraphOf requests (batch_plan_graph requests)
  order : IsPlan (batch_plan_graph requests)
  kept : (events : List LiveEvent) → IsLiveRun requests policy events → KeepsPromises requests policy events
  goes_on : (events more : List LiveEvent) → IsLiveRun requests policy events → IsLiveRunFrom (live_state requests policy events) more
      → IsLiveRun requests policy (events ++ more) × (live_state requests policy (events ++ more) ≡ after_all_live (live_state requests policy events) more)
  recorded : (events : List Event) → IsRunFrom (first_state requests policy) events → IsLiveRun requests policy (map Single events) × (live_state requests policy (map Single events) ≡ without_requests (after_all (first_state requests policy) events))
  held : (text : List ℕ) (value : Data) → read text ≡ Some value → IsHeld value
  nests : (text : List ℕ) (value : Data) → read text ≡ Some value → depth value ≤ 127
  recordable : (value : Data) (events : List EventValue) → IsHeld value → depth value ≤ 127 → AreEventsOf value events → All IsRecordableEvent events

keeps : (requests : List Record) (policy : Policy) → AreLaws requests policy → (bytes : List ℕ) (first last : Live) (calls : List Call) → IsOpened policy requests bytes first → IsSession first calls last → KeepsSession policy requests bytes first calls last
keeps requests policy laws bytes first last calls opened session =
    let after = opened.after in
    let before = map Single after.events in
    let recorded = laws.recorded after.events after.may_come in
    let start : first.run ≡ live_state requests policy before = after.state ∙ sym recorded.1 in
    let graph : first.run.plan_graph ≡ (first_live requests policy).plan_graph = ap (λ (s : State). s.plan_graph) start ∙ plan_graph-after_all_live (first_live requests policy) before in
    let first_shaped : IsPlanGraphOf requests first.run.plan_graph = subst (IsPlanGraphOf requests) (sym graph) laws.graph in
    let all = driven requests first calls last (subst IsPlan (sym graph) laws.order) first_shaped (opened.places ∙ sym first_shaped.size) session in
    let goes = laws.goes_on before all.events recorded.0 (subst (λ (s : State). IsLiveRunFrom s all.events) start all.live) in
    let state : last.run ≡ live_state requests policy (before ++ all.events) = all.run ∙ ap (λ (s : State). after_all_live s all.events) start ∙ sym goes.1 in
    let promises = laws.kept (before ++ all.events) goes.0 in
    let named = one_position requests laws.positions in
    let labels = all.labels ∙ opened.labels in
    let same : last.run.plan_graph ≡ (first_live requests policy).plan_graph = ap (λ (s : State). s.plan_graph) state ∙ plan_graph-after_all_live (first_live requests policy) (before ++ all.events) in
    let shaped : IsPlanGraphOf requests last.run.plan_graph = subst (IsPlanGraphOf requests) (sym same) laws.graph in
    let statuses = answer-statuses last.run (subst HasStatuses (sym state) promises.statuses) in
    let answers = answered-as after.events all.events calls first last
    (λ i outcome is. (promises.reported i outcome).0 (ap (λ (s : State). phase_at s i) (sym state) ∙ is))
    (λ i outcome has. ap (λ (s : State). phase_at s i) state ∙ (promises.reported i outcome).1 has) opened.texts all.texts in
    let bytes_read = after.named_in.document.1.1 in
    let can = laws.recordable after.named_in.value after.named (laws.held bytes after.named_in.value bytes_read) (laws.nests bytes after.named_in.value bytes_read) after.named_in.holds.1 in
    record {
      opened = after;
      events = all.events;
      taken = all.taken;
      live = goes.0;
      state = state;
      promises = promises;
      one_per_id = subst (λ (l : List LabelValue). HasOnePerId requests (value_with l last.texts (answer last.run))) (sym labels) (one_per_id requests (values_of last.texts (answer last.run)) named);
      fits = subst (λ (l : List LabelValue). ListsFit requests (value_with l last.texts (answer last.run))) (sym labels)
          (ListsFit-texted last.texts (with_requests requests last.run) named (subst RestsOnSuccesses (sym state) promises.rests_on_successes) shaped shaped.size);
      document = IsResponseDocument-answered last.labels (values_of last.texts (answer last.run)) (texted-statuses last.texts (answer last.run) statuses);
      labels = labels;
      answers = λ i outcome within is. answers i outcome is;
      shallow = λ i within. shallow-answer requests after.named after.events calls i (answer last.run i) (text_at last.texts i) after.resolved can (answers i);
    }

-- a response is written of a finished run alone
finished_of : (last : Live) (text : List ℕ) → Shows last Lines Done text → is_finished last.run ≡ true
finished_of last text (inl x) = absurd (cc (x.ends))
finished_of last text (inr x) = x.0

-- what the check says of the requests, and what odb_sched says of the statuses of a live run
record AreStatusLaws (requests : List Record) : Type 0 where
  positions : HasPositions requests
  graph : IsPlanGraphOf requests (batch_plan_graph requests)
  possible : (mode : Mode) (statuses : ℕ → ℕ) → HasLiveRun requests mode statuses → IsPossibleLive (batch_plan_graph requests) statuses

-- what is written of the run is read again as responses that fit, with the statuses of a live run
again : (requests : List Record) (policy : Policy) (bytes text : List ℕ) (first last : Live) (calls : List Call) → AreStatusLaws requests → KeepsSession policy requests bytes first calls last → Responds last Lines Done text → IsReadAgain Units requests text
again requests policy bytes text first last calls laws keeps responds =
    let events = map Single keeps.opened.events ++ keeps.events in
    let end = live_state requests policy events in
    let says = subst (λ (l : List LabelValue). AllZip ReadsAs (responses_in (value_with l last.texts (answer last.run))) keeps.fits.listed) keeps.labels keeps.fits.says in
    record {
      value = value_with last.labels last.texts (answer last.run);
      reads = responds.reads_back refl keeps.shallow;
      document = keeps.document;
      fits = keeps.fits;
      possible = λ places statuses table. laws.possible policy.mode (status_at statuses) (record {
        policy = policy;
        mode_is = refl;
        events = events;
        run = keeps.live;
        finished = subst (λ (s : State). is_finished s ≡ true) keeps.state (finished_of last text responds.shows);
        answered = λ i within. ap (λ (s : State). status_of (answer s i)) (sym keeps.state)
            ∙ sym (table-texted last.texts (with_requests requests last.run) (one_position requests laws.positions) keeps.fits.listed says places statuses table i (omega (arith, within, laws.graph.size)));
      });
    }

pub returns : goal.returns
returns c =
    let lives = c.every_live_run.ensures in
    let checked = c.every_batch.ensures in
    let kept = λ (policy : Policy) (batch events : List ℕ) (first last : Live) (calls : List Call) (opens : Opens policy batch events first) (session : IsSession first calls last).
    let accepted = opens.holds in
    let requests = accepted.batch in
    let good = accepted.holds.0 in
    let order = checked.order opens.value requests accepted.shaped accepted.is_batch good in
    let laws : AreLaws requests policy = record {
      positions = checked.positions requests good;
      graph = checked.plan_graph requests;
      order = order;
      kept = λ taken. lives.kept requests policy taken order (checked.names requests good);
      goes_on = lives.goes_on requests policy;
      recorded = lives.recorded requests policy;
      held = c.every_value.ensures.held;
      nests = c.every_value.ensures.nests;
      recordable = c.one_history.ensures.recordable;
    } in
    let keeps : Accepts batch (λ (rs : List Record). KeepsSession policy rs events first calls last) = record {
      value = opens.value;
      document = opens.document;
      holds = record { batch = requests; shaped = accepted.shaped; is_batch = accepted.is_batch; holds = (good, keeps requests policy laws events first last calls accepted.holds.1 session) };
    } in
    keeps in
    record {
      kept = kept;
      gives = λ policy batch events first last calls limit part opens session unfinished idle is.
          let keeps = kept policy batch events first last calls opens session in
          let live = keeps.holds.holds.1 in
          let taken = map Single live.opened.events ++ live.events in
          let runs : Accepts batch (λ (rs : List Record). IsLiveRun rs policy taken × (last.run ≡ live_state rs policy taken)) = record {
            value = keeps.value;
            document = keeps.document;
            holds = record { batch = keeps.holds.batch; shaped = keeps.holds.shaped; is_batch = keeps.holds.is_batch; holds = (keeps.holds.holds.0, (live.live, live.state)) };
          } in
          c.every_part.ensures.gives policy taken batch last limit part runs unfinished idle is;
      joined = λ first middle last before after. session-joined before after first middle last;
      matched = λ policy strict mode batch events text first last calls opens session responds short allows.
          let keeps = kept policy batch events first last calls opens session in
          let requests = keeps.holds.batch in
          let good = keeps.holds.holds.0 in
          let order = checked.order keeps.value requests keeps.holds.shaped keeps.holds.is_batch good in
          let laws : AreStatusLaws requests = record {
            positions = checked.positions requests good;
            graph = checked.plan_graph requests;
            possible = λ of_mode statuses found. (c.every_possible_live.ensures.runs requests of_mode statuses order).1 found;
          } in
          let accepted : Accepts batch (λ (rs : List Record). IsReadAgain Units rs text) = record {
            value = keeps.value;
            document = keeps.document;
            holds = record {
              batch = requests;
              shaped = keeps.holds.shaped;
              is_batch = keeps.holds.is_batch;
              holds = (good, again requests policy events text first last calls laws keeps.holds.holds.1 responds);
            };
          } in
          c.every_match.ensures.fits Units strict mode batch text allows accepted (record { short = short; utf8 = responds.utf8 refl });
    }
