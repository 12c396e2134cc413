-- A replay that is recorded as events is a run with the same response.
use Rattle.std.proofs.Common.{◌≡◌, ◌∙◌, ℕ, zero, suc, true, Bool, List, [], ◌∷◌, All, Some, None, get_or, map, inl, inr, refl, sym, ap, subst, arith, append-nil}
use Rattle.std.specs.List.{AllZip}
use Rattle.std.proofs.lemmas.Option.{same_Some}
use Rattle.serde_json.specs.Data.{Data}
use Rattle.odb_doc.specs.Documents.{IsDocument}
use Rattle.odb_doc.specs.recorded.Events.{EventValue}
use Rattle.odb_doc.specs.recorded.Events as named
use Rattle.odb_doc.specs.recorded.OutcomeValues.{IsRecordable}
use Rattle.odb_doc.specs.recorded.Outcomes.{Recorded}
use Rattle.odb_doc.specs.batch.Records.{Record}
use Rattle.odb_check.specs.Positions.{id_at}
use Rattle.odb_sched.specs.declared.event.Event.{Event}
use Rattle.odb_sched.specs.declared.event.Event.TheVariants as event
use Rattle.odb_sched.specs.declared.policy.Policy.{Policy}
use Rattle.odb_sched.specs.run.Choosing.{Allowance}
use Rattle.odb_sched.specs.run.Resolving.{IsResolved}
use Rattle.odb_sched.specs.run.State.{State, after, first_state}
use Rattle.odb_sched.specs.run.Steps.{is_finished}
use Rattle.odb_exec.specs.Courses.{AreChosen, IsOffered, step_of}
use Rattle.odb_exec.specs.Recordings.{outcome_for, recorded_for}
use Rattle.odb_reply.specs.OnePerId.{HasOnePerId}
use Rattle.odb_reply.specs.Responses.{response_value}
use Rattle.odb_reply.specs.declared.strictness.Strictness.TheVariants.{Requests}
use Rattle.odb_engine.specs.ResponseLines.{response_line}
use Rattle.odb_engine.specs.declared.ending.Ended.TheVariants.{Done}
use Rattle.odb_engine.specs.declared.form.Form.{Form}
use Rattle.odb_engine.specs.Cascade.{Accepts, AcceptsValue, Answers, AnswersValue, HasValue}
use Rattle.odb_engine.specs.Inputs.{IsDocumentOf}
use Rattle.odb_engine.specs.ReadAgain.{IsReadAgain}
use Rattle.odb_engine.specs.Replayed.{IsEventOf, RunsAgain}
use Rattle.odb_engine.specs.Replays.{IsRecordOf, IsResult, Replays, ReplaysValue, offers_of}
use Rattle.odb_engine.specs.Runs.{AreResolved, RunsEvents, end_of}
use Rattle.odb_engine.proofs.MemoryLemmas.{whole-document}
use Rattle.odb_engine.proofs.ReadAgainLemmas.{AreReadings}
use Rattle.odb_engine.proofs.ReplayLemmas.{offered-outcome}

-- ---- the events of the steps are those of the course

recorded-named : (batch : List Record) (entries : List Recorded) (i : ℕ) (id : List ℕ) → id_at batch i ≡ Some id → get_or (recorded_for batch entries) i None ≡ outcome_for entries id
recorded-named [] entries i id here = absurd (cc (here))
recorded-named (request ∷ batch) entries zero id here = ap (outcome_for entries) (same_Some request.id id here)
recorded-named (request ∷ batch) entries (suc i) id here = recorded-named batch entries i id here

resolved-one : (batch : List Record) (entries : List Recorded) (e : Event) (n : EventValue) → IsOffered (offers_of batch entries) e → IsEventOf batch entries (step_of e) n → IsResolved batch n e
resolved-one batch entries (event.Start i) (named.Start id) offer is = is
resolved-one batch entries (event.Start i) (named.Report id outcome) offer is = absurd is
resolved-one batch entries (event.Report i reported) (named.Start id) offer is = absurd is
resolved-one batch entries (event.Report i reported) (named.Report id outcome) offer (here, recorded) =
    (here, same_Some reported outcome (sym (offered-outcome (get_or (recorded_for batch entries) i None) reported offer) ∙ recorded-named batch entries i id here ∙ recorded))

resolved-all : (allows : Allowance) (batch : List Record) (entries : List Recorded) (es : List Event) (ns : List EventValue) (state : State) → AreChosen allows (offers_of batch entries) state es
    → AllZip (IsEventOf batch entries) (map step_of es) ns → AreResolved batch ns es
resolved-all allows batch entries [] [] state chosen are = tt
resolved-all allows batch entries [] (n ∷ ns) state chosen are = absurd are
resolved-all allows batch entries (e ∷ es) [] state chosen are = absurd are
resolved-all allows batch entries (e ∷ es) (n ∷ ns) state chosen are =
    (resolved-one batch entries e n chosen.1 are.0, resolved-all allows batch entries es ns (after state e) chosen.2 are.1)

-- ---- what the events write is the response of the course

module _ (allows : Allowance) (policy : Policy) (traced : Bool) (batch : List Record) (entries : List Recorded) (text : List ℕ) (result : IsResult allows policy traced batch entries Done text)
    (recordable : All (λ (entry : Recorded). IsRecordable entry.1) entries) where
  pub runs-events : (form : Form) (ns : List EventValue) → AllZip (IsEventOf batch entries) result.steps ns → RunsEvents policy batch ns form Done (response_line result.last)
  runs-events form ns are =
      let course = result.course in
      let end : result.last ≡ end_of policy batch course.events = course.last_is in
      inr (record {
        ends = refl;
        events = course.events;
        resolved = resolved-all allows batch entries course.events ns (first_state batch policy) course.course.chosen (subst (λ steps. AllZip (IsEventOf batch entries) steps ns) course.steps_are are);
        run = course.course.run;
        finished = subst (λ (s : State). is_finished s ≡ true) end course.finished;
        result = ap response_line end;
        dependencies_first = result.dependencies_first;
        one_per_id = subst (λ (s : State). HasOnePerId batch (response_value s)) end result.one_per_id;
        read_again = λ _. subst (λ (s : State). IsReadAgain Requests batch (response_line s)) end (result.read_again recordable);
      })

-- ---- from bytes

-- the document of a reader over bytes, if it is one, is these bytes
given-document : (bytes document : List ℕ) (P : Data → Type 0) → IsDocumentOf bytes document → HasValue document P → HasValue bytes P
given-document bytes document P gives has =
    let none : gives.rest ≡ [] = gives.ends (omega (arith, has.document.0)) in
    let same : bytes ≡ document = gives.whole ∙ rw none (append-nil document) in
    subst (λ b. HasValue b P) (sym same) has

module _ (law : AreReadings) (allows : Allowance) (policy : Policy) (traced : Bool) (form : Form) (bytes outcomes text : List ℕ) (value : Data) (document : IsDocument bytes value) where
  replays-result : AcceptsValue value (λ batch. Replays allows policy traced (Some outcomes) batch form Done text) → AcceptsValue value (RunsAgain allows policy traced form bytes outcomes text)
  replays-result x = at x.holds.1
    where
      at : Replays allows policy traced (Some outcomes) x.batch form Done text → AcceptsValue value (RunsAgain allows policy traced form bytes outcomes text)
      at (whole, gives, inl y) = absurd (cc (y.ends))
      at (whole, gives, inr has) = of has.holds
        where
          of : ReplaysValue allows policy traced x.batch has.value form Done text → AcceptsValue value (RunsAgain allows policy traced form bytes outcomes text)
          of (inl y) = absurd (cc (y.ends))
          of (inr (entries, is, inr lacks)) = absurd (cc (lacks.ends))
          of (inr (entries, is, inl result)) =
              let reads = has.document.1.1 in
              let recordable = law.outcomes has.value entries (law.held whole has.value reads) (law.nests whole has.value reads) is.1 in
              record {
                batch = x.batch;
                shaped = x.shaped;
                is_batch = x.is_batch;
                holds = (
                  x.holds.0,
                  record {
                    entries = entries;
                    recorded = given-document outcomes whole (λ v. IsRecordOf v entries) gives (record { value = has.value; document = has.document; holds = is });
                    steps = result.steps;
                    last = result.last;
                    course = result.course;
                    result = result.result;
                    again = λ events records. inr (record {
                      value = value;
                      document = document;
                      holds = inr (record {
                        batch = x.batch;
                        shaped = x.shaped;
                        is_batch = x.is_batch;
                        holds = (
                          x.holds.0,
                          (
                            events,
                            whole-document events _ records.named_in,
                            inr (record {
                              value = records.named_in.value;
                              document = records.named_in.document;
                              holds = inr (records.named, records.named_in.holds, runs-events allows policy traced x.batch entries text result recordable form records.named records.are);
                            }),
                          ),
                        );
                      });
                    });
                  },
                );
              }

pub replay-runs : AreReadings → (allows : Allowance) (policy : Policy) (traced : Bool) (form : Form) (bytes outcomes text : List ℕ) → Answers (Replays allows policy traced (Some outcomes)) bytes form Done text
    → Accepts bytes (RunsAgain allows policy traced form bytes outcomes text)
replay-runs law allows policy traced form bytes outcomes text (inl x) = absurd (cc (x.ends))
replay-runs law allows policy traced form bytes outcomes text (inr x) = at x.holds
  where
    at : AnswersValue (Replays allows policy traced (Some outcomes)) x.value form Done text → Accepts bytes (RunsAgain allows policy traced form bytes outcomes text)
    at (inl y) = absurd (cc (y.ends))
    at (inr so) = record { value = x.value; document = x.document; holds = replays-result law allows policy traced form bytes outcomes text x.value x.document so }
