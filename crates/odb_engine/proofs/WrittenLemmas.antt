-- What is written is accepted: a response by a match, and a rest by the check.
use Rattle.std.proofs.Common.{◌≡◌, ◌∙◌, ℕ, ◌<◌, ◌++◌, ◌∷◌, Bool, true, false, List, [], length, get_or, slice_get, Option, None, Some, option_map, refl, sym, ap, subst, inl, inr, arith, codes}
use Rattle.std.proofs.lemmas.Option.{get_or_from_slice_get, none-some, slice_get-get_or, slice_get_within}
use Rattle.serde_json.specs.Data.{Data}
use Rattle.serde_json.specs.Read.{read}
use Rattle.odb_doc.specs.batch.LeastFault.{IsWellShaped}
use Rattle.odb_doc.specs.batch.Records.{Record, IsBatchOf}
use Rattle.odb_doc.specs.canonical.Canonical.{canonical_value}
use Rattle.odb_doc.specs.canonical.CanonicalLaws.{IsDocumentOf}
use Rattle.odb_doc.specs.Documents.{IsDocument}
use Rattle.odb_doc.specs.declared.fault.Place.TheVariants as places
use Rattle.odb_check.specs.Firsts.{list_below}
use Rattle.odb_check.specs.LeastNameFault.{HasGoodNames}
use Rattle.odb_check.specs.PlanGraph.{PlanGraph}
use Rattle.odb_check.specs.Plans.{batch_plan_graph}
use Rattle.odb_check.specs.Positions.{id_at}
use Rattle.odb_check.proofs.BelowLemmas.{get_or-list_below, length-list_below}
use Rattle.odb_sched.specs.declared.policy.Mode.{Mode}
use Rattle.odb_sched.specs.declared.policy.Mode.TheVariants.{Continue, Stop}
use Rattle.odb_sched.specs.run.Possible.{IsPossible}
use Rattle.odb_sched.specs.run.PossibleLive.{IsPossibleLive}
use Rattle.odb_reply.specs.Completed.{completed}
use Rattle.odb_reply.specs.Fits.{Fits, IsRow, IsTableOf}
use Rattle.odb_reply.specs.ResponseDocuments.{Entry}
use Rattle.odb_reply.specs.StatusFaults.{IsPossibleBy, status_at}
use Rattle.odb_reply.specs.declared.strictness.Strictness.{Strictness}
use Rattle.odb_reply.specs.declared.strictness.Strictness.TheVariants.{Requests, Units}
use Rattle.odb_reply.proofs.SliceLemmas.{map_some}
use Rattle.odb_send.specs.Answers.{Answer}
use Rattle.odb_send.specs.Parts.{IsBatchIn}
use Rattle.odb_send.specs.Rests.{IsRestOf, records_in}
use Rattle.odb_send.specs.Texts.{IsTextOf}
use Rattle.odb_send.specs.declared.rest.Rest.{Rest}
use Rattle.odb_engine.specs.declared.ending.Ended.TheVariants.{Done}
use Rattle.odb_engine.specs.declared.form.Form.{Form}
use Rattle.odb_engine.specs.declared.tasks.task.Task.TheVariants as tasks
use Rattle.odb_engine.specs.Cascade.{Accepts, AcceptsValue, AnswersValue, OfDocument}
use Rattle.odb_engine.specs.Commands.{counts_text}
use Rattle.odb_engine.specs.Contents.Given.{InMemory}
use Rattle.odb_engine.specs.Matches.{IsAnswered, OfEntries, decided, match_text}
use Rattle.odb_engine.specs.ReadAgain.{IsReadAgain}
use Rattle.odb_engine.specs.Rests.{RestsValue, WritesRest}
use Rattle.odb_engine.specs.Tasks.{OfDocuments, OfTask}
use Rattle.odb_engine.specs.Written.{Allows, IsDone, MayBeDocument}
use Rattle.odb_engine.proofs.MatchLemmas.{found-match}

-- ---- responses that fit have a table

-- the place and the status of the response to a request
record Row (rs : List Record) (es : List Entry) (i : ℕ) : Type 0 where
  place : ℕ
  status : ℕ
  is : i < length rs → IsRow rs es i place status

no-request : (rs : List Record) (i : ℕ) (r : Record) → slice_get rs i ≡ None → i < length rs → ⊥
no-request rs i r none within = none-some (get_or rs i r) (sym none ∙ slice_get-get_or rs i r within)

row : (rs : List Record) (es : List Entry) → Fits rs es → (i : ℕ) (o : Option Record) → slice_get rs i ≡ o → Row rs es i
row [] es fits i None none = record { place = 0; status = 0; is = λ within. absurd (omega (arith, within)) }
row (r ∷ rs) es fits i None none = record { place = 0; status = 0; is = λ within. absurd (no-request (r ∷ rs) i r none within) }
row rs es fits i (Some r) some =
    let named : id_at rs i ≡ Some r.id = ap (option_map (λ (x : Record). x.id)) some in
    let one = fits.one i r.id named in
    let found = map_some (λ (e : Entry). e.id) (slice_get es one.0) r.id one.1.has in
    record { place = one.0; status = found.0.status; is = λ within. record { entry = found.0; given = found.1; id = named ∙ ap Some (sym found.2); status_is = refl } }

record HasTable (rs : List Record) (es : List Entry) : Type 0 where
  places : List ℕ
  statuses : List ℕ
  table : IsTableOf rs es places statuses

some-table : (rs : List Record) (es : List Entry) → Fits rs es → HasTable rs es
some-table rs es fits =
    let at = λ (i : ℕ). row rs es fits i (slice_get rs i) refl in
    let places = λ (i : ℕ). (at i).place in
    let statuses = λ (i : ℕ). (at i).status in
    let n = length rs in
    record {
      places = list_below n places;
      statuses = list_below n statuses;
      table = record {
        places_count = length-list_below n places;
        statuses_count = length-list_below n statuses;
        each = λ i k status here there.
            let less = slice_get_within (list_below n places) i k here in
            let within : i < n = omega (arith, less, length-list_below n places) in
            let one : places i ≡ k = sym (get_or-list_below n places i 0 within) ∙ get_or_from_slice_get (list_below n places) i k 0 here in
            let two : statuses i ≡ status = sym (get_or-list_below n statuses i 0 within) ∙ get_or_from_slice_get (list_below n statuses) i status 0 there in
            subst (λ (x : ℕ). IsRow rs es i x status) one (subst (λ (x : ℕ). IsRow rs es i (places i) x) two ((at i).is within));
      };
    }

-- ---- a match accepts them

-- the law of odb_reply on responses that fit: in the mode Stop they stay as they are
abbrev pub StaysAsItIs : Type 0
StaysAsItIs = (rs : List Record) (es : List Entry) → Fits rs es → completed rs es ≡ es

as-decided : StaysAsItIs → (mode : Mode) (rs : List Record) (es : List Entry) → Fits rs es → decided mode rs es ≡ es
as-decided stays Continue rs es fits = refl
as-decided stays Stop rs es fits = stays rs es fits

-- the laws of odb_reply and odb_sched on responses that fit, and on their statuses
pub record AreMatchLaws : Type 0 where
  pub stays : StaysAsItIs
  pub alone : (plan : PlanGraph) (statuses : ℕ → ℕ) → IsPossible plan statuses → IsPossibleLive plan statuses

answered : AreMatchLaws → (by : Strictness) (strict : Option Strictness) → Allows by strict → (batch : List Record) (statuses : List ℕ) → IsPossibleBy by (batch_plan_graph batch) (status_at statuses) → IsAnswered strict batch statuses
answered law by None allows batch statuses possible = tt
answered law Requests (Some Requests) allows batch statuses possible = possible
answered law Requests (Some Units) allows batch statuses possible = law.alone (batch_plan_graph batch) (status_at statuses) possible
answered law Units (Some Requests) allows batch statuses possible = absurd allows
answered law Units (Some Units) allows batch statuses possible = possible

pub matched : AreMatchLaws → (by : Strictness) (strict : Option Strictness) (mode : Mode) (bytes text : List ℕ) → Allows by strict → Accepts bytes (λ batch. IsReadAgain by batch text) → MayBeDocument text → IsDone (tasks.Match mode strict) bytes text
matched law by strict mode bytes text allows accepted may form =
    let batch = accepted.holds.batch in
    let again = accepted.holds.holds.1 in
    let entries = again.fits.listed in
    let same = as-decided law.stays mode batch entries again.fits.fits in
    let table = some-table batch entries again.fits.fits in
    let out = match_text form batch table.statuses in (
      out,
      inr (record {
        value = accepted.value;
        document = accepted.document;
        holds = inr (record {
          batch = batch;
          shaped = accepted.holds.shaped;
          is_batch = accepted.holds.is_batch;
          holds = (
            accepted.holds.holds.0,
            inr (record {
              value = again.value;
              document = (may.short, (may.utf8, again.reads));
              holds = found-match mode strict form batch again.value table.places table.statuses out (record {
                entries = entries;
                lists = (again.document, again.fits.says);
                fits = subst (λ (es : List Entry). Fits batch es) (sym same) again.fits.fits;
                table = subst (λ (es : List Entry). IsTableOf batch es table.places table.statuses) (sym same) table.table;
              }) (answered law by strict allows batch table.statuses (again.possible table.places table.statuses table.table)) refl;
            }),
          );
        });
      }),
    )

-- ---- the check accepts a rest

-- the laws of odb_send on the names and the text of a rest
pub record AreRestLaws : Type 0 where
  pub accepted : (batch : List Record) (statuses : List ℕ) (answers : ℕ → Answer) (rest : Rest) → HasGoodNames batch → IsRestOf batch statuses answers rest → HasGoodNames (records_in batch rest)
  pub value : (document : List ℕ) (d : Data) (batch : List Record) (rest : Rest) (text : List ℕ) → IsBatchIn document d batch → IsTextOf document d batch rest text → read text ≡ Some (canonical_value (records_in batch rest))
  pub line : (document : List ℕ) (d : Data) (batch : List Record) (rest : Rest) (text : List ℕ) → IsBatchIn document d batch → IsTextOf document d batch rest text → read (text ++ codes "\n") ≡ Some (canonical_value (records_in batch rest))
  pub document : (document : List ℕ) (d : Data) (batch : List Record) (statuses : List ℕ) (answers : ℕ → Answer) (rest : Rest) (text : List ℕ) → IsBatchIn document d batch → IsWellShaped d
      → IsRestOf batch statuses answers rest → IsTextOf document d batch rest text → IsDocumentOf text (records_in batch rest)

module _ (law : AreRestLaws) (bytes : List ℕ) (d : Data) (batch : List Record) (document : IsBatchIn bytes d batch) (shaped : IsWellShaped d) (good : HasGoodNames batch) (text : List ℕ) (may : MayBeDocument text) where
  of-rest : (value : Data) (at statuses : List ℕ) (form : Form) → WritesRest bytes batch value at statuses form Done text → Accepts text (λ _. Unit {0})
  of-rest value at statuses form (inl x) = absurd (cc (x.ends))
  of-rest value at statuses form (inr x) =
      let written = x.line_is d document in
      let rest = records_in batch x.rest in
      let found = law.document bytes d batch statuses _ x.rest x.line document shaped x.rest_is written in
      let same : found.value ≡ canonical_value rest = cc (found.reads, law.value bytes d batch x.rest x.line document written) in
      record {
        value = canonical_value rest;
        document = (may.short, (may.utf8, ap read x.prints ∙ law.line bytes d batch x.rest x.line document written));
        holds = record {
          batch = rest;
          shaped = subst IsWellShaped same found.shaped;
          is_batch = subst (λ (v : Data). IsBatchOf v rest) same found.says;
          holds = (law.accepted batch statuses _ x.rest good x.rest_is, tt);
        };
      }

  of-entries : (value : Data) (entries : List Entry) (form : Form) → OfEntries (WritesRest bytes batch value) batch entries form Done text → Accepts text (λ _. Unit {0})
  of-entries value entries form (inl x) = absurd (cc (x.ends))
  of-entries value entries form (inr x) = of-rest value x.places x.statuses form x.writes

  of-responses : (mode : Mode) (value : Data) (form : Form) → RestsValue mode bytes batch value form Done text → Accepts text (λ _. Unit {0})
  of-responses mode value form (inl x) = absurd (cc (x.ends))
  of-responses mode value form (inr x) = of-entries value (decided mode batch x.0) form x.2

  of-second : (mode : Mode) (responses : List ℕ) (form : Form) → OfDocument places.Responses (RestsValue mode bytes batch) responses form Done text → Accepts text (λ _. Unit {0})
  of-second mode responses form (inl x) = absurd (cc (x.ends))
  of-second mode responses form (inr x) = of-responses mode x.value form x.holds

module _ (law : AreRestLaws) (mode : Mode) (form : Form) (bytes responses text : List ℕ) (may : MayBeDocument text) where
  of-value : (value : Data) → IsDocument bytes value → AnswersValue (OfTask (tasks.Rest mode) bytes (InMemory responses)) value form Done text → Accepts text (λ _. Unit {0})
  of-value value is (inl x) = absurd (cc (x.ends))
  of-value value is (inr x) = of-second law bytes value x.batch (record { json = is.1; is = x.is_batch }) x.shaped x.holds.0 text may mode responses form x.holds.1

  pub rest-accepted : OfDocuments (tasks.Rest mode) (InMemory responses) bytes form Done text → Accepts text (λ _. Unit {0})
  rest-accepted (inl x) = absurd (cc (x.ends))
  rest-accepted (inr x) = of-value x.value x.document x.holds

checked-value : (all : Bool) (text : List ℕ) (value : Data) (form : Form) (accepts : AcceptsValue value (λ _. Unit {0})) → AnswersValue (OfTask (tasks.Check all) text (InMemory [])) value form Done (counts_text form accepts.batch)
checked-value all text value form accepts = inr (record { batch = accepts.batch; shaped = accepts.shaped; is_batch = accepts.is_batch; holds = (accepts.holds.0, (refl, refl)) })

-- what the check accepts it ends with a result
pub checked : (all : Bool) (text : List ℕ) → Accepts text (λ _. Unit {0}) → IsDone (tasks.Check all) text []
checked true text accepts form = (counts_text form accepts.holds.batch, inl (refl, inr (record { value = accepts.value; document = accepts.document; holds = checked-value true text accepts.value form accepts.holds })))
checked false text accepts form = (counts_text form accepts.holds.batch, inr (record { value = accepts.value; document = accepts.document; holds = checked-value false text accepts.value form accepts.holds }))
