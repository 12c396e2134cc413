-- What a match writes of a batch and the bytes of a response document is one text.
use Rattle.std.proofs.Common.{◌≡◌, ◌∙◌, ℕ, List, Option, IsSome, is_some, inl, inr, sym, ap, subst}
use Rattle.std.proofs.lemmas.Option.{same_Some}
use Rattle.std.specs.List.{AllZip}
use Rattle.serde_json.specs.Data.{Data}
use Rattle.odb_doc.specs.batch.Records.{Record}
use Rattle.odb_check.specs.PlanGraph.{PlanGraph}
use Rattle.odb_check.specs.Plans.{batch_plan_graph}
use Rattle.odb_sched.specs.declared.policy.Mode.{Mode}
use Rattle.odb_reply.specs.StatusFaults.{StatusFault, IsPossibleBy, RefusesStatuses, status_at, status_row}
use Rattle.odb_reply.specs.declared.strictness.Strictness.{Strictness}
use Rattle.odb_reply.specs.MatchFaults.{MatchFault}
use Rattle.odb_reply.specs.declared.response_fault.ResponseFault.{ResponseFault}
use Rattle.odb_reply.specs.Fits.{Fits, IsTableOf}
use Rattle.odb_reply.specs.LeastMatchFault.{RefusesMatch}
use Rattle.odb_reply.specs.MatchFaults as match_faults
use Rattle.odb_reply.specs.ResponseDocuments.{Entry, IsResponseDocument, RefusesResponses, ReadsAs, responses_in}
use Rattle.odb_reply.specs.ResponseDocuments as response_documents
use Rattle.odb_doc.specs.Refusals.{Printed}
use Rattle.odb_engine.specs.Cascade.{IsOne, WritesIn}
use Rattle.odb_engine.specs.Forms.{fault_text}
use Rattle.odb_engine.specs.Matches.{AreImpossible, IsAnswered, MatchesValue, Misfits, OfEntries, OfResponses, WritesStatuses, decided}
use Rattle.odb_engine.specs.declared.form.Form.{Form}
use Rattle.odb_engine.proofs.SecondLemmas.{reading_one}

-- the laws of odb_reply on its own relations
pub record AreOneMatch : Type 0 where
  pub one_fault : (value : Data) (fault other : ResponseFault) → IsSome (response_documents.responses_row fault) → IsSome (response_documents.responses_row other) → RefusesResponses fault value → RefusesResponses other value → fault ≡ other
  pub no_fault : (value : Data) (fault : ResponseFault) → IsSome (response_documents.responses_row fault) → RefusesResponses fault value → ¬ IsResponseDocument value
  pub one_list : (elements : List Data) (entries others : List Entry) → AllZip ReadsAs elements entries → AllZip ReadsAs elements others → entries ≡ others
  pub one_misfit : (requests : List Record) (responses : List Entry) (fault other : MatchFault) → IsSome (match_faults.match_row fault) → IsSome (match_faults.match_row other)
      → RefusesMatch fault requests responses → RefusesMatch other requests responses → fault ≡ other
  pub no_misfit : (requests : List Record) (responses : List Entry) (fault : MatchFault) → IsSome (match_faults.match_row fault) → RefusesMatch fault requests responses → ¬ Fits requests responses
  pub one_table : (requests : List Record) (responses : List Entry) (places others statuses different : List ℕ) → Fits requests responses
      → IsTableOf requests responses places statuses → IsTableOf requests responses others different → (places ≡ others) × (statuses ≡ different)
  pub one_status : (by : Strictness) (plan : PlanGraph) (statuses : ℕ → ℕ) (fault other : StatusFault) → IsSome (status_row fault) → IsSome (status_row other) → RefusesStatuses fault by plan statuses → RefusesStatuses other by plan statuses → fault ≡ other
  pub no_status : (by : Strictness) (plan : PlanGraph) (statuses : ℕ → ℕ) (fault : StatusFault) → IsSome (status_row fault) → RefusesStatuses fault by plan statuses → ¬ IsPossibleBy by plan statuses

one_misfits : AreOneMatch → (batch : List Record) (entries : List Entry) (s t : Printed) → Misfits batch entries s → Misfits batch entries t → s ≡ t
one_misfits law batch entries s t one two =
    same_Some s t (sym one.is ∙ ap match_faults.match_row (law.one_misfit batch entries one.fault two.fault (ap is_some one.is) (ap is_some two.is) one.least two.least) ∙ two.is)

one_statuses : AreOneMatch → (strict : Option Strictness) (batch : List Record) (statuses : List ℕ) (s t : Printed) → AreImpossible strict batch statuses s → AreImpossible strict batch statuses t → s ≡ t
one_statuses law strict batch statuses s t one two =
    let same : one.by ≡ two.by = same_Some one.by two.by (sym one.asked ∙ two.asked) in
    let least : RefusesStatuses one.fault two.by (batch_plan_graph batch) (status_at statuses) = subst (λ by. RefusesStatuses one.fault by (batch_plan_graph batch) (status_at statuses)) same one.least in
    same_Some s t (sym one.is ∙ ap status_row (law.one_status two.by (batch_plan_graph batch) (status_at statuses) one.fault two.fault (ap is_some one.is) (ap is_some two.is) least two.least) ∙ two.is)

-- statuses that no finished run answers are refused, where that is asked
not_answered : AreOneMatch → (strict : Option Strictness) (batch : List Record) (statuses : List ℕ) (refusal : Printed) → AreImpossible strict batch statuses refusal → ¬ IsAnswered strict batch statuses
not_answered law strict batch statuses refusal bad answered =
    law.no_status bad.by (batch_plan_graph batch) (status_at statuses) bad.fault (ap is_some bad.is) bad.least (subst (λ asked. IsAnswered asked batch statuses) bad.asked answered)

statuses_one : AreOneMatch → (strict : Option Strictness) (batch : List Record) (statuses : List ℕ) (form : Form) → IsOne (WritesStatuses strict batch statuses form)
statuses_one law strict batch statuses form a b s t (inl x) (inl y) = (x.ends ∙ sym y.ends, x.prints ∙ ap (fault_text form) (one_statuses law strict batch statuses x.refusal y.refusal x.is y.is) ∙ sym y.prints)
statuses_one law strict batch statuses form a b s t (inl x) (inr y) = absurd (not_answered law strict batch statuses x.refusal x.is y.0)
statuses_one law strict batch statuses form a b s t (inr x) (inl y) = absurd (not_answered law strict batch statuses y.refusal y.is x.0)
statuses_one law strict batch statuses form a b s t (inr x) (inr y) = (x.1.0 ∙ sym y.1.0, x.1.1 ∙ sym y.1.1)

-- one text is written of responses, if one is by each table of those that fit
entries_one : AreOneMatch → (W : List ℕ → List ℕ → WritesIn) (batch : List Record) (entries : List Entry) (form : Form) → ((places statuses : List ℕ) → IsOne (W places statuses form)) → IsOne (OfEntries W batch entries form)
entries_one law W batch entries form one a b s t (inl x) (inl y) = (x.ends ∙ sym y.ends, x.prints ∙ ap (fault_text form) (one_misfits law batch entries x.refusal y.refusal x.is y.is) ∙ sym y.prints)
entries_one law W batch entries form one a b s t (inl x) (inr y) = absurd (law.no_misfit batch entries x.is.fault (ap is_some x.is.is) x.is.least y.fits)
entries_one law W batch entries form one a b s t (inr x) (inl y) = absurd (law.no_misfit batch entries y.is.fault (ap is_some y.is.is) y.is.least x.fits)
entries_one law W batch entries form one a b s t (inr x) (inr y) =
    let same = law.one_table batch entries x.places y.places x.statuses y.statuses x.fits x.table y.table in
    one y.places y.statuses a b s t (subst (λ places. W places y.statuses form a s) same.0 (subst (λ statuses. W x.places statuses form a s) same.1 x.writes)) y.writes

pub responses_one : AreOneMatch → (W : List ℕ → List ℕ → WritesIn) (mode : Mode) (batch : List Record) → ((places statuses : List ℕ) (form : Form) → IsOne (W places statuses form)) → (value : Data) (form : Form) → IsOne (OfResponses W mode batch value form)
responses_one law W mode batch one = reading_one response_documents.responses_row RefusesResponses IsResponseDocument (λ value. AllZip ReadsAs (responses_in value))
    (record { one_fault = law.one_fault; no_fault = law.no_fault; one_reading = λ value. law.one_list (responses_in value) }) (λ entries. OfEntries W batch (decided mode batch entries))
    (λ entries form. entries_one law W batch (decided mode batch entries) form (λ places statuses. one places statuses form))

-- a batch and the value of a response document have one text
pub matches_value_one : AreOneMatch → (mode : Mode) (strict : Option Strictness) (batch : List Record) (value : Data) (form : Form) → IsOne (MatchesValue mode strict batch value form)
matches_value_one law mode strict batch = responses_one law (λ places statuses. WritesStatuses strict batch statuses) mode batch (λ places statuses. statuses_one law strict batch statuses)
