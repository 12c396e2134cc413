-- What a task may write is one text: of a batch and a second document, and of a line.
use Rattle.std.proofs.Common.{◌≡◌, ◌∙◌, Bool, true, false, true≢false, List, [], ℕ, Option, None, Some, inl, inr, refl, sym, ap, subst}
use Rattle.serde_json.specs.Data.{Data, Items, null, boolean, number, string, array, object, item, no_items}
use Rattle.odb_doc.specs.Documents.{IsDocument, IsJson}
use Rattle.odb_doc.specs.declared.fault.Place.{Place}
use Rattle.odb_doc.specs.declared.fault.Place.TheVariants as places
use Rattle.odb_doc.specs.declared.recorded.outcome.Outcome.{Outcome}
use Rattle.odb_doc.specs.batch.Records.{Record}
use Rattle.odb_check.specs.LeastNameFault.{HasGoodNames}
use Rattle.odb_sched.specs.declared.order.Order.{Order}
use Rattle.odb_sched.specs.run.Choosing.{AllowsOrder}
use Rattle.odb_sched.specs.run.State.{State}
use Rattle.odb_spans.specs.Positions as spans
use Rattle.odb_spans.specs.Spans.{bytes_of}
use Rattle.odb_spans.specs.declared.span.Span.{Span}
use Rattle.odb_send.specs.Parts.{IsBatchIn}
use Rattle.odb_engine.specs.declared.form.Form.{Form}
use Rattle.odb_engine.specs.declared.tasks.task.Task.{Task}
use Rattle.odb_engine.specs.declared.tasks.task.Task.TheVariants as tasks
use Rattle.odb_engine.specs.Cascade.{Answers, AnswersValue, IsOne, OfDocument, WritesIn}
use Rattle.odb_engine.specs.Forms.{fault_text}
use Rattle.odb_engine.specs.Contents.{Given, OfGiven}
use Rattle.odb_engine.specs.Contents.Given.{ByReader, InHand, InMemory}
use Rattle.odb_engine.specs.Tasks.{AnswersPair, InLine, IsTakenOf, OfDocuments, OfLine, OfPair, OfTask, OfWholeLine, lists_all, takes_bytes, takes_second}
use Rattle.odb_engine.specs.Matches.{MatchesValue}
use Rattle.odb_engine.specs.Replays.{ReplaysValue}
use Rattle.odb_engine.specs.Rests.{RestsValue}
use Rattle.odb_engine.specs.Runs.{RunsValue}
use Rattle.odb_engine.proofs.CanonLawLemmas.{canonical_one}
use Rattle.odb_engine.proofs.CourseLemmas.{AreOneRecord, HasOrder, replays_value_one}
use Rattle.odb_engine.proofs.LawLemmas.{AreFunctional, answers_in_one, document_in_one, document_one, value_in_one}
use Rattle.odb_engine.proofs.ListLawLemmas.{written-one}
use Rattle.odb_engine.proofs.MatchLawLemmas.{AreOneMatch, matches_value_one}
use Rattle.odb_engine.proofs.RestLawLemmas.{AreOneRest, places_one, rests_value_one}
use Rattle.odb_engine.proofs.RunLawLemmas.{AreOneHistory, HaveOneCause, runs_value_one}
use Rattle.odb_engine.proofs.SecondLemmas.{some_document_one}

abbrev elements : Data → Items
elements null = no_items
elements (boolean b) = no_items
elements (number n) = no_items
elements (string s) = no_items
elements (array ds) = ds
elements (object ms) = no_items

abbrev head : Items → Data
head no_items = null
head (item d ds) = d

abbrev tail : Items → Items
tail no_items = no_items
tail (item d ds) = ds

-- the first and the second of a pair are determined
pub first-one : (a b c d : Data) → array (item a (item b no_items)) ≡ array (item c (item d no_items)) → a ≡ c
first-one a b c d same = ap (λ v. head (elements v)) same

pub second-one : (a b c d : Data) → array (item a (item b no_items)) ≡ array (item c (item d no_items)) → b ≡ d
second-one a b c d same = ap (λ v. head (tail (elements v))) same

-- the bytes that are taken of a line with two documents are those of the first
pub first-json : (takes : Bool) (line : List ℕ) (first second : Data) (bytes : List ℕ) → IsTakenOf takes line (array (item first (item second no_items))) bytes → takes ≡ true → IsJson bytes first
first-json false line first second bytes taken same = absurd (true≢false (sym same))
first-json true line first second bytes taken same =
    let parts = taken.parts in
    subst (IsJson bytes) (sym (first-one first second parts.batch parts.second parts.is)) (subst (λ b. IsJson b parts.batch) (sym taken.is) parts.first_place.text.reads)

-- the first of the two documents in a line lies in one place
abbrev pub IsOnePair : Type 0
IsOnePair = (line : List ℕ) (d : Data) (first second other another : Span) → IsJson line d → spans.ArePartsOf line first second d → spans.ArePartsOf line other another d → first ≡ other

same-taken : IsOnePair → (takes : Bool) (line : List ℕ) (value : Data) (a b : List ℕ) → IsJson line value → IsTakenOf takes line value a → IsTakenOf takes line value b → a ≡ b
same-taken law false line value a b is x y = x ∙ sym y
same-taken law true line value a b is x y = x.is ∙ ap (bytes_of line) (law line value x.first x.other y.first y.other is x.parts y.parts) ∙ sym y.is

-- one text is written of a line with two documents, if one is of each batch and each second document
module _ (law : AreFunctional) (pair : IsOnePair) (takes : Bool) (P : List ℕ → Given → List Record → WritesIn) (form : Form)
    (one : (document : List ℕ) (batch : List Record) → HasGoodNames batch → (takes ≡ true → (d : Data) × IsBatchIn document d batch) → (second : Data) → IsOne (P document (InHand second) batch form)) where
  pair-value : (line : List ℕ) (value : Data) → IsDocument line value → IsOne (AnswersPair takes P line value form)
  pair-value line value is a b s t (inl x) (inl y) = (x.ends ∙ sym y.ends, x.prints ∙ ap (fault_text form) (x.is.is ∙ sym y.is.is) ∙ sym y.prints)
  pair-value line value is a b s t (inl x) (inr y) = absurd (x.is.none y.first y.second y.pair)
  pair-value line value is a b s t (inr x) (inl y) = absurd (y.is.none x.first x.second x.pair)
  pair-value line value is a b s t (inr x) (inr y) =
      let same = sym x.pair ∙ y.pair in
      let first = first-one x.first x.second y.first y.second same in
      let second = second-one x.first x.second y.first y.second same in
      let document = same-taken pair takes line value x.document y.document is.1 x.taken y.taken in
      let xs = subst (λ bytes. AnswersValue (P bytes (InHand x.second)) x.first form a s) document x.so in
      let taken = subst (λ v. IsTakenOf takes line v y.document) y.pair y.taken in
      value_in_one law (P y.document (InHand y.second)) form y.first
      (λ batch is good. one y.document batch good (λ has. (y.first, record { json = first-json takes line y.first y.second y.document taken has; is = is })) y.second) a b s t
      (subst (λ d. AnswersValue (P y.document (InHand y.second)) d form a s) first (subst (λ d. AnswersValue (P y.document (InHand d)) x.first form a s) second xs)) y.so

  pub pair-one : (line : List ℕ) → IsOne (OfPair takes P line form)
  pair-one line = document_in_one places.Batch (AnswersPair takes P line) line form (pair-value line)

-- the laws that the tasks stand on
pub record AreOneText : Type 0 where
  pub batch : AreFunctional
  pub matching : AreOneMatch
  pub rest : AreOneRest
  pub pair : IsOnePair
  pub recorded : AreOneRecord
  pub order : (order : Order) (recorded : List (Option Outcome)) (first : State) → HasOrder order recorded first
  pub history : AreOneHistory
  pub causes : HaveOneCause

-- what a source gives is known: it is no reader whose contract does not state its bytes
abbrev pub IsKnown : Given → Type 0
IsKnown (ByReader None) = ⊥
IsKnown (ByReader (Some left)) = Unit {0}
IsKnown (InMemory bytes) = Unit {0}
IsKnown (InHand value) = Unit {0}

-- one text is written of the document that is given, if one is of each value
given-one : (given : Given) → IsKnown given → (place : Place) (P : Data → WritesIn) (form : Form) → ((value : Data) → IsOne (P value form)) → IsOne (OfGiven given place P form)
given-one (ByReader None) known place P form one = absurd known
given-one (ByReader (Some left)) known place P form one = some_document_one left (λ bytes. OfDocument place P bytes form) (λ bytes. document_one place P bytes form one)
given-one (InMemory bytes) known place P form one = document_one place P bytes form one
given-one (InHand value) known place P form one = one value

-- the batch is in this document, if its bytes are taken
abbrev IsTaken : Task → List ℕ → List Record → Type 0
IsTaken task document batch = takes_bytes task ≡ true → (d : Data) × IsBatchIn document d batch

-- one text is written of a batch and a second document
task-one : AreOneText → (task : Task) (document : List ℕ) (form : Form) (given : Given) → IsKnown given → (batch : List Record) → HasGoodNames batch → IsTaken task document batch → IsOne (OfTask task document given batch form)
task-one law (tasks.Check all) document form given known batch good taken a b s t x y = (x.0 ∙ sym y.0, x.1 ∙ sym y.1)
task-one law (tasks.Plan false) document form given known batch good taken a b s t x y = (x.0 ∙ sym y.0, x.1 ∙ sym y.1)
task-one law (tasks.Plan true) document form given known batch good taken a b s t x y = let has = taken refl in places_one law.rest document has.0 batch form has.1.json a b s t x y
task-one law tasks.Draw document form given known batch good taken a b s t x y = (x.0 ∙ sym y.0, x.1 ∙ sym y.1)
task-one law tasks.Canon document form given known batch good taken a b s t x y = canonical_one batch form a b s t x y
task-one law (tasks.Match mode strict) document form given known batch good taken a b s t x y =
    given-one given known places.Responses (MatchesValue mode strict batch) form (λ value. matches_value_one law.matching mode strict batch value form) a b s t x y
task-one law (tasks.Rest mode) document form given known batch good taken a b s t x y =
    let has = taken refl in given-one given known places.Responses (RestsValue mode document batch) form (λ value. rests_value_one law.rest document has.0 batch has.1 value law.matching mode form) a b s t x y
task-one law (tasks.Replay policy order traced) document form given known batch good taken a b s t x y =
    given-one given known places.Outcomes (ReplaysValue (AllowsOrder order) policy traced batch) form (λ value. replays_value_one order (law.order order) law.recorded policy traced batch value form) a b s t x y
task-one law (tasks.Run policy) document form given known batch good taken a b s t x y = given-one given known places.Events (RunsValue policy batch) form (λ value. runs_value_one law.causes law.history policy batch good value form) a b s t x y

pub answers-one : AreOneText → (task : Task) (form : Form) (given : Given) → IsKnown given → (bytes : List ℕ) → IsOne (Answers (OfTask task bytes given) bytes form)
answers-one law task form given known bytes = answers_in_one law.batch (OfTask task bytes given) bytes form (λ d batch is good. task-one law task bytes form given known batch good (λ takes. (d, is)))

pub documents-one : AreOneText → (task : Task) (form : Form) (given : Given) → IsKnown given → (bytes : List ℕ) → IsOne (OfDocuments task given bytes form)
documents-one law task form given known bytes = written-one law.batch (lists_all task) (Answers (OfTask task bytes given) bytes) bytes form (answers-one law task form given known bytes)

-- what is written of a line before all faults are listed is one text
pub of-line-one : AreOneText → (task : Task) (form : Form) (line : List ℕ) → IsOne (OfLine task line form)
of-line-one law task form line = at (takes_second task)
  where
    at : (two : Bool) → IsOne (InLine two (takes_bytes task) (OfTask task) line form)
    at false = answers-one law task form (InMemory []) tt line
    at true = pair-one law.batch law.pair (takes_bytes task) (OfTask task) form (λ document batch good taken second. task-one law task document form (InHand second) tt batch good taken) line

pub line-one : AreOneText → (task : Task) (form : Form) (line : List ℕ) → IsOne (OfWholeLine task line form)
line-one law task form line = written-one law.batch (lists_all task) (OfLine task line) line form (of-line-one law task form line)
