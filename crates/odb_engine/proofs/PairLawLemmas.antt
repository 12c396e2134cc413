-- What a task writes of a line with two documents is what it writes of the two documents.
use Rattle.std.proofs.Common.{◌≡◌, ◌∙◌, ◌↔◌, Bool, true, false, ℕ, List, [], ◌-◌, drop, Option, None, Some, is_some, inl, inr, refl, sym, ap, subst, arith}
use Rattle.std.proofs.lemmas.Bool.{false≢true, true≢false}
use Rattle.std.proofs.lemmas.List.{length-drop, length-take}
use Rattle.serde_json.specs.Data.{Data, array, item, no_items}
use Rattle.odb_doc.specs.declared.fault.Place.{Place}
use Rattle.odb_doc.specs.declared.fault.Place.TheVariants as places
use Rattle.odb_doc.specs.Documents.{IsDocument}
use Rattle.odb_doc.specs.batch.Records.{Record}
use Rattle.odb_spans.specs.Positions.{IsTextAt}
use Rattle.odb_spans.specs.Spans.{bytes_of}
use Rattle.odb_spans.specs.declared.span.Span.{Span}
use Rattle.odb_engine.specs.declared.ending.Ended.{Ended}
use Rattle.odb_engine.specs.declared.form.Form.{Form}
use Rattle.odb_engine.specs.declared.tasks.task.Task.{Task}
use Rattle.odb_engine.specs.Cascade.{Answers, AnswersValue, OfDocument, WritesIn}
use Rattle.odb_engine.specs.AllFaults.{AreFaultsIn, Lists}
use Rattle.odb_engine.specs.Contents.{Given, OfTaken}
use Rattle.odb_engine.specs.Contents.Given.{ByReader, InHand, InMemory}
use Rattle.odb_engine.specs.Inputs.{IsDocumentOf}
use Rattle.odb_engine.specs.Accepted.{lists_alone, written_alike}
use Rattle.odb_engine.specs.Tasks.{AnswersPair, InLine, IsLineOf, OfDocuments, OfLine, OfTask, OfValues, OfWholeLine, WritesPair, WritesParts, lists_all, second_place, takes_bytes, takes_second}
use Rattle.odb_engine.proofs.EngineLemmas.{answers-weaker, of-value}
use Rattle.odb_engine.proofs.LawLemmas.{refused_no_value}
use Rattle.odb_engine.proofs.MemoryLemmas.{one_value, whole-document}
use Rattle.odb_engine.proofs.SecondLemmas.{one_document}
use Rattle.odb_engine.proofs.SourceLemmas.{taken-read, taken-weaker}
use Rattle.odb_engine.proofs.TaskLawLemmas.{first-one, second-one}

-- what is written of a document is written of its value
value-of : (place : Place) (P : Data → WritesIn) (bytes : List ℕ) (value : Data) → IsDocument bytes value → (form : Form) (ended : Ended) (text : List ℕ) → OfDocument place P bytes form ended text → P value form ended text
value-of place P bytes value is form ended text (inl x) = absurd (refused_no_value place bytes x.refusal (λ _. Unit {0}) x.is (record { value = value; document = is; holds = tt }))
value-of place P bytes value is form ended text (inr has) = subst (λ v. P v form ended text) (one_value bytes has.value value has.document is) has.holds

-- ---- a task over two documents lists no faults

pub second-alone : (task : Task) → takes_second task ≡ true → lists_all task ≡ false
second-alone task takes = at (lists_all task) refl
  where
    at : (all : Bool) → lists_all task ≡ all → all ≡ false
    at false is = refl
    at true is = absurd (false≢true (sym (ap is_some (lists_alone task is)) ∙ takes))

module _ (place : Option Place) (P : Data → WritesIn) (second : List ℕ) (value : Data) (is : IsDocument second value) (form : Form) (ended : Ended) (text : List ℕ) where
  abbrev Of : Option Place → Given → Type 0
  Of place given = OfTaken place P given form ended text

  -- by a second document in memory as by its value
  in-memory : Of place (InHand value) → Of place (InMemory second)
  in-memory = at place
    where
      at : (place : Option Place) → Of place (InHand value) → Of place (InMemory second)
      at None so = so
      at (Some place) so = of-value place P second value is form ended text so

  in-hand : Of place (InMemory second) → Of place (InHand value)
  in-hand = at place
    where
      at : (place : Option Place) → Of place (InMemory second) → Of place (InHand value)
      at None so = so
      at (Some place) so = value-of place P second value is form ended text so

  -- and as by the document of a reader that has just this left
  whole : IsDocumentOf second second
  whole = whole-document second (λ _. Unit {0}) (record { value = value; document = is; holds = tt })

  of-reader : Of place (ByReader (Some second)) → Of place (InMemory second)
  of-reader = at place
    where
      at : (place : Option Place) → Of place (ByReader (Some second)) → Of place (InMemory second)
      at None so = so
      at (Some place) (bytes, gives, so) = subst (λ b. OfDocument place P b form ended text) (one_document second bytes second gives whole) so

module _ (task : Task) (takes : takes_second task ≡ true) (alone : takes_bytes task ≡ false) (batch second line : List ℕ) (is : IsLineOf batch second line) (form : Form) (ended : Ended) (text : List ℕ) where
  -- whatever the bytes are
  alike : (document other : List ℕ) (given : Given) (requests : List Record) → OfTask task document given requests form ended text → OfTask task other given requests form ended text
  alike document other given requests = taken-weaker (second_place task) (λ d. OfValues task document d requests) (λ d. OfValues task other d requests) given form ended text
      (λ d. written_alike task document other (λ bytes. absurd (true≢false (sym bytes ∙ alone))) d requests form ended text)

  abbrev OfPairs : Data → WritesIn
  OfPairs = AnswersPair false (OfTask task) line

  -- the line of such a task
  line-to : OfLine task line form ended text → OfDocument places.Batch OfPairs line form ended text
  line-to so = subst (λ (bytes : Bool). InLine true bytes (OfTask task) line form ended text) alone (subst (λ (two : Bool). InLine two (takes_bytes task) (OfTask task) line form ended text) takes so)

  line-from : OfDocument places.Batch OfPairs line form ended text → OfLine task line form ended text
  line-from so = subst (λ (two : Bool). InLine two (takes_bytes task) (OfTask task) line form ended text) (sym takes) (subst (λ (bytes : Bool). InLine true bytes (OfTask task) line form ended text) (sym alone) so)

  abbrev pair : Data
  pair = array (item is.batch_value (item is.second_value no_items))

  pub pair-to : OfLine task line form ended text → Answers (OfTask task batch (InMemory second)) batch form ended text
  pair-to so = at (value-of places.Batch OfPairs line pair is.line_is form ended text (line-to so))
    where
      at : OfPairs pair form ended text → Answers (OfTask task batch (InMemory second)) batch form ended text
      at (inl x) = absurd (x.is.none is.batch_value is.second_value refl)
      at (inr y) =
          let first = first-one is.batch_value is.second_value y.first y.second y.pair in
          let other = second-one is.batch_value is.second_value y.first y.second y.pair in
          let so = subst (λ v. AnswersValue (OfTask task y.document (InHand v)) is.batch_value form ended text) (sym other) (subst (λ v. AnswersValue (OfTask task y.document (InHand y.second)) v form ended text) (sym first) y.so) in
          of-value places.Batch (AnswersValue (OfTask task batch (InMemory second))) batch is.batch_value is.batch_is form ended text
          (answers-weaker (OfTask task y.document (InHand is.second_value)) (OfTask task batch (InMemory second)) is.batch_value form ended text (λ requests so. in-memory (second_place task) (λ d. OfValues task batch d requests) second is.second_value is.second_is form ended text (alike y.document batch (InHand is.second_value) requests so)) so)

  pub pair-from : Answers (OfTask task batch (InMemory second)) batch form ended text → OfLine task line form ended text
  pair-from so =
      let here = answers-weaker (OfTask task batch (InMemory second)) (OfTask task [] (InHand is.second_value)) is.batch_value form ended text (λ requests so. alike batch [] (InHand is.second_value) requests (in-hand (second_place task) (λ d. OfValues task batch d requests) second is.second_value is.second_is form ended text so))
      (value-of places.Batch (AnswersValue (OfTask task batch (InMemory second))) batch is.batch_value is.batch_is form ended text so) in
      line-from (of-value places.Batch OfPairs line pair is.line_is form ended text (inr (record { first = is.batch_value; second = is.second_value; pair = refl; document = []; taken = refl; so = here })))

  pub readers-to : OfLine task line form ended text → Answers (OfTask task batch (ByReader (Some second))) batch form ended text
  readers-to so = of-value places.Batch (AnswersValue (OfTask task batch (ByReader (Some second)))) batch is.batch_value is.batch_is form ended text
      (answers-weaker (OfTask task batch (InMemory second)) (OfTask task batch (ByReader (Some second))) is.batch_value form ended text (λ requests. taken-read (Some second) second (whole-document second (λ _. Unit {0}) (record { value = is.second_value; document = is.second_is; holds = tt })) (second_place task) (λ d. OfValues task batch d requests) form ended text)
      (value-of places.Batch (AnswersValue (OfTask task batch (InMemory second))) batch is.batch_value is.batch_is form ended text (pair-to so)))

  pub readers-from : Answers (OfTask task batch (ByReader (Some second))) batch form ended text → OfLine task line form ended text
  readers-from so = pair-from (of-value places.Batch (AnswersValue (OfTask task batch (InMemory second))) batch is.batch_value is.batch_is form ended text
      (answers-weaker (OfTask task batch (ByReader (Some second))) (OfTask task batch (InMemory second)) is.batch_value form ended text (λ requests. of-reader (second_place task) (λ d. OfValues task batch d requests) second is.second_value is.second_is form ended text)
      (value-of places.Batch (AnswersValue (OfTask task batch (ByReader (Some second)))) batch is.batch_value is.batch_is form ended text so)))

-- so what it writes is its result or the first fault
pub whole-line : (task : Task) → takes_second task ≡ true → (line : List ℕ) (form : Form) (ended : Ended) (text : List ℕ) → OfWholeLine task line form ended text ↔ OfLine task line form ended text
whole-line task takes line form ended text = (
  subst (λ (all : Bool). Lists all (OfLine task line) (AreFaultsIn line) form ended text) (second-alone task takes),
  subst (λ (all : Bool). Lists all (OfLine task line) (AreFaultsIn line) form ended text) (sym (second-alone task takes)),
)

pub whole-documents : (task : Task) → takes_second task ≡ true → (given : Given) (batch : List ℕ) (form : Form) (ended : Ended) (text : List ℕ) → OfDocuments task given batch form ended text ↔ Answers (OfTask task batch given) batch form ended text
whole-documents task takes given batch form ended text = (
  subst (λ (all : Bool). Lists all (Answers (OfTask task batch given) batch) (AreFaultsIn batch) form ended text) (second-alone task takes),
  subst (λ (all : Bool). Lists all (Answers (OfTask task batch given) batch) (AreFaultsIn batch) form ended text) (sym (second-alone task takes)),
)

-- ---- a task that takes the bytes of the batch

-- the text of a value in a document is a document
part-document : (line : List ℕ) (value d : Data) (span : Span) → IsDocument line value → IsTextAt line span d → IsDocument (bytes_of line span) d
part-document line value d span is at = (omega (arith, is.0, length-take (span.end - span.start) (drop span.start line), length-drop span.start line), at.reads)

module _ (task : Task) (takes : takes_second task ≡ true) (bytes : takes_bytes task ≡ true) (line : List ℕ) (batch second : Data) (is : IsDocument line (array (item batch (item second no_items)))) (form : Form) (ended : Ended) (text : List ℕ) where
  abbrev both : Data
  both = array (item batch (item second no_items))

  abbrev OfBoth : Data → WritesIn
  OfBoth = AnswersPair true (OfTask task) line

  taken-parts : WritesPair true (OfTask task) line both form ended text → WritesParts task line both form ended text
  taken-parts y =
      let first = y.taken.first in
      let other = y.taken.other in
      let parts = y.taken.parts in
      let same = sym parts.is ∙ y.pair in
      let document = bytes_of line first in
      let answer = bytes_of line other in
      let one = part-document line both y.first first is (subst (IsTextAt line first) (first-one parts.batch parts.second y.first y.second same) parts.first_place.text) in
      let two = part-document line both y.second other is (subst (IsTextAt line other) (second-one parts.batch parts.second y.first y.second same) parts.other_place.text) in
      let so = subst (λ b. AnswersValue (OfTask task b (InHand y.second)) y.first form ended text) y.taken.is y.so in
      record {
        first = first;
        other = other;
        parts = parts;
        so =
            (whole-documents task takes (InMemory answer) document form ended text).1
            (of-value places.Batch (AnswersValue (OfTask task document (InMemory answer))) document y.first one form ended text
            (answers-weaker (OfTask task document (InHand y.second)) (OfTask task document (InMemory answer)) y.first form ended text (λ requests. in-memory (second_place task) (λ d. OfValues task document d requests) answer y.second two form ended text) so));
      }

  pub parts-to : OfWholeLine task line form ended text → WritesParts task line both form ended text
  parts-to so = at (value-of places.Batch OfBoth line both is form ended text here)
    where
      here : OfDocument places.Batch OfBoth line form ended text
      here = subst (λ (b : Bool). InLine true b (OfTask task) line form ended text) bytes (subst (λ (two : Bool). InLine two (takes_bytes task) (OfTask task) line form ended text) takes ((whole-line task takes line form ended text).0 so))

      at : OfBoth both form ended text → WritesParts task line both form ended text
      at (inl x) = absurd (x.is.none batch second refl)
      at (inr y) = taken-parts y
