-- What is written of the document that a source gives.
use Rattle.std.proofs.Common.{◌≡◌, ◌⊎◌, ℕ, Bool, true, List, Option, None, Some, Result, Ok, Err, IfOk, inl, inr, sym, subst}
use Rattle.std.proofs.lemmas.Result.{IfOk-weaker}
use Rattle.serde_json.specs.Data.{Data}
use Rattle.odb_doc.specs.declared.fault.Place.{Place}
use Rattle.odb_doc.specs.declared.fault.Place.TheVariants.{Batch}
use Rattle.odb_doc.specs.Documents.{IsJson}
use Rattle.odb_doc.specs.Refusals.{Printed}
use Rattle.odb_doc.specs.batch.Records.{Record}
use Rattle.odb_engine.specs.declared.halt.Halt.{Halt}
use Rattle.odb_engine.specs.declared.halt.Halt.TheVariants as halts
use Rattle.odb_engine.specs.declared.ending.Ended.{Ended}
use Rattle.odb_engine.specs.declared.ending.Ended.TheVariants.{Refused}
use Rattle.odb_engine.specs.declared.tasks.answer.Answer.{Answer}
use Rattle.odb_engine.specs.declared.form.Form.{Form}
use Rattle.odb_engine.specs.AllFaults.{Lists}
use Rattle.odb_engine.specs.Answered.{IsSecond, RefusesSecond}
use Rattle.odb_engine.specs.Cascade.{WritesIn, AcceptsValue, AnswersValue}
use Rattle.odb_engine.specs.Contents.{Content, Given, AcceptsContent, IfRead, IsAskedFor, IsBytesOf, IsValueOf, OfBatch, OfContent, OfTaken, RefusesContent, SomeContent, bytes_in, given_of, nothing}
use Rattle.odb_engine.specs.Contents.Content.{Bytes, Held}
use Rattle.odb_engine.specs.Contents.Given.{ByReader, InHand, InMemory}
use Rattle.odb_engine.specs.Forms.{fault_text}
use Rattle.odb_engine.specs.Halts.{Found, Halted, Refuses}
use Rattle.odb_engine.specs.Inputs.{GivesDocument}
use Rattle.odb_engine.proofs.AllFaultLemmas.{lists-weaker}
use Rattle.odb_engine.proofs.EngineLemmas.{FoundText, Halted-weaker, answers-weaker, found-weaker, halt-document, of-value, some-document}

-- the document that is given has a weaker property
pub some-weaker : (given : Given) (P Q : Content → Type 0) → ((content : Content) → P content → Q content) → SomeContent given P → SomeContent given Q
some-weaker (ByReader left) P Q to (bytes, gives, so) = (bytes, gives, to (Bytes bytes) so)
some-weaker (InMemory bytes) P Q to so = to (Bytes bytes) so
some-weaker (InHand value) P Q to so = to (Held value) so

-- what is written of the value of a document is written of the document
pub of-content : (place : Place) (P : Data → WritesIn) (content : Content) (value : Data) → IsValueOf content value → (form : Form) (ended : Ended) (text : List _) → P value form ended text → OfContent place P content form ended text
of-content place P (Bytes bytes) value is form ended text so = of-value place P bytes value is form ended text so
of-content place P (Held held) value is form ended text so = subst (λ v. P v form ended text) is so

-- the bytes of the document are refused
pub halt-content : (place : Place) (P : Data → WritesIn) (content : Content) (form : Form) (halt : Halt) → Halted (RefusesContent place content) halt → Refuses (OfContent place P content) form halt
halt-content place P (Bytes bytes) form halt refused = halt-document place P bytes form halt refused
halt-content place P (Held value) form (halts.Refused refusal) refused = absurd refused
halt-content place P (Held value) form halts.Read refused = tt
halt-content place P (Held value) form halts.OutOfMemory refused = tt

accepts-content : (P : List Record → Type 0) (content : Content) (value : Data) → IsValueOf content value → AcceptsValue value P → AcceptsContent content P
accepts-content P (Bytes bytes) value is accepts = record { value = value; document = is; holds = accepts }
accepts-content P (Held held) value is accepts = subst (λ v. AcceptsValue v P) is accepts

-- the second source was asked only after the first
pub asked-for : {S : Type 0} (was_read : Type 0) (content : Content) (value : Data) (old new : S) → IsValueOf content value → was_read → (new ≡ old) ⊎ AcceptsValue value (λ _. Unit {0}) → IsAskedFor was_read content old new
asked-for was_read content value old new is was (inl same) = inl same
asked-for was_read content value old new is was (inr accepts) = inr (was, accepts-content (λ _. Unit {0}) content value is accepts)

-- what is so of each document that was read
pub if-read : {T : Type 0} (So : Type 0) → So → (r : Result T Halt) → IfRead So r
if-read So so (Ok value) = so
if-read So so (Err (halts.Refused refusal)) = so
if-read So so (Err halts.Read) = tt
if-read So so (Err halts.OutOfMemory) = tt

-- some document is given
pub some-content : (given : Given) → SomeContent given (λ content. Unit {0})
some-content (ByReader left) = let (bytes, gives) = some-document left in (bytes, gives, tt)
some-content (InMemory bytes) = tt
some-content (InHand value) = tt

-- ---- the second document of a command, if it takes one

-- what is written by its value is written by the document
pub by-value : (place : Option Place) (P : Data → WritesIn) (content : Content) (value : Data) → IsSecond place content value → (form : Form) (ended : Ended) (text : List ℕ) → P value form ended text → OfTaken place P (given_of content) form ended text
by-value None P content value is form ended text so = subst (λ d. P d form ended text) is so
by-value (Some place) P (Bytes bytes) value is form ended text so = of-value place P bytes value is form ended text so
by-value (Some place) P (Held held) value is form ended text so = subst (λ d. P d form ended text) is so

-- its bytes are refused
pub by-refusal : (place : Option Place) (P : Data → WritesIn) (content : Content) (form : Form) (halt : Halt) → Halted (RefusesSecond place content) halt → Refuses (OfTaken place P (given_of content)) form halt
by-refusal None P content form halt none = Halted-weaker (λ refusal. ⊥) (λ refusal. P nothing form Refused (fault_text form refusal)) (λ refusal so. absurd so) halt none
by-refusal (Some place) P (Bytes bytes) form halt refused = halt-document place P bytes form halt refused
by-refusal (Some place) P (Held held) form halt refused = halt-content place P (Held held) form halt refused

-- no bytes are refused where there is none
pub refused-alone : (place : Option Place) (content : Content) (halt : Halt) (Is : Printed → Type 0) → place ≡ None → Halted (RefusesSecond place content) halt → Halted Is halt
refused-alone place content halt Is none so = Halted-weaker (λ refusal. ⊥) Is (λ refusal so. absurd so) halt (subst (λ (place : Option Place). Halted (RefusesSecond place content) halt) none so)

-- what is written of a document may be written in more cases
content-weaker : (place : Place) (P Q : Data → WritesIn) (content : Content) (form : Form) (ended : Ended) (text : List ℕ) → ((value : Data) → P value form ended text → Q value form ended text) → OfContent place P content form ended text → OfContent place Q content form ended text
content-weaker place P Q (Bytes bytes) form ended text to (inl x) = inl x
content-weaker place P Q (Bytes bytes) form ended text to (inr has) = inr (record { value = has.value; document = has.document; holds = to has.value has.holds })
content-weaker place P Q (Held value) form ended text to so = to value so

pub taken-weaker : (place : Option Place) (P Q : Data → WritesIn) (given : Given) (form : Form) (ended : Ended) (text : List ℕ) → ((value : Data) → P value form ended text → Q value form ended text) → OfTaken place P given form ended text → OfTaken place Q given form ended text
taken-weaker None P Q given form ended text to so = to nothing so
taken-weaker (Some place) P Q given form ended text to so =
    some-weaker given (λ content. OfContent place P content form ended text) (λ content. OfContent place Q content form ended text) (λ content. content-weaker place P Q content form ended text to) so

-- by the document of a reader as by the same bytes
pub taken-read : (left : Option (List ℕ)) (bytes : List ℕ) → GivesDocument left bytes → (place : Option Place) (P : Data → WritesIn) (form : Form) (ended : Ended) (text : List ℕ) → OfTaken place P (InMemory bytes) form ended text → OfTaken place P (ByReader left) form ended text
taken-read left bytes gives None P form ended text so = so
taken-read left bytes gives (Some place) P form ended text so = (bytes, gives, so)

-- the same of all that a command writes of a batch document
module _ (all : Bool) (place : Option Place) (writes : List ℕ → Data → List Record → WritesIn) (content : Content) (Are : List Printed → Type 0) (form : Form) where
  abbrev Of : Given → WritesIn
  Of given = OfBatch place writes given content

  batch-read : (left : Option (List ℕ)) (bytes : List ℕ) → GivesDocument left bytes → (ended : Ended) (text : List ℕ) → Of (InMemory bytes) form ended text → Of (ByReader left) form ended text
  batch-read left bytes gives ended text =
      let P = λ (given : Given) (batch : List Record). OfTaken place (λ second. writes (bytes_in content) second batch) given in
      content-weaker Batch (AnswersValue (P (InMemory bytes))) (AnswersValue (P (ByReader left))) content form ended text
      (λ value. answers-weaker (P (InMemory bytes)) (P (ByReader left)) value form ended text (λ batch. taken-read left bytes gives place (λ second. writes (bytes_in content) second batch) form ended text))

  pub lists-given : (given : Given) (found : Result Answer Halt) → SomeContent given (λ other. IfOk found (λ answer. Lists all (Of (given_of other)) Are form answer.ended answer.text.items)) → IfOk found (λ answer. Lists all (Of given) Are form answer.ended answer.text.items)
  lists-given (ByReader left) found (bytes, gives, so) =
      IfOk-weaker found (λ answer. Lists all (Of (InMemory bytes)) Are form answer.ended answer.text.items) (λ answer. Lists all (Of (ByReader left)) Are form answer.ended answer.text.items)
      (λ answer. lists-weaker all (Of (InMemory bytes)) (Of (ByReader left)) Are form (batch-read left bytes gives) answer.ended answer.text.items) so
  lists-given (InMemory bytes) found so = so
  lists-given (InHand value) found so = so

-- what follows from whatever document is given
pub some-so : (given : Given) (P : Content → Type 0) (Q : Type 0) → ((content : Content) → P content → Q) → SomeContent given P → Q
some-so (ByReader left) P Q to (bytes, gives, so) = to (Bytes bytes) so
some-so (InMemory bytes) P Q to so = to (Bytes bytes) so
some-so (InHand value) P Q to so = to (Held value) so

-- the bytes of a document are JSON
pub json-content : (content : Content) (bytes : List ℕ) (value : Data) → IsBytesOf content bytes → IsValueOf content value → IsJson bytes value
json-content (Bytes document) bytes value same is = subst (λ b. IsJson b value) (sym same) is.1
json-content (Held held) bytes value none is = absurd none

pub same-content : (content : Content) (bytes : List ℕ) → IsBytesOf content bytes → bytes ≡ bytes_in content
same-content (Bytes document) bytes same = same
same-content (Held held) bytes none = absurd none

-- what was found of the value of a document, by its bytes if they matter, is found of the document
pub found-bytes : (takes : Bool) (writes : List ℕ → List Record → WritesIn) (document : List ℕ) (content : Content) (value : Data) (form : Form) (found : FoundText)
    → ((other : List ℕ) → (takes ≡ true → document ≡ other) → (batch : List Record) (form : Form) (ended : Ended) (text : List ℕ) → writes document batch form ended text → writes other batch form ended text)
    → (takes ≡ true → IsBytesOf content document) → IsValueOf content value → Found (AnswersValue (writes document) value) form found → Found (OfContent Batch (AnswersValue (writes (bytes_in content))) content) form found
found-bytes takes writes document content value form found alike bytes is so =
    let here = bytes_in content in
    found-weaker (AnswersValue (writes document) value) (OfContent Batch (AnswersValue (writes here)) content) form found
    (λ ended text so. of-content Batch (AnswersValue (writes here)) content value is form ended text
    (answers-weaker (writes document) (writes here) value form ended text (λ batch. alike here (λ yes. same-content content document (bytes yes)) batch form ended text) so)) so
