-- The exits of an engine: at each `?` the output is as the cascade states.
use Rattle.std.proofs.Common.{◌≡◌, ◌⊎◌, ◌↔◌, ℕ, ◌≤◌, ◌<◌, List, [], length, take, drop, Option, None, Some, Result, Ok, Err, IfOk, IfErr, String, string_bytes, inl, inr, refl, sym, subst, arith}
use Rattle.std.proofs.lemmas.List.{take-append-drop, length-take, drop_all}
use Rattle.std.specs.Result.{IsErrAnd}
use Rattle.std.proofs.lemmas.Result.{err_from_is_err_and, IfOk-weaker}
use Rattle.std.specs.declared.alloc.Global.{Global}
use Rattle.serde_json.specs.Data.{Data}
use Rattle.odb_io.specs.Devices.{Writing}
use Rattle.odb_doc.specs.declared.fault.Place.{Place}
use Rattle.odb_doc.specs.declared.fault.DocFault.{DocFault}
use Rattle.odb_doc.specs.Documents.{IsDocument}
use Rattle.odb_doc.specs.Faults.{document_row}
use Rattle.odb_doc.specs.Refusals as refusals
use Rattle.odb_doc.specs.batch.LeastFault.{IsWellShaped, IsLeastFault}
use Rattle.odb_doc.specs.batch.Records.{Record, IsBatchOf}
use Rattle.odb_check.specs.LeastNameFault.{HasGoodNames}
use Rattle.odb_engine.specs.declared.ending.Ended.{Ended}
use Rattle.odb_engine.specs.declared.ending.Ended.TheVariants.{Done, Refused}
use Rattle.odb_engine.specs.declared.ending.EngineFault.{EngineFault}
use Rattle.odb_engine.specs.declared.halt.Halt.{Halt}
use Rattle.odb_engine.specs.declared.halt.Halt.TheVariants as halts
use Rattle.odb_engine.specs.Inputs.{most_read, GivesDocument, SomeDocument}
use Rattle.odb_doc.specs.Refusals.{Printed}
use Rattle.odb_engine.specs.Cascade.{Writes, WritesIn, Prints, Reports, RefusesBytes, AcceptsValue, AnswersValue, HasFault, IsLeastOfBatch, OfDocument}
use Rattle.odb_engine.specs.Contents.{IfRead}
use Rattle.odb_engine.specs.Engines.{Ends, WritesPrefix}
use Rattle.odb_engine.specs.declared.form.Form.{Form}
use Rattle.odb_engine.specs.Forms.{fault_text}
use Rattle.odb_engine.specs.Halts.{Found, Refuses, RefusesNamesOf, Halted, HaltsBy}

-- a result of the search for a text
abbrev pub FoundText : Type 0
FoundText = Result (String Global) Halt

-- each reader has a document
pub some-document : (left : Option (List ℕ)) → (bytes : List ℕ) × GivesDocument left bytes
some-document None = ([], omega arith)
some-document (Some left) = (
  take most_read left,
  record {
    rest = drop most_read left;
    whole = sym (take-append-drop most_read left);
    within = short most_read left;
    ends = λ less. drop_all most_read left (all most_read left less);
  },
)
  where
    short : (n : ℕ) (xs : List ℕ) → length (take n xs) ≤ n
    short n xs = omega (arith, length-take n xs)

    all : (n : ℕ) (xs : List ℕ) → length (take n xs) < n → length xs ≤ n
    all n xs less = omega (arith, length-take n xs, less)

-- the exit of a `?`: what holds of the error holds of the result
pub at-exit : {T E : Type 0} (C : Result T E → Type 0) (Q : E → Type 0) (r : Result T E) → IsErrAnd r Q → ((error : E) → Q error → C (Err error)) → C r
at-exit C Q r is to = let (error, same, holds) = err_from_is_err_and r is in subst C (sym same) (to error holds)

-- the exit of a `?` that returns an error as it is
pub exit-error : {T E : Type 0} (C : Result T E → Type 0) (error : E) (r : Result T E) → IsErrAnd r (λ other. other ≡ error) → C (Err error) → C r
exit-error C error r is so = at-exit C (λ other. other ≡ error) r is (λ other same. subst (λ s. C (Err s)) (sym same) so)

-- a halt by a fault, if it has a row
pub halted-by : (Is : Printed → Type 0) (row : Option Printed) → ((refusal : Printed) → row ≡ Some refusal → Is refusal) → (halt : Halt) → HaltsBy row halt → Halted Is halt
halted-by Is row may (halts.Refused refusal) by = may (refusals.printed refusal) by
halted-by Is row may halts.Read by = absurd by
halted-by Is row may halts.OutOfMemory by = tt

pub Halted-weaker : (Is Js : Printed → Type 0) → ((refusal : Printed) → Is refusal → Js refusal) → (halt : Halt) → Halted Is halt → Halted Js halt
Halted-weaker Is Js to (halts.Refused refusal) so = to _ so
Halted-weaker Is Js to halts.Read so = tt
Halted-weaker Is Js to halts.OutOfMemory so = tt

-- what holds of each fault holds of one that was found
pub err-all : (Is : Printed → Type 0) → ((refusal : Printed) → Is refusal) → (found : FoundText) → IfErr found (Halted Is)
err-all Is all (Ok text) = tt
err-all Is all (Err (halts.Refused refusal)) = all (refusals.printed refusal)
err-all Is all (Err halts.Read) = tt
err-all Is all (Err halts.OutOfMemory) = tt

pub err-weaker : (Is Js : Printed → Type 0) → ((refusal : Printed) → Is refusal → Js refusal) → (found : FoundText) → IfErr found (Halted Is) → IfErr found (Halted Js)
err-weaker Is Js to (Ok text) so = tt
err-weaker Is Js to (Err halt) so = Halted-weaker Is Js to halt so

pub Halted-both : (Is Js Ks : Printed → Type 0) → ((refusal : Printed) → Is refusal → Js refusal → Ks refusal) → (halt : Halt) → Halted Is halt → Halted Js halt → Halted Ks halt
Halted-both Is Js Ks to (halts.Refused refusal) one two = to _ one two
Halted-both Is Js Ks to halts.Read one two = tt
Halted-both Is Js Ks to halts.OutOfMemory one two = tt

pub reports : (Is : Printed → Type 0) (form : Form) (refusal : Printed) → Is refusal → Reports Is form Refused (fault_text form refusal)
reports Is form refusal is = record { refusal = refusal; is = is; ends = refl; prints = refl }

-- no document was read, so there is no value
pub unread-value : {T : Type 0} (left : Option (List ℕ)) (Q : List ℕ → T → Type 0) (Is : List ℕ → Printed → Type 0) (So : List ℕ → Type 0) (halt : Halt) (r : Result T Halt) → IsErrAnd r (λ other. other ≡ halt) → Halted (λ refusal. ⊥) halt
    → SomeDocument left (λ bytes. (IfOk r (Q bytes) × IfErr r (Halted (Is bytes))) × IfRead (So bytes) r)
unread-value left Q Is So halt r is unrefused =
    let (bytes, gives) = some-document left in
    let none = λ (Js : Printed → Type 0). Halted-weaker (λ refusal. ⊥) Js (λ refusal none. absurd none) halt unrefused in
    (bytes, gives, exit-error (λ x. (IfOk x (Q bytes) × IfErr x (Halted (Is bytes))) × IfRead (So bytes) x) halt r is ((tt, none (Is bytes)), none (λ refusal. So bytes)))

-- the value of a document at a place is written so
pub of-value : (place : Place) (P : Data → WritesIn) (bytes : List ℕ) (value : Data) → IsDocument bytes value → (form : Form) (ended : Ended) (text : List ℕ) → P value form ended text → OfDocument place P bytes form ended text
of-value place P bytes value is form ended text so = inr (record { value = value; document = is; holds = so })

-- the bytes of a document are refused
pub halt-document : (place : Place) (P : Data → WritesIn) (bytes : List ℕ) (form : Form) (halt : Halt) → Halted (RefusesBytes place bytes) halt → Refuses (OfDocument place P bytes) form halt
halt-document place P bytes form = Halted-weaker (RefusesBytes place bytes) (λ refusal. OfDocument place P bytes form Refused (fault_text form refusal))
    (λ refusal refused. inl (reports (RefusesBytes place bytes) form refusal refused))

-- a value has a fault
pub halt-fault : {F : Type 0} (Refused-by : F → Data → Type 0) (row : F → Option Printed) (P : WritesIn) (form : Form) (value : Data) → ((refusal : Printed) → HasFault Refused-by row value refusal → P form Refused (fault_text form refusal))
    → (fault : F) → Refused-by fault value → (halt : Halt) → HaltsBy (row fault) halt → Refuses P form halt
halt-fault Refused-by row P form value writes fault refuses = halted-by (λ refusal. P form Refused (fault_text form refusal)) _ (λ refusal is. writes refusal (record { fault = fault; refuses = refuses; is = is }))

-- the value of a batch document has a fault of shape
pub halt-shape : (P : List Record → WritesIn) (form : Form) (value : Data) (fault : DocFault) → IsLeastFault fault value → (halt : Halt) → HaltsBy (document_row fault) halt → Refuses (AnswersValue P value) form halt
halt-shape P form value fault least = halt-fault IsLeastFault document_row (AnswersValue P value) form value (λ refusal is. inl (reports (IsLeastOfBatch value) form refusal (inl is))) fault least

-- the names of its requests have a fault
pub halt-names : (P : List Record → WritesIn) (form : Form) (value : Data) (batch : List Record) → IsWellShaped value → IsBatchOf value batch → (halt : Halt) → Halted (RefusesNamesOf batch) halt → Refuses (AnswersValue P value) form halt
halt-names P form value batch shaped is_batch = Halted-weaker (RefusesNamesOf batch) (λ refusal. AnswersValue P value form Refused (fault_text form refusal))
    (λ refusal refuses. inl (reports (IsLeastOfBatch value) form refusal (inr (record { fault = refuses.fault; refuses = record { batch = batch; shaped = shaped; is_batch = is_batch; holds = refuses.refuses }; is = refuses.is }))))

-- the value is a batch that the check accepts
pub accepted-value : (value : Data) (batch planned : List Record) (P : List Record → Type 0) → IsWellShaped value → IsBatchOf value batch → HasGoodNames batch → planned ≡ batch → P planned → AcceptsValue value P
accepted-value value batch planned P shaped is_batch names same so = record { batch = batch; shaped = shaped; is_batch = is_batch; holds = (names, subst P same so) }

-- what is written of some requests may be written in more cases
pub answers-weaker : (P Q : List Record → WritesIn) (value : Data) (form : Form) (ended : Ended) (text : List ℕ) → ((batch : List Record) → P batch form ended text → Q batch form ended text) → AnswersValue P value form ended text → AnswersValue Q value form ended text
answers-weaker P Q value form ended text to (inl x) = inl x
answers-weaker P Q value form ended text to (inr x) = inr (record { batch = x.batch; shaped = x.shaped; is_batch = x.is_batch; holds = (x.holds.0, to x.batch x.holds.1) })

-- what may be written in less cases may be written
pub Refuses-weaker : (P Q : WritesIn) (form : Form) (halt : Halt) → ((ended : Ended) (text : List ℕ) → P form ended text → Q form ended text) → Refuses P form halt → Refuses Q form halt
Refuses-weaker P Q form halt to = Halted-weaker (λ refusal. P form Refused (fault_text form refusal)) (λ refusal. Q form Refused (fault_text form refusal)) (λ refusal. to Refused (fault_text form refusal)) halt

-- what may be found in less cases may be found
pub found-weaker : (P Q : WritesIn) (form : Form) (found : FoundText) → ((ended : Ended) (text : List ℕ) → P form ended text → Q form ended text) → Found P form found → Found Q form found
found-weaker P Q form (Ok text) to so = to Done (string_bytes text) so
found-weaker P Q form (Err halt) to so = Refuses-weaker P Q form halt to so

-- what was found of a batch that the check accepts
pub found-accepted : (P : List Record → WritesIn) (value : Data) (batch planned : List Record) (form : Form) (found : FoundText) → IsWellShaped value → IsBatchOf value batch → HasGoodNames batch → planned ≡ batch → Found (P planned) form found → Found (AnswersValue P value) form found
found-accepted P value batch planned form found shaped is_batch names same = found-weaker (P planned) (AnswersValue P value) form found (λ ended text so. inr (accepted-value value batch planned (λ requests. P requests form ended text) shaped is_batch names same so))

prefix-weaker : (P Q : Writes) (old new : Option (List ℕ)) → ((ended : Ended) (text : List ℕ) → P ended text → Q ended text) → WritesPrefix old new P → WritesPrefix old new Q
prefix-weaker P Q old new to part = record { ended = part.ended; text = part.text; so = to part.ended part.text part.so; written = part.written }

pub Ends-weaker : {W : Type 0} (contents : W → Option (List ℕ)) (P Q : Writes) (F G : Type 0) (old new : Writing W) (result : Result Ended EngineFault) → ((ended : Ended) (text : List ℕ) → P ended text → Q ended text)
    → (F ↔ G) → Ends contents P F old new result → Ends contents Q G old new result
Ends-weaker contents P Q F G old new result to read is = record {
  ended = IfOk-weaker result _ _ (λ ended writes. record { text = writes.text; so = to ended writes.text writes.so; written = writes.written }) is.ended;
  read = (λ e. read.0 (is.read.0 e), λ g. is.read.1 (read.1 g));
  unread = is.unread;
  write = is.write;
  part = λ e. prefix-weaker P Q _ _ to (is.part e);
  memory = λ e. at (is.memory e);
}
  where
    at : (new ≡ old) ⊎ WritesPrefix (contents old.writer) (contents new.writer) P → (new ≡ old) ⊎ WritesPrefix (contents old.writer) (contents new.writer) Q
    at (inl same) = inl same
    at (inr part) = inr (prefix-weaker P Q _ _ to part)

-- a text that may be written
pub printed : (P : Writes) (line : List ℕ) → P Done line → (ended : Ended) (text : List ℕ) → Prints line ended text → P ended text
printed P line so ended text (ends, same) = subst (λ e. P e text) (sym ends) (subst (P Done) (sym same) so)

abbrev pub halt_in : {T : Type 0} → Result T Halt → Halt
halt_in (Ok value) = halts.Read
halt_in (Err halt) = halt

-- what comes with one thing comes with what comes with that
pub both-ways : {P Q R : Type 0} → (P ↔ Q) → (Q ↔ R) → P ↔ R
both-ways first other = (λ p. other.0 (first.0 p), λ r. first.1 (other.1 r))
