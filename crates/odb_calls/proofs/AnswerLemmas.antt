-- What is given to the caller is what an engine has found.
use Rattle.std.proofs.Common.{◌≡◌, ℕ, List, IfOk, Result, Ok, Err, Some, String, string_bytes, sym, subst}
use Rattle.std.proofs.lemmas.Str.{IsUtf8-string_bytes}
use Rattle.serde_json.specs.Read.{read}
use Rattle.odb_sched.specs.run.Answers.{answer}
use Rattle.odb_reply.specs.BodyTexts.{value_with}
use Rattle.odb_reply.specs.Readable.{HasShallowValues}
use Rattle.odb_live.specs.Live.{Live, Shows}
use Rattle.odb_calls.specs.Live.{Responds}
use Rattle.std.specs.declared.alloc.AllocError.{AllocError}
use Rattle.std.specs.declared.alloc.Global.{Global}
use Rattle.odb_doc.specs.Refusals.{Printed, printed}
use Rattle.odb_engine.specs.declared.ending.Ended.{Ended}
use Rattle.odb_engine.specs.declared.ending.Ended.TheVariants.{Done, Refused}
use Rattle.odb_engine.specs.declared.halt.Halt.{Halt}
use Rattle.odb_engine.specs.declared.form.Form.{Form}
use Rattle.odb_engine.specs.declared.form.Form.TheVariants as forms
use Rattle.odb_engine.specs.declared.halt.Halt.TheVariants as halts
use Rattle.odb_engine.specs.Cascade.{Reports, WritesIn}
use Rattle.odb_engine.specs.Halts.{Found, Halted, text_found}
use Rattle.odb_engine.specs.declared.tasks.answer.Answer.{Answer}

written : (form : Form) (P : WritesIn) (found : Result (String Global) Halt) (ended : Ended) (text : List ℕ) → Found P form found → text_found form found ended text → P form ended text
written form P (Ok line) ended text so (ends, same) = subst (λ e. P form e text) (sym ends) (subst (P form Done) (sym same) so)
written form P (Err (halts.Refused refusal)) ended text so (ends, same) = subst (λ e. P form e text) (sym ends) (subst (P form Refused) (sym same) so)
written form P (Err halts.Read) ended text so none = absurd none
written form P (Err halts.OutOfMemory) ended text so none = absurd none

-- what is written of what was found
pub answered-in : (form : Form) (P : WritesIn) (found : Result (String Global) Halt) (answer : Result Answer AllocError) → Found P form found → IfOk answer (λ a. text_found form found a.ended a.text.items)
    → IfOk answer (λ a. P form a.ended a.text.items)
answered-in form P found (Err error) so is = tt
answered-in form P found (Ok a) so is = written form P found a.ended a.text.items so is

reported : (Is : Printed → Type 0) (halt : Halt) (ended : Ended) (text : List ℕ) → Halted Is halt → text_found forms.Lines (Err halt) ended text → Reports Is forms.Lines ended text
reported Is (halts.Refused refusal) ended text is (ends, line) = record { refusal = printed refusal; is = is; ends = ends; prints = line }
reported Is halts.Read ended text is none = absurd none
reported Is halts.OutOfMemory ended text is none = absurd none

-- the line of a fault
pub answer-reported : (Is : Printed → Type 0) (halt : Halt) (answer : Result Answer AllocError) → Halted Is halt → IfOk answer (λ a. text_found forms.Lines (Err halt) a.ended a.text.items)
    → IfOk answer (λ a. Reports Is forms.Lines a.ended a.text.items)
answer-reported Is halt (Err error) is so = tt
answer-reported Is halt (Ok a) is so = reported Is halt a.ended a.text.items is so

-- what is shown of a live run is its response
pub responds : (live : Live) (form : Form) (found : Result (String Global) Halt) → Found (Shows live) form found
    → IfOk found (λ text. HasShallowValues live.texts live.run → read (string_bytes text) ≡ Some (value_with live.labels live.texts (answer live.run))) → Found (Responds live) form found
responds live form (Ok text) so reads = record { shows = so; utf8 = λ done. IsUtf8-string_bytes text; reads_back = λ done. reads }
responds live form (Err (halts.Refused refusal)) so reads = record { shows = so; utf8 = λ done. absurd (cc done); reads_back = λ done. absurd (cc done) }
responds live form (Err halts.Read) so reads = tt
responds live form (Err halts.OutOfMemory) so reads = tt
