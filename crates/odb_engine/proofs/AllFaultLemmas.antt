-- All faults of a batch document as they are printed.
use Rattle.std.proofs.Common.{◌≡◌, ◌∙◌, ◌↔◌, ◌<◌, ◌+◌, ◌⊎◌, ℕ, Bool, true, false, inl, inr, List, [], ◌∷◌, ◌++◌, length, take, get_or, map, Option, None, Some, IsSome, is_some, Result, Ok, Err, IfErr, IfOk, string_bytes, option_map, refl, sym, ap, subst, append-nil}
use Rattle.std.specs.List.{cons_option, filter_map}
use Rattle.std.proofs.lemmas.Bool.{false≢true}
use Rattle.std.proofs.lemmas.List.{map-append, take_more}
use Rattle.std.proofs.lemmas.List.Elements.{filter_map-append}
use Rattle.serde_json.specs.Data.{Data}
use Rattle.odb_doc.specs.Documents.{IsDocument}
use Rattle.odb_doc.specs.declared.fault.Place.TheVariants.{Batch}
use Rattle.odb_doc.specs.declared.fault.DocFault.{DocFault}
use Rattle.odb_doc.specs.declared.refusal.Refusal.{Refusal}
use Rattle.odb_doc.specs.Faults.{document_row}
use Rattle.odb_doc.specs.Refusals.{Printed, printed}
use Rattle.odb_doc.specs.batch.LeastFault.{IsWellShaped}
use Rattle.odb_doc.specs.batch.Records.{Record, IsBatchOf}
use Rattle.odb_doc.specs.batch.ShapeFaults.{AreShapeFaults}
use Rattle.odb_check.specs.FaultTable.{CheckFault, check_row}
use Rattle.odb_check.specs.AllNameFaults.{AreNameFaults}
use Rattle.odb_io.specs.Devices.{Writing}
use Rattle.odb_text.specs.Lines.{printed_at, unlocated}
use Rattle.odb_text.specs.declared.faults.Located.{Located}
use Rattle.odb_engine.specs.declared.tasks.answer.Answer.{Answer}
use Rattle.odb_engine.specs.declared.ending.Ended.{Ended}
use Rattle.odb_engine.specs.declared.ending.EngineFault.{EngineFault}
use Rattle.odb_engine.specs.declared.halt.Halt.{Halt}
use Rattle.odb_engine.specs.declared.halt.Halt.TheVariants as halts
use Rattle.odb_engine.specs.declared.ending.Ended.TheVariants.{Done, Refused}
use Rattle.odb_engine.specs.declared.form.Form.{Form}
use Rattle.odb_engine.specs.AllFaults.{AreFaultsIn, AreFaultsOf, Lists}
use Rattle.odb_engine.specs.Answered.{answer_found, listed_found, refused_text}
use Rattle.odb_engine.specs.Cascade.{RefusesBytes, Writes, WritesIn}
use Rattle.odb_engine.specs.Contents.{AreFaultsOfContent, Content, IsValueOf, RefusesContent}
use Rattle.odb_engine.specs.Contents.Content.{Bytes, Held}
use Rattle.odb_engine.specs.Forms.{fault_text}
use Rattle.odb_engine.specs.Halts.{Found, Halted, HaltsBy, is_refused}
use Rattle.odb_engine.specs.Engines.{Ends}
use Rattle.odb_engine.proofs.EngineLemmas.{Ends-weaker, FoundText, halt_in}

-- one more fault without where it is
pub unlocated-next : (refusals : List Refusal) (k : ℕ) (d : Refusal) (faults more : List Located) → k < length refusals → map printed_at faults ≡ map unlocated (map printed (take k refusals)) → more ≡ faults ++ (record { refusal = get_or refusals k d; position = None }) ∷ []
    → map printed_at more ≡ map unlocated (map printed (take (k + 1) refusals))
unlocated-next refusals k d faults more within are items =
    let last = get_or refusals k d in
    let next : map printed (take (k + 1) refusals) ≡ map printed (take k refusals) ++ printed last ∷ [] = ap (map printed) (take_more refusals k d within) ∙ map-append printed (take k refusals) (last ∷ []) in
    ap (map printed_at) items ∙ map-append printed_at faults ((record { refusal = last; position = None }) ∷ []) ∙ ap (λ before. before ++ unlocated (printed last) ∷ []) are
    ∙ sym (ap (map unlocated) next ∙ map-append unlocated (map printed (take k refusals)) (printed last ∷ []))

-- a fault that nothing is printed of has no row
pub no_row : (found : Option Refusal) (row : Option Printed) → ((refusal : Refusal) → found ≡ Some refusal → ⊥) → option_map printed found ≡ row → None ≡ row
no_row None row none is = is
no_row (Some refusal) row none is = absurd (none refusal refl)

-- one more fault that is printed, and one that is not
pub rows-some : {F : Type 0} (row : F → Option Printed) (faults : List F) (k : ℕ) (x : F) (found more : List Refusal) (refusal : Refusal) → k < length faults → x ≡ get_or faults k x
    → map printed found ≡ filter_map row (take k faults) → Some (printed refusal) ≡ row x → more ≡ found ++ refusal ∷ [] → map printed more ≡ filter_map row (take (k + 1) faults)
rows-some row faults k x found more refusal within is are has items =
    let last : filter_map row (take (k + 1) faults) ≡ filter_map row (take k faults) ++ cons_option (row (get_or faults k x)) [] =
    ap (filter_map row) (take_more faults k x within) ∙ filter_map-append row (take k faults) (get_or faults k x ∷ []) in
    let here : Some (printed refusal) ≡ row (get_or faults k x) = has ∙ ap row is in
    ap (map printed) items ∙ map-append printed found (refusal ∷ []) ∙ ap (λ before. before ++ printed refusal ∷ []) are
    ∙ ap (λ (o : Option Printed). filter_map row (take k faults) ++ cons_option o []) here ∙ sym last

pub rows-none : {F : Type 0} (row : F → Option Printed) (faults : List F) (k : ℕ) (x : F) (found : List Refusal) → k < length faults → x ≡ get_or faults k x
    → map printed found ≡ filter_map row (take k faults) → None ≡ row x → map printed found ≡ filter_map row (take (k + 1) faults)
rows-none row faults k x found within is are has =
    let last : filter_map row (take (k + 1) faults) ≡ filter_map row (take k faults) ++ cons_option (row (get_or faults k x)) [] =
    ap (filter_map row) (take_more faults k x within) ∙ filter_map-append row (take k faults) (get_or faults k x ∷ []) in
    let here : None ≡ row (get_or faults k x) = has ∙ ap row is in
    are ∙ sym (append-nil (filter_map row (take k faults))) ∙ ap (λ (o : Option Printed). filter_map row (take k faults) ++ cons_option o []) here ∙ sym last

pub faults-of-shape : (value : Data) (faults : List DocFault) (refusals : List Printed) → ¬ IsWellShaped value → AreShapeFaults value faults → refusals ≡ filter_map document_row faults → AreFaultsOf value refusals
faults-of-shape value faults refusals bad are is = inl (bad, record { faults = faults; are = are; is = is })

pub faults-of-names : (value : Data) (batch : List Record) (faults : List CheckFault) (refusals : List Printed) → IsWellShaped value → IsBatchOf value batch → AreNameFaults batch faults → refusals ≡ filter_map check_row faults
    → AreFaultsOf value refusals
faults-of-names value batch faults refusals shaped is_batch are is = inr (record { batch = batch; shaped = shaped; is_batch = is_batch; holds = record { faults = faults; are = are; is = is } })

pub faults-alone : (bytes : List ℕ) (refusal : Refusal) (found : List Refusal) → RefusesBytes Batch bytes (printed refusal) → found ≡ refusal ∷ [] → AreFaultsIn bytes (map printed found)
faults-alone bytes refusal found refuses is = inl (record { refusal = printed refusal; refuses = refuses; is = ap (map printed) is })

pub faults-inside : (bytes : List ℕ) (value : Data) (refusals : List Printed) → IsDocument bytes value → AreFaultsOf value refusals → AreFaultsIn bytes refusals
faults-inside bytes value refusals document are = inr (record { value = value; document = document; holds = are })

-- what is written of an answer may be written
answer-written : (P : Writes) (found : Result Answer Halt) → IfOk found (λ answer. P answer.ended answer.text.items) → (ended : Ended) (text : List ℕ) → answer_found found ended text → P ended text
answer-written P (Ok answer) so ended text (ends, same) = subst (λ e. P e text) (sym ends) (subst (P answer.ended) (sym same) so)
answer-written P (Err halt) so ended text none = absurd none

-- an engine that ends by an answer
pub ends-answered : {W : Type 0} (contents : W → Option (List ℕ)) (P : Writes) (ReadFailed : Type 0) (old new : Writing W) (found : Result Answer Halt) (result : Result Ended EngineFault)
    → IfOk found (λ answer. P answer.ended answer.text.items) → ((found ≡ Err halts.Read) ↔ ReadFailed) → Ends contents (answer_found found) (found ≡ Err halts.Read) old new result → Ends contents P ReadFailed old new result
ends-answered contents P ReadFailed old new found result so read is = Ends-weaker contents (answer_found found) P _ ReadFailed old new result (answer-written P found so) read is

-- ---- the faults that a command lists

-- the list of the fault of the bytes
pub one-listed : (content : Content) (refusal : Printed) (listed : List Printed) → RefusesContent Batch content refusal → listed ≡ refusal ∷ [] → AreFaultsOfContent content listed
one-listed (Bytes bytes) refusal listed refuses is = inl (record { refusal = refusal; refuses = refuses; is = is })
one-listed (Held value) refusal listed refuses is = absurd refuses

pub halt-listed : (content : Content) (halt : Halt) (listed : List Printed) → Halted (RefusesContent Batch content) halt → Halted (λ refusal. listed ≡ refusal ∷ []) halt → Halted (λ _. AreFaultsOfContent content listed) halt
halt-listed content (halts.Refused refusal) listed refuses is = one-listed content (printed refusal) listed refuses is
halt-listed content halts.Read listed refuses is = tt
halt-listed content halts.OutOfMemory listed refuses is = tt

faults-of-content : (content : Content) (value : Data) (listed : List Printed) → IsValueOf content value → AreFaultsOf value listed → AreFaultsOfContent content listed
faults-of-content (Bytes bytes) value listed is are = inr (record { value = value; document = is; holds = are })
faults-of-content (Held held) value listed is are = subst (λ (v : Data). AreFaultsOf v listed) is are

-- the list of the faults of the value
pub value-listed : (content : Content) (value : Data) (listed : List Printed) (r : FoundText) → IsValueOf content value → IfErr r (Halted (λ _. AreFaultsOf value listed)) → IfErr r (Halted (λ _. AreFaultsOfContent content listed))
value-listed content value listed (Ok text) is are = tt
value-listed content value listed (Err (halts.Refused refusal)) is are = faults-of-content content value listed is are
value-listed content value listed (Err halts.Read) is are = tt
value-listed content value listed (Err halts.OutOfMemory) is are = tt

-- a command that writes of each batch is not refused
pub never-refused : (P : WritesIn) (Is : Printed → Type 0) (form : Form) (r : FoundText) → Found P form r → ((text : List ℕ) → ¬ P form Refused text) → IfErr r (Halted Is)
never-refused P Is form (Ok text) found never = tt
never-refused P Is form (Err (halts.Refused refusal)) found never = absurd (never (fault_text form (printed refusal)) found)
never-refused P Is form (Err halts.Read) found never = tt
never-refused P Is form (Err halts.OutOfMemory) found never = tt

-- ---- what is written of them

lists-written : (all : Bool) (P : WritesIn) (Are : List Printed → Type 0) (form : Form) (refusals : List Printed) (refusal : Printed) (ended : Ended) (text : List ℕ) → P form Refused (fault_text form refusal) → (all ≡ true → Are refusals)
    → ended ≡ Refused → text ≡ refused_text all form refusals refusal → Lists all P Are form ended text
lists-written false P Are form refusals refusal ended text so are ends prints = subst (λ e. P form e text) (sym ends) (subst (P form Refused) (sym prints) so)
lists-written true P Are form refusals refusal ended text so are ends prints = inr (record { line = _; refused = so; refusals = refusals; all = are refl; ends = ends; prints = prints })

lists-done : (all : Bool) (P : WritesIn) (Are : List Printed → Type 0) (form : Form) (ended : Ended) (text line : List ℕ) → P form Done line → ended ≡ Done → text ≡ line → Lists all P Are form ended text
lists-done false P Are form ended text line so ends same = subst (λ e. P form e text) (sym ends) (subst (P form Done) (sym same) so)
lists-done true P Are form ended text line so ends same = inl (ends, subst (P form Done) (sym same) so)

-- what is written of what was found is what may be written, with all faults if they are listed
pub lists-found : (all : Bool) (P : WritesIn) (Are : List Printed → Type 0) (form : Form) (refusals : List Printed) (found : FoundText) → Found P form found → (all ≡ true → IfErr found (Halted (λ _. Are refusals)))
    → (ended : Ended) (text : List ℕ) → listed_found all form refusals found ended text → Lists all P Are form ended text
lists-found all P Are form refusals (Ok found) so are ended text (ends, same) = lists-done all P Are form ended text (string_bytes found) so ends same
lists-found all P Are form refusals (Err (halts.Refused refusal)) so are ended text (ends, prints) = lists-written all P Are form refusals (printed refusal) ended text so are ends prints
lists-found all P Are form refusals (Err halts.Read) so are ended text none = absurd none
lists-found all P Are form refusals (Err halts.OutOfMemory) so are ended text none = absurd none

-- what a command writes may be written in more cases
pub lists-weaker : (all : Bool) (P Q : WritesIn) (Are : List Printed → Type 0) (form : Form) → ((ended : Ended) (text : List ℕ) → P form ended text → Q form ended text) → (ended : Ended) (text : List ℕ) → Lists all P Are form ended text → Lists all Q Are form ended text
lists-weaker false P Q Are form to ended text so = to ended text so
lists-weaker true P Q Are form to ended text (inl (ends, so)) = inl (ends, to Done text so)
lists-weaker true P Q Are form to ended text (inr is) = inr (record { line = is.line; refused = to Refused is.line is.refused; refusals = is.refusals; all = is.all; ends = is.ends; prints = is.prints })

-- an answer that is written so
pub lists-in : {E : Type 0} (all : Bool) (P : WritesIn) (Are : List Printed → Type 0) (form : Form) (refusals : List Printed) (found : FoundText) (result : Result Answer E) → Found P form found → (all ≡ true → IfErr found (Halted (λ _. Are refusals)))
    → IfOk result (λ answer. listed_found all form refusals found answer.ended answer.text.items) → IfOk result (λ answer. Lists all P Are form answer.ended answer.text.items)
lists-in all P Are form refusals found (Ok answer) so are is = lists-found all P Are form refusals found so are answer.ended answer.text.items is
lists-in all P Are form refusals found (Err error) so are is = tt

-- ---- a fault that is noted

-- the halt, or out of memory for its fault
abbrev pub IsNoted : Halt → Halt → Type 0
IsNoted halt other = (other ≡ halt) ⊎ ((other ≡ halts.OutOfMemory) × (is_refused halt ≡ true))

pub noted-halted : (Is : Printed → Type 0) (halt other : Halt) → IsNoted halt other → Halted Is halt → Halted Is other
noted-halted Is halt other (inl same) so = subst (Halted Is) (sym same) so
noted-halted Is halt other (inr (memory, refused)) so = subst (Halted Is) (sym memory) tt

pub noted-read : {A B : Type 0} (first : Result A Halt) (result : Result B Halt) (halt other : Halt) (Failed : Type 0) → first ≡ Err halt → result ≡ Err other → IsNoted halt other → ((first ≡ Err halts.Read) ↔ Failed) → (result ≡ Err halts.Read) ↔ Failed
noted-read first result halt other Failed is too (inl same) read = (
  λ e. read.0 (is ∙ ap Err (sym same ∙ sym (ap halt_in too) ∙ ap halt_in e)),
  λ f. too ∙ ap Err (same ∙ sym (ap halt_in is) ∙ ap halt_in (read.1 f)),
)
noted-read first result halt other Failed is too (inr (memory, refused)) read = (
  λ e. let none : halts.OutOfMemory ≡ halts.Read = sym memory ∙ sym (ap halt_in too) ∙ ap halt_in e in absurd (cc (none)),
  λ f. let read_halt : halt ≡ halts.Read = sym (ap halt_in is) ∙ ap halt_in (read.1 f) in absurd (false≢true (subst (λ (h : Halt). is_refused h ≡ true) read_halt refused)),
)

-- what holds of a halt by a fault
pub halted-of : (So : Type 0) (halt : Halt) → is_refused halt ≡ true → Halted (λ _. So) halt → So
halted-of So (halts.Refused refusal) refused so = so
halted-of So halts.Read refused so = absurd (false≢true refused)
halted-of So halts.OutOfMemory refused so = absurd (false≢true refused)

-- a fault that has a row
pub refused-row : (row : Option Printed) (halt : Halt) → HaltsBy row halt → is_refused halt ≡ true → IsSome row
refused-row row (halts.Refused refusal) by refused = ap is_some by
refused-row row halts.Read by refused = absurd by
refused-row row halts.OutOfMemory by refused = absurd (false≢true refused)
