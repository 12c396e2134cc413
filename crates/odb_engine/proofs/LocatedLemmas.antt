-- Faults with where they are, and what is written of two documents.
use Rattle.std.proofs.Common.{◌≡◌, ◌∙◌, ◌<◌, ◌+◌, ℕ, zero, suc, arith, Bool, true, false, List, [], ◌∷◌, ◌++◌, length, take, get_or, map, cond, Option, None, Some, Result, Ok, Err, IfErr, IfOk, option_map, IsSomeAnd, inl, inr, ◌⊎◌, is_some, refl, sym, ap, subst}
use Rattle.std.specs.List.{All, AllZip}
use Rattle.std.proofs.lemmas.List.{map-append, take_more}
use Rattle.std.proofs.lemmas.List.Elements.{All-nil, All-append, All-cons}
use Rattle.serde_json.specs.Data.{Data}
use Rattle.odb_doc.specs.declared.fault.DocFault.{DocFault}
use Rattle.odb_doc.specs.declared.fault.DocFault.TheVariants as doc_faults
use Rattle.odb_doc.specs.declared.fault.Place.{Place}
use Rattle.odb_doc.specs.declared.fault.Place.TheVariants.{Batch}
use Rattle.odb_doc.specs.declared.refusal.Refusal.{Refusal}
use Rattle.odb_doc.specs.Faults.{document_row}
use Rattle.odb_doc.specs.Refusals.{Printed, printed}
use Rattle.odb_check.specs.FaultTable.{CheckFault, check_row}
use Rattle.odb_doc.specs.declared.rule_fault.RuleFault.TheVariants as check_faults
use Rattle.odb_spans.specs.Positions.{Stands, is_in_batch}
use Rattle.odb_spans.specs.declared.position.Position.{Position}
use Rattle.odb_text.specs.Lines.{PrintedAt, printed_at}
use Rattle.odb_text.specs.declared.faults.Located.{Located}
use Rattle.odb_doc.specs.batch.Records.{Record}
use Rattle.odb_engine.specs.declared.ending.Ended.{Ended}
use Rattle.odb_engine.specs.declared.ending.Ended.TheVariants.{Done, Refused}
use Rattle.odb_engine.specs.declared.form.Form.{Form}
use Rattle.odb_engine.specs.declared.halt.Halt.TheVariants as halts
use Rattle.odb_doc.specs.batch.LeastFault.{IsLeastFault}
use Rattle.odb_engine.specs.Cascade.{HasFault, WritesIn, at_place}
use Rattle.odb_engine.specs.Contents.{AreFaultsOfContent, Content, IsBytesOf, OfBatch, RefusesContent, bytes_in, given_of}
use Rattle.odb_engine.specs.Contents.Content.{Bytes, Held}
use Rattle.odb_engine.specs.AllFaults.{AreFaultsIn}
use Rattle.odb_engine.specs.Forms.{fault_text}
use Rattle.odb_engine.specs.Tasks.{OfLine, lists_all, takes_second}
use Rattle.odb_engine.specs.declared.tasks.task.Task.{Task}
use Rattle.odb_engine.specs.lines.Numbers.{OfLocated}
use Rattle.odb_engine.specs.declared.tasks.answer.Answer.{Answer}
use Rattle.odb_engine.specs.Halts.{Found, Halted, RefusesNamesOf}
use Rattle.odb_engine.specs.Answered.{HasSecond, LocatesEither, LocatesFault, LocatesFound, LocatesRefused, PrintsFound}
use Rattle.odb_engine.specs.Located.{AreLocated, HasPosition, LocatesBoth, OfContents, numbered}
use Rattle.odb_engine.proofs.EngineLemmas.{FoundText, err-all}
use Rattle.odb_engine.proofs.AllFaultLemmas.{lists-in}
use Rattle.odb_engine.proofs.SourceLemmas.{same-content}

-- one more fault that is located
pub located-next : (number : Option ℕ) (document : List ℕ) (refusals : List Refusal) (k : ℕ) (d : Refusal) (faults more : List Located) (fault : Located) → k < length refusals
    → AreLocated number document (map printed (take k refusals)) (map printed_at faults) → fault.refusal ≡ get_or refusals k d → IsSomeAnd fault.position (HasPosition number false document (get_or refusals k d).place) → more ≡ faults ++ fault ∷ []
    → AreLocated number document (map printed (take (k + 1) refusals)) (map printed_at more)
located-next number document refusals k d faults more fault within before is position items =
    let IsPlaced : PrintedAt → Type 0 = λ shown. IsSomeAnd shown.position (HasPosition number false document shown.refusal.place) in
    let here : IsPlaced (printed_at fault) = subst (λ (r : Refusal). IsSomeAnd fault.position (HasPosition number false document r.place)) (sym is) position in
    let all : map printed_at more ≡ map printed_at faults ++ printed_at fault ∷ [] = ap (map printed_at) items ∙ map-append printed_at faults (fault ∷ []) in
    let named : map printed (take (k + 1) refusals) ≡ map printed (take k refusals) ++ printed (get_or refusals k d) ∷ [] = ap (map printed) (take_more refusals k d within) ∙ map-append printed (take k refusals) (get_or refusals k d ∷ []) in
    record {
      are =
          ap (map (λ (shown : PrintedAt). shown.refusal)) all ∙ map-append (λ (shown : PrintedAt). shown.refusal) (map printed_at faults) (printed_at fault ∷ []) ∙ ap (λ (xs : List Printed). xs ++ printed fault.refusal ∷ []) before.are
          ∙ ap (λ (r : Refusal). map printed (take k refusals) ++ printed r ∷ []) is ∙ sym named;
      positions = subst (All IsPlaced) (sym all) (All-append IsPlaced (map printed_at faults) (printed_at fault ∷ []) before.positions (All-cons IsPlaced (printed_at fault) [] here (All-nil IsPlaced)));
    }

-- R holds of the elements at a place of two lists
zip-at : {A B : Type 0} (R : A → B → Type 0) (xs : List A) (ys : List B) (k : ℕ) (d : A) (e : B) → AllZip R xs ys → k < length xs → R (get_or xs k d) (get_or ys k e)
zip-at R [] ys k d e zip within = absurd (omega (arith, within))
zip-at R (x ∷ xs) [] k d e zip within = absurd zip
zip-at R (x ∷ xs) (y ∷ ys) zero d e zip within = zip.0
zip-at R (x ∷ xs) (y ∷ ys) (suc k) d e zip within = zip-at R xs ys k d e zip.1 (omega (arith, within))

-- the position of a fault, as it is printed
pub position-at : (number : Option ℕ) (document : List ℕ) (refusals : List Refusal) (positions : List Position) (k : ℕ) (d : Refusal) (e : Position) (shown : Position) → AllZip (λ (refusal : Refusal). Stands document refusal.place) refusals positions → k < length refusals
    → shown ≡ numbered number (get_or positions k e) → HasPosition number false document (get_or refusals k d).place shown
position-at number document refusals positions k d e shown stand within is = record { found = get_or positions k e; stands = zip-at (λ (refusal : Refusal). Stands document refusal.place) refusals positions k d e stand within; is = is }

-- no fault yet
pub located-none : (number : Option ℕ) (document : List ℕ) → AreLocated number document [] []
located-none number document = record { are = refl; positions = All-nil (λ (shown : PrintedAt). IsSomeAnd shown.position (HasPosition number false document shown.refusal.place)) }

-- ---- the least fault of a batch document is in it

-- the place of what is printed of a fault, if anything is
abbrev place_of : Option Printed → Place
place_of None = Batch
place_of (Some refusal) = refusal.place

row-place : (row : Option Printed) (refusal : Printed) → row ≡ Some refusal → is_in_batch (place_of row) ≡ true → is_in_batch refusal.place ≡ true
row-place row refusal is inside = subst (λ (o : Option Printed). is_in_batch (place_of o) ≡ true) is inside

bytes-row : (row : Option Printed) → is_in_batch (place_of (option_map (at_place Batch) row)) ≡ true
bytes-row None = refl
bytes-row (Some refusal) = refl

shape-row : (fault : DocFault) → is_in_batch (place_of (document_row fault)) ≡ true
shape-row (doc_faults.Document rule) = refl
shape-row (doc_faults.Request at rule) = refl
shape-row doc_faults.OutOfMemory = refl

name-row : (fault : CheckFault) → is_in_batch (place_of (check_row fault)) ≡ true
name-row (check_faults.Broken at rule) = refl
name-row check_faults.OutOfMemory = refl

pub shape-place : (value : Data) (refusal : Printed) → HasFault IsLeastFault document_row value refusal → is_in_batch refusal.place ≡ true
shape-place value refusal has = row-place (document_row has.fault) refusal has.is (shape-row has.fault)

pub name-place : (batch : List Record) (refusal : Printed) → RefusesNamesOf batch refusal → is_in_batch refusal.place ≡ true
name-place batch refusal has = row-place (check_row has.fault) refusal has.is (name-row has.fault)

pub bytes-place : (content : Content) (refusal : Printed) → RefusesContent Batch content refusal → is_in_batch refusal.place ≡ true
bytes-place (Bytes bytes) refusal has = row-place (option_map (at_place Batch) (document_row has.fault)) refusal has.is (bytes-row (document_row has.fault))
bytes-place (Held value) refusal none = absurd none

-- ---- what is written of what was found

module _ (two : Bool) (number : Option ℕ) (is_pair : Bool) (P : WritesIn) (Are : List Printed → Type 0) (form : Form) (batch_name batch second_name second : List ℕ) (faults : List Printed) where
  -- the result
  locates-done : (all : Bool) (ended : Ended) (text : List ℕ) → ended ≡ Done → P form Done text → LocatesBoth all two number is_pair P Are batch_name batch second_name second form ended text
  locates-done all ended text ends so = at all two
    where
      at : (all two : Bool) → LocatesBoth all two number is_pair P Are batch_name batch second_name second form ended text
      at true two = inl (ends, so)
      at false true = inl (ends, so)
      at false false = inl (ends, so)

  -- the fault, or all faults
  locates-refused : (all : Bool) (refusal : Printed) (ended : Ended) (text : List ℕ) → P form Refused (fault_text form refusal) → (all ≡ true → Are faults) → LocatesRefused all two number is_pair form batch_name batch second_name second faults refusal ended text
      → LocatesBoth all two number is_pair P Are batch_name batch second_name second form ended text
  locates-refused all refusal ended text so = at all two
    where
      at : (all two : Bool) → (all ≡ true → Are faults) → LocatesRefused all two number is_pair form batch_name batch second_name second faults refusal ended text
          → LocatesBoth all two number is_pair P Are batch_name batch second_name second form ended text
      at true two are is = inr (record { line = _; refused = so; refusals = faults; all = are refl; prints = is })
      at false true are is = inr (record { refusal = refusal; fits = is.fits; reported = so; name = _; position = is.position; is_at = (refl, is.is_at); ends = is.ends; prints = is.prints })
      at false false are is = inr (record { refusal = refusal; fits = is.fits; reported = so; name = _; position = is.position; is_at = (refl, is.is_at); ends = is.ends; prints = is.prints })

-- the second document has these bytes, if there is one that a fault is in
kept-second : (all : Bool) (place : Option Place) (number : Option ℕ) (is_pair : Bool) (content : Content) (form : Form) (batch_name batch second_name second : List ℕ) (faults : List Printed) (refusal : Printed) (ended : Ended) (text : List ℕ)
    → (is_in_batch refusal.place ≡ true) ⊎ HasSecond place content second → LocatesRefused all (is_some place) number is_pair form batch_name batch second_name second faults refusal ended text
    → LocatesRefused all (is_some place) number is_pair form batch_name batch second_name (bytes_in content) faults refusal ended text
kept-second true place number is_pair content form batch_name batch second_name second faults refusal ended text has is = is
kept-second false None number is_pair content form batch_name batch second_name second faults refusal ended text has is = is
kept-second false (Some place) number is_pair content form batch_name batch second_name second faults refusal ended text (inl inside) is =
    subst (λ (b : Bool). LocatesFault (Stands (cond b batch (bytes_in content)) refusal.place) form (cond b batch_name second_name) refusal ended text) (sym inside)
    (subst (λ (b : Bool). LocatesFault (Stands (cond b batch second) refusal.place) form (cond b batch_name second_name) refusal ended text) inside is)
kept-second false (Some place) number is_pair content form batch_name batch second_name second faults refusal ended text (inr same) is =
    subst (λ (bytes : List ℕ). LocatesEither form batch_name batch second_name bytes refusal ended text) (same-content content second same) is

-- by the bytes that are kept of the documents
module _ (all : Bool) (place : Option Place) (number : Option ℕ) (is_pair : Bool) (P : WritesIn) (Are : List Printed → Type 0) (form : Form) (batch_name : List ℕ) (content : Content) (batch second_name : List ℕ) (other : Content) (second : List ℕ) (faults : List Printed) where
  -- where a fault is, the bytes are those of the documents
  abbrev AreKept : Printed → Type 0
  AreKept refusal = IsBytesOf content batch × ((is_in_batch refusal.place ≡ true) ⊎ HasSecond place other second)

  abbrev two : Bool
  two = is_some place

  locates-found : (found : FoundText) → Found P form found → (all ≡ true → IfErr found (Halted (λ refusal. Are faults))) → IfErr found (Halted AreKept) → (ended : Ended) (text : List ℕ)
      → LocatesFound all two number is_pair form batch_name batch second_name second faults found ended text → LocatesBoth all two number is_pair P Are batch_name (bytes_in content) second_name (bytes_in other) form ended text
  locates-found (Ok found) so are kept ended text (ends, same) = locates-done two number is_pair P Are form batch_name (bytes_in content) second_name (bytes_in other) faults all ended text ends (subst (P form Done) (sym same) so)
  locates-found (Err (halts.Refused refusal)) so are kept ended text is =
      locates-refused two number is_pair P Are form batch_name (bytes_in content) second_name (bytes_in other) faults all (printed refusal) ended text so are
      (subst (λ (bytes : List ℕ). LocatesRefused all two number is_pair form batch_name bytes second_name (bytes_in other) faults (printed refusal) ended text) (same-content content batch kept.0)
      (kept-second all place number is_pair other form batch_name batch second_name second faults (printed refusal) ended text kept.1 is))
  locates-found (Err halts.Read) so are kept ended text none = absurd none
  locates-found (Err halts.OutOfMemory) so are kept ended text none = absurd none

  -- an answer that is printed so
  pub located-in : {E : Type 0} (found : FoundText) (result : Result Answer E) → Found P form found → (all ≡ true → IfErr found (Halted (λ refusal. Are faults))) → IfErr found (Halted AreKept)
      → IfOk result (λ answer. LocatesFound all two number is_pair form batch_name batch second_name second faults found answer.ended answer.text.items)
      → IfOk result (λ answer. LocatesBoth all two number is_pair P Are batch_name (bytes_in content) second_name (bytes_in other) form answer.ended answer.text.items)
  located-in found (Ok answer) so are kept is = locates-found found so are kept answer.ended answer.text.items is
  located-in found (Err error) so are kept is = tt

-- what is printed of what was found of both documents of a command
pub contents-in : {E : Type 0} (located all : Bool) (place : Option Place) (writes : List ℕ → Data → List Record → WritesIn) (form : Form) (batch_name : List ℕ) (content : Content) (batch second_name : List ℕ) (other : Content) (second : List ℕ) (faults : List Printed) (found : FoundText) (result : Result Answer E)
    → Found (OfBatch place writes (given_of other) content) form found → (all ≡ true → IfErr found (Halted (λ refusal. AreFaultsOfContent content faults)))
    → (located ≡ true → IfErr found (Halted (λ refusal. IsBytesOf content batch × ((is_in_batch refusal.place ≡ true) ⊎ HasSecond place other second))))
    → IfOk result (λ answer. PrintsFound located all (is_some place) None false form batch_name batch second_name second faults found answer.ended answer.text.items)
    → IfOk result (λ answer. OfContents located all place writes batch_name content second_name other form answer.ended answer.text.items)
contents-in false all place writes form batch_name content batch second_name other second faults found result so are kept is = lists-in all (OfBatch place writes (given_of other) content) (AreFaultsOfContent content) form faults found result so are is
contents-in true all place writes form batch_name content batch second_name other second faults found result so are kept is =
    located-in all place None false (OfBatch place writes (given_of other) content) (AreFaultsOfContent content) form batch_name content batch second_name other second faults found result so are (kept refl) is

-- and of a line
pub line-in : {E : Type 0} (located : Bool) (task : Task) (form : Form) (name : List ℕ) (number : ℕ) (line : List ℕ) (faults : List Printed) (found : FoundText) (result : Result Answer E)
    → Found (OfLine task line) form found → (lists_all task ≡ true → IfErr found (Halted (λ refusal. AreFaultsIn line faults)))
    → IfOk result (λ answer. PrintsFound located (lists_all task) false (Some number) (takes_second task) form name line [] [] faults found answer.ended answer.text.items)
    → IfOk result (λ answer. OfLocated located name task number line form answer.ended answer.text.items)
line-in false task form name number line faults found result so are is = lists-in (lists_all task) (OfLine task line) (AreFaultsIn line) form faults found result so are is
line-in true task form name number line faults found result so are is =
    located-in (lists_all task) None (Some number) (takes_second task) (OfLine task line) (AreFaultsIn line) form name (Bytes line) line [] (Bytes []) [] faults found result so are (err-all (λ (refusal : Printed). (line ≡ line) × ((is_in_batch refusal.place ≡ true) ⊎ HasSecond None (Bytes []) [])) (λ refusal. (refl, inr tt)) found) is
