-- Sessions whose calls that are taken are the same end alike.
use Rattle.std.proofs.Common.{◌≡◌, ◌∙◌, ◌==◌, ℕ, ◌≢◌, refl, sym, ap, subst, arith, true, false, eq-eqb, eqb-true, List, [], ◌∷◌, filter, Option, None, Some, inl, inr, codes}
use Rattle.std.proofs.lemmas.Bool.{cases_Bool, both_ways, true≢false}
use Rattle.std.specs.Prelude.{slice_set}
use Rattle.serde_json.specs.Data.{Data, null, string, number, unsigned, array, item, no_items, object, put, no_members}
use Rattle.odb_doc.specs.Headers.{HoldsHeaders}
use Rattle.odb_doc.specs.Members.{given}
use Rattle.odb_doc.specs.recorded.Outcomes.{AreOutcomesOf, ReadsAs, Recorded}
use Rattle.odb_doc.specs.declared.recorded.outcome.Outcome.{Outcome}
use Rattle.odb_check.specs.PlanGraph.{unit_of}
use Rattle.odb_sched.specs.run.State.{State, reported, started, started_unit, stopped}
use Rattle.odb_reply.specs.BodyTexts.{IsBody}
use Rattle.odb_reply.specs.BodyTexts.IsBody.{NoBody, Text}
use Rattle.odb_reply.proofs.JsonTextLemmas.{nothing_read}
use Rattle.odb_live.specs.Live.{Live, with_run, with_text}
use Rattle.odb_engine.proofs.MemoryLemmas.{one_value}
use Rattle.odb_calls.specs.Live.{IsPart, IsReported, IsReportedBody, Reports, Starts}
use Rattle.odb_calls.specs.Live.IsPart.{Absent as PartAbsent, Present as PartPresent}
use Rattle.odb_calls.specs.Live.IsReportedBody.{Absent as BodyAbsent, Present as BodyPresent}
use Rattle.odb_calls.specs.Live.Reports.{Taken as ReportTaken, Refused as ReportRefused, NoRequest as ReportUnknown, OutOfMemory as ReportOutOfMemory}
use Rattle.odb_calls.specs.Live.Starts.{Started, Refused as StartRefused, NoRequest as StartUnknown}
use Rattle.odb_calls.specs.Live.Takes.{Taken as OutcomeTaken, Refused as OutcomeRefused}
use Rattle.odb_calls.specs.Live.TakesBody.{Taken as BodyTaken, Refused as BodyRefused, OutOfMemory as BodyOutOfMemory}
use Rattle.odb_calls.specs.Units.{StartsUnit}
use Rattle.odb_calls.specs.Units.StartsUnit.{Started as UnitStarted, Refused as UnitRefused, NoRequest as UnitUnknown}
use Rattle.odb_calls.specs.Sessions.{AreAlike, Call, Start, StartUnit, Report, Stop, Part, Ask, Does, IsSession, is_taken}

-- ---- what a report says is one outcome

-- the law of odb_doc on what a value records
abbrev pub RecordsOne : Type 0
RecordsOne = (value : Data) (entries others : List Recorded) → AreOutcomesOf value entries → AreOutcomesOf value others → entries ≡ others

-- an element of `outcomes` with this status and these headers
abbrev element : Option Data → ℕ → Data
element None status = object (put (codes "id") (string []) (put (codes "status") (number (unsigned status)) no_members))
element (Some headers) status = object (put (codes "headers") headers (put (codes "id") (string []) (put (codes "status") (number (unsigned status)) no_members)))

reads_element : (headers : Option Data) (outcome : Outcome) → HoldsHeaders headers outcome.headers → outcome.body ≡ given None → ReadsAs (element headers outcome.status) ([], outcome)
reads_element None outcome held none = record { id = refl; status = refl; headers = held; body = sym none }
reads_element (Some headers) outcome held none = record { id = refl; status = refl; headers = held; body = sym none }

abbrev document : Option Data → ℕ → Data
document headers status = object (put (codes "outcomes") (array (item (element headers status) no_items)) no_members)

abbrev first_of : List Recorded → Outcome → Outcome
first_of [] other = other
first_of (entry ∷ entries) other = entry.1

same_outcome : RecordsOne → (headers : Option Data) (outcome other : Outcome) → outcome.status ≡ other.status → HoldsHeaders headers outcome.headers → HoldsHeaders headers other.headers → outcome.body ≡ given None → other.body ≡ given None → outcome ≡ other
same_outcome law headers outcome other status one two none also =
    let reads : ReadsAs (element headers outcome.status) ([], other) = subst (λ (n : ℕ). ReadsAs (element headers n) ([], other)) (sym status) (reads_element headers other two also) in
    ap (λ entries. first_of entries outcome) (law (document headers outcome.status) (([], outcome) ∷ []) (([], other) ∷ []) (reads_element headers outcome one none, tt) (reads, tt))

one_part : (bytes : List ℕ) (a b : Option Data) → IsPart bytes a → IsPart bytes b → a ≡ b
one_part bytes _ _ (PartAbsent empty) (PartAbsent also) = refl
one_part bytes _ _ (PartAbsent empty) (PartPresent e two) = absurd (nothing_read bytes e empty two.1.1)
one_part bytes _ _ (PartPresent d one) (PartAbsent empty) = absurd (nothing_read bytes d empty one.1.1)
one_part bytes _ _ (PartPresent d one) (PartPresent e two) = ap Some (one_value bytes d e one two)

one_outcome : RecordsOne → (status : ℕ) (headers : List ℕ) (outcome other : Outcome) → IsReported status headers outcome → IsReported status headers other → outcome ≡ other
one_outcome law status headers outcome other one two =
    let same : one.headers_value ≡ two.headers_value = one_part headers one.headers_value two.headers_value one.of_headers two.of_headers in
    let held : HoldsHeaders two.headers_value outcome.headers = subst (λ (o : Option Data). HoldsHeaders o outcome.headers) same one.parts.of_headers in
    same_outcome law two.headers_value outcome other (one.parts.of_status ∙ sym two.parts.of_status) held two.parts.of_headers one.parts.of_body two.parts.of_body

one_text : (bytes : List ℕ) (a b : Option (List ℕ)) → IsBody bytes a → IsBody bytes b → a ≡ b
one_text bytes _ _ (NoBody one) (NoBody two) = refl
one_text bytes _ _ (NoBody one) (Text d two other within) = absurd (other (one_value bytes d null two one))
one_text bytes _ _ (Text d one other within) (NoBody two) = absurd (other (one_value bytes d null one two))
one_text bytes _ _ (Text d one other within) (Text e two also same) = refl

no_text : (bytes : List ℕ) (a : Option (List ℕ)) → bytes ≡ [] → IsBody bytes a → a ≡ None
no_text bytes _ empty (NoBody one) = refl
no_text bytes _ empty (Text d one other within) = absurd (nothing_read bytes d empty one.1.1)

one_body : (bytes : List ℕ) (a b : Option (List ℕ)) → IsReportedBody bytes a → IsReportedBody bytes b → a ≡ b
one_body bytes a b (BodyAbsent empty none) (BodyAbsent also same) = none ∙ sym same
one_body bytes a b (BodyAbsent empty none) (BodyPresent two) = none ∙ sym (no_text bytes b empty two)
one_body bytes a b (BodyPresent one) (BodyAbsent empty none) = no_text bytes a empty one ∙ sym none
one_body bytes a b (BodyPresent one) (BodyPresent two) = one_text bytes a b one two

-- ---- what a call makes of a run

pub alike_same : (live other : Live) → live ≡ other → AreAlike live other
alike_same live other same = record { labels = ap (λ (l : Live). l.labels) same; texts = ap (λ (l : Live). l.texts) same; run = ap (λ (l : Live). l.run) same }

alike_sym : (live other : Live) → AreAlike live other → AreAlike other live
alike_sym live other same = record { labels = sym same.labels; texts = sym same.texts; run = sym same.run }

pub alike_trans : (live middle other : Live) → AreAlike live middle → AreAlike middle other → AreAlike live other
alike_trans live middle other one two = record { labels = one.labels ∙ two.labels; texts = one.texts ∙ two.texts; run = one.run ∙ two.run }

-- what has this run and these texts
abbrev IsMoved : Live → Live → State → List (Option (List ℕ)) → Type 0
IsMoved old new run texts = (new.labels ≡ old.labels) × (new.run ≡ run) × (new.texts ≡ texts)

moved_as : (old new : Live) (run : State) → new ≡ with_run old run → IsMoved old new run old.texts
moved_as old new run is = (ap (λ (l : Live). l.labels) is, ap (λ (l : Live). l.run) is, ap (λ (l : Live). l.texts) is)

alike_moved : (old new other final : Live) (run same_run : State) (texts same_texts : List (Option (List ℕ))) → AreAlike old other → IsMoved old new run texts → IsMoved other final same_run same_texts → run ≡ same_run → texts ≡ same_texts → AreAlike new final
alike_moved old new other final run same_run texts same_texts alike one two runs all = record {
  labels = one.0 ∙ alike.labels ∙ sym two.0;
  run = one.1 ∙ runs ∙ sym two.1;
  texts = one.2 ∙ all ∙ sym two.2;
}

start_is : (old new : Live) (i returned : ℕ) → returned ≡ 0 → Starts old new i returned → new ≡ with_run old (started old.run i)
start_is old new i returned done (Started within may is same) = same
start_is old new i returned done (StartRefused cause within first is same) = absurd (omega (arith, is, done))
start_is old new i returned done (StartUnknown past is same) = absurd (omega (arith, is, done))

unit_is : (old new : Live) (i returned : ℕ) → returned ≡ 0 → StartsUnit old new i returned → new ≡ with_run old (started_unit old.run (unit_of old.run.plan_graph i))
unit_is old new i returned done (UnitStarted within may is same) = same
unit_is old new i returned done (UnitRefused cause within first is same) = absurd (omega (arith, is, done))
unit_is old new i returned done (UnitUnknown past is same) = absurd (omega (arith, is, done))

record IsNoted (old new : Live) (i status : ℕ) (headers body : List ℕ) : Type 0 where
  outcome : Outcome
  text : Option (List ℕ)
  says : IsReported status headers outcome
  of_body : IsReportedBody body text
  is : new ≡ with_text (with_run old (reported old.run i outcome)) i text

report_is : (old new : Live) (i status : ℕ) (headers body : List ℕ) (returned : ℕ) → returned ≡ 0 → Reports old new i status headers body returned → IsNoted old new i status headers body
report_is old new i status headers body returned none (ReportTaken outcome within is (BodyTaken text of (OutcomeTaken may done same))) = record { outcome = outcome; text = text; says = is; of_body = of; is = same }
report_is old new i status headers body returned none (ReportTaken outcome within is (BodyTaken text of (OutcomeRefused cause first done same))) = absurd (omega (arith, done, none))
report_is old new i status headers body returned none (ReportTaken outcome within is (BodyRefused refusal bad done same)) = absurd (omega (arith, done, none))
report_is old new i status headers body returned none (ReportTaken outcome within is (BodyOutOfMemory some done same)) = absurd (omega (arith, done, none))
report_is old new i status headers body returned none (ReportRefused refusal within bad done same) = absurd (omega (arith, done, none))
report_is old new i status headers body returned none (ReportUnknown past done same) = absurd (omega (arith, done, none))
report_is old new i status headers body returned none (ReportOutOfMemory within some done same) = absurd (omega (arith, done, none))

noted_alike : RecordsOne → (old new other final : Live) (i status : ℕ) (headers body : List ℕ) → AreAlike old other → IsNoted old new i status headers body → IsNoted other final i status headers body → AreAlike new final
noted_alike law old new other final i status headers body alike one two =
    let same = one_outcome law status headers one.outcome two.outcome one.says two.says in
    let text = one_body body one.text two.text one.of_body two.of_body in
    alike_moved old new other final (reported old.run i one.outcome) (reported other.run i two.outcome) (slice_set old.texts i one.text) (slice_set other.texts i two.text) alike
    (ap (λ (l : Live). l.labels) one.is, ap (λ (l : Live). l.run) one.is, ap (λ (l : Live). l.texts) one.is)
    (ap (λ (l : Live). l.labels) two.is, ap (λ (l : Live). l.run) two.is, ap (λ (l : Live). l.texts) two.is)
    (ap (λ (s : State). reported s i one.outcome) alike.run ∙ ap (reported other.run i) same)
    (ap (λ (texts : List (Option (List ℕ))). slice_set texts i one.text) alike.texts ∙ ap (slice_set other.texts i) text)

-- a call that is taken makes the same of runs that are alike
step : RecordsOne → (call : Call) (old new other final : Live) → is_taken call ≡ true → AreAlike old other → Does call old new → Does call other final → AreAlike new final
step law (Start i returned) old new other final taken alike one two =
    let done : returned ≡ 0 = eqb-true returned 0 taken in
    alike_moved old new other final (started old.run i) (started other.run i) old.texts other.texts alike (moved_as old new (started old.run i) (start_is old new i returned done one))
    (moved_as other final (started other.run i) (start_is other final i returned done two)) (ap (λ (s : State). started s i) alike.run) alike.texts
step law (StartUnit i returned) old new other final taken alike one two =
    let done : returned ≡ 0 = eqb-true returned 0 taken in
    let after = λ (s : State). started_unit s (unit_of s.plan_graph i) in
    alike_moved old new other final (after old.run) (after other.run) old.texts other.texts alike (moved_as old new (after old.run) (unit_is old new i returned done one))
    (moved_as other final (after other.run) (unit_is other final i returned done two)) (ap after alike.run) alike.texts
step law (Report i status headers body returned) old new other final taken alike one two =
    let done : returned ≡ 0 = eqb-true returned 0 taken in
    noted_alike law old new other final i status headers body alike (report_is old new i status headers body returned done one) (report_is other final i status headers body returned done two)
step law Stop old new other final taken alike one two =
    alike_moved old new other final (stopped old.run) (stopped other.run) old.texts other.texts alike (moved_as old new (stopped old.run) one) (moved_as other final (stopped other.run) two) (ap stopped alike.run) alike.texts
step law (Part positions) old new other final taken alike one two = absurd (true≢false (sym taken))
step law Ask old new other final taken alike one two = absurd (true≢false (sym taken))

not_zero : (returned : ℕ) → (returned == 0) ≡ false → returned ≢ 0
not_zero returned fails same = both_ways (returned == 0) fails (eq-eqb returned 0 same)

-- any other call changes nothing but marks
stays : (call : Call) (old new : Live) → is_taken call ≡ false → Does call old new → AreAlike old new
stays (Start i returned) old new idle (Started within may is same) = absurd (not_zero returned idle is)
stays (Start i returned) old new idle (StartRefused cause within first is same) = alike_same old new (sym same)
stays (Start i returned) old new idle (StartUnknown past is same) = alike_same old new (sym same)
stays (StartUnit i returned) old new idle (UnitStarted within may is same) = absurd (not_zero returned idle is)
stays (StartUnit i returned) old new idle (UnitRefused cause within first is same) = alike_same old new (sym same)
stays (StartUnit i returned) old new idle (UnitUnknown past is same) = alike_same old new (sym same)
stays (Report i status headers body returned) old new idle (ReportTaken outcome within is (BodyTaken text of (OutcomeTaken may done same))) = absurd (not_zero returned idle done)
stays (Report i status headers body returned) old new idle (ReportTaken outcome within is (BodyTaken text of (OutcomeRefused cause first done same))) = alike_same old new (sym same)
stays (Report i status headers body returned) old new idle (ReportTaken outcome within is (BodyRefused refusal bad done same)) = alike_same old new (sym same)
stays (Report i status headers body returned) old new idle (ReportTaken outcome within is (BodyOutOfMemory some done same)) = alike_same old new (sym same)
stays (Report i status headers body returned) old new idle (ReportRefused refusal within bad done same) = alike_same old new (sym same)
stays (Report i status headers body returned) old new idle (ReportUnknown past done same) = alike_same old new (sym same)
stays (Report i status headers body returned) old new idle (ReportOutOfMemory within some done same) = alike_same old new (sym same)
stays Stop old new idle does = absurd (true≢false idle)
stays (Part positions) old new idle does = record { labels = sym (ap (λ (l : Live). l.labels) does); texts = sym (ap (λ (l : Live). l.texts) does); run = sym (ap (λ (l : Live). l.run) does) }
stays Ask old new idle does = alike_same old new (sym does)

-- ---- whole sessions

-- a session up to its first call that is taken, and what comes after
record Reaches (first : Live) (call : Call) (rest : List Call) (last : Live) : Type 0 where
  before : Live
  next : Live
  calls : List Call
  alike : AreAlike first before
  does : Does call before next
  session : IsSession next calls last
  same : filter is_taken calls ≡ rest

reach : (first last : Live) (calls : List Call) (call : Call) (rest : List Call) → IsSession first calls last → filter is_taken calls ≡ call ∷ rest → Reaches first call rest last
reach first last [] call rest session are = absurd (cc (are))
reach first last (c ∷ calls) call rest (next, does, more) are = elim (cases_Bool (is_taken c)) [
  | inl taken ↦
      let whole : c ∷ filter is_taken calls ≡ call ∷ rest = sym (rw taken refl) ∙ are in
      let head : c ≡ call = cc (whole) in
      record { before = first; next = next; calls = calls; alike = alike_same first first refl; does = subst (λ (x : Call). Does x first next) head does; session = more; same = cc (whole) }
  | inr idle ↦
      let later = reach next last calls call rest more (sym (rw idle refl) ∙ are) in
      record {
        before = later.before;
        next = later.next;
        calls = later.calls;
        alike = alike_trans first next later.before (stays c first next idle does) later.alike;
        does = later.does;
        session = later.session;
        same = later.same;
      }
]

-- a session in which no call is taken changes nothing
idle_all : (first last : Live) (calls : List Call) → IsSession first calls last → filter is_taken calls ≡ [] → AreAlike first last
idle_all first last [] session are = alike_same first last (sym session)
idle_all first last (c ∷ calls) (next, does, more) are = elim (cases_Bool (is_taken c)) [
  | inl taken ↦ let whole : c ∷ filter is_taken calls ≡ [] = sym (rw taken refl) ∙ are in absurd (cc (whole))
  | inr idle ↦ alike_trans first next last (stays c first next idle does) (idle_all next last calls more (sym (rw idle refl) ∙ are))
]

pub sessions_alike : RecordsOne → (first other last final : Live) (calls others : List Call) → AreAlike first other → IsSession first calls last → IsSession other others final → filter is_taken calls ≡ filter is_taken others → AreAlike last final
sessions_alike law first other last final [] others alike session more are =
    alike_trans last first final (alike_same last first session) (alike_trans first other final alike (idle_all other final others more (sym are)))
sessions_alike law first other last final (c ∷ calls) others alike (next, does, session) more are = elim (cases_Bool (is_taken c)) [
  | inl taken ↦
      let there = reach other final others c (filter is_taken calls) more (sym are ∙ rw taken refl) in
      sessions_alike law next there.next last final calls there.calls (step law c first next there.before there.next taken (alike_trans first other there.before alike there.alike) does there.does) session there.session (sym there.same)
  | inr idle ↦ sessions_alike law next other last final calls others (alike_trans next first other (alike_sym first next (stays c first next idle does)) alike) session more (sym (rw idle refl) ∙ are)
]
