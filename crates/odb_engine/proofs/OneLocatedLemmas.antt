-- What is written with where the faults are is one text, if the documents in which they are found are JSON.
use Rattle.std.proofs.Common.{◌≡◌, ◌∙◌, ℕ, Bool, true, false, true≢false, cond, List, [], length, drop, Option, None, Some, inl, inr, refl, sym, ap, subst, arith}
use Rattle.std.proofs.lemmas.Bool.{cases_lt}
use Rattle.serde_json.specs.Data.{Data}
use Rattle.memchr.specs.Find.{IsFirst, Passes, is_byte}
use Rattle.odb_doc.specs.Documents.{IsJson}
use Rattle.odb_doc.specs.Refusals.{Printed}
use Rattle.odb_doc.specs.declared.fault.Place.{Place}
use Rattle.odb_spans.specs.Positions.{BeginAlike, Stands, StandsInPair, is_in_batch}
use Rattle.odb_spans.specs.declared.position.Position.{Position}
use Rattle.odb_engine.specs.declared.ending.Ended.{Ended}
use Rattle.odb_engine.specs.declared.ending.Ended.TheVariants.{Done, Refused}
use Rattle.odb_engine.specs.declared.form.Form.{Form}
use Rattle.odb_engine.specs.declared.tasks.task.Task.{Task}
use Rattle.odb_engine.specs.AllFaults.{AreFaultsIn}
use Rattle.odb_engine.specs.Cascade.{IsOne, WritesIn}
use Rattle.odb_engine.specs.Contents.Given.{InMemory}
use Rattle.odb_engine.specs.Located.{HasPosition, IsInDocument, IsInEither, LocatesAll, LocatesBoth, LocatesDocuments, LocatesLine, PrintsAll, StandsIn, numbered}
use Rattle.odb_engine.specs.lines.Numbers.{HasNumber, OfLocated, OfNumbered, StartsWords, after_blank, numbered_text}
use Rattle.odb_engine.specs.Tasks.{OfLine, lists_all, takes_second}
use Rattle.odb_engine.proofs.ListLawLemmas.{all-faults-one}
use Rattle.odb_engine.proofs.TaskLawLemmas.{AreOneText, answers-one, line-one, of-line-one as task-line-one}
use Rattle.odb_engine.proofs.LocatedTextLemmas.{BeginsOnce, IsOnePlace, IsRead, all-listed, all-same, done-refused, locates-one}

-- ---- where a fault is in documents that are JSON

-- the laws of positions that a located text stands on
pub record ArePositions : Type 0 where
  pub document : (document : List ℕ) (d : Data) (place : Place) (one other : Position) → IsJson document d → Stands document place one → Stands document place other → BeginAlike one other
  pub line : (line : List ℕ) (d : Data) (place : Place) (one other : Position) → IsJson line d → StandsInPair line place one → StandsInPair line place other → BeginAlike one other

stands-once : ArePositions → (is_pair : Bool) (document : List ℕ) (d : Data) (place : Place) (p q : Position) → IsJson document d → StandsIn is_pair document place p → StandsIn is_pair document place q → BeginAlike p q
stands-once law false document d place p q json here there = law.document document d place p q json here there
stands-once law true document d place p q json here there = law.line document d place p q json here there

number-alike : (number : Option ℕ) (p q : Position) → BeginAlike p q → BeginAlike (numbered number p) (numbered number q)
number-alike None p q alike = alike
number-alike (Some n) p q alike = record { line = refl; column = alike.column; offset = alike.offset }

moved : (number : Option ℕ) (p q found other : Position) → p ≡ numbered number found → q ≡ numbered number other → BeginAlike found other → BeginAlike p q
moved number p q found other is too alike =
    let are = number-alike number found other alike in
    subst (λ a. BeginAlike a q) (sym is) (subst (BeginAlike (numbered number found)) (sym too) are)

position-once : ArePositions → (number : Option ℕ) (is_pair : Bool) (document : List ℕ) (d : Data) → IsJson document d → BeginsOnce (HasPosition number is_pair document)
position-once law number is_pair document d json place p q here there =
    moved number p q here.found there.found here.is there.is (stands-once law is_pair document d place here.found there.found json here.stands there.stands)

document-once : ArePositions → (name : List ℕ) (number : Option ℕ) (is_pair : Bool) (document : List ℕ) (d : Data) → IsJson document d → IsOnePlace (IsInDocument name number is_pair document)
document-once law name number is_pair document d json place one other p q here there = (here.0 ∙ sym there.0, position-once law number is_pair document d json place p q here.1 there.1)

-- the one of two documents is JSON
abbrev HasJson : List ℕ → Type 0
HasJson document = (d : Data) × IsJson document d

json-of : (b : Bool) (batch second : List ℕ) → HasJson batch → HasJson second → HasJson (cond b batch second)
json-of true batch second here there = here
json-of false batch second here there = there

either-once : ArePositions → (batch_name batch second_name second : List ℕ) → HasJson batch → HasJson second → IsOnePlace (IsInEither batch_name batch second_name second)
either-once law batch_name batch second_name second here there place one other p q is too =
    let json = json-of (is_in_batch place) batch second here there in
    (is.0 ∙ sym too.0, law.document (cond (is_in_batch place) batch second) json.0 place p q json.1 is.1 too.1)

-- ---- what is written of the documents, or of a line

-- one text is written of the same faults
prints-one : ArePositions → (number : Option ℕ) (document : List ℕ) (d : Data) → IsJson document d → (name : List ℕ) (form : Form) (refusals others : List Printed) (a b : Ended) (s t : List ℕ) → refusals ≡ others
    → PrintsAll name number document form refusals a s → PrintsAll name number document form others b t → (a ≡ b) × (s ≡ t)
prints-one law number document d json name form refusals others a b s t same x y =
    let At : Place → Position → Type 0 = HasPosition number false document in
    let once = position-once law number false document d json in
    let are = all-same At once name x.faults y.faults (x.located.are ∙ same ∙ sym y.located.are) x.located.positions y.located.positions in
    (x.ends ∙ sym y.ends, x.prints ∙ all-listed At once name form x.faults y.faults are ∙ sym y.prints)

pub record AreOneLocated : Type 0 where
  pub text : AreOneText
  pub read : IsRead
  pub positions : ArePositions

-- one list of faults is the list of all
abbrev IsOneList : (List Printed → Type 0) → Type 0
IsOneList Are = (refusals others : List Printed) → Are refusals → Are others → refusals ≡ others

module _ (law : AreOneLocated) (number : Option ℕ) (is_pair : Bool) (P : WritesIn) (Are : List Printed → Type 0) (form : Form) (one : IsOne (P form)) (list : IsOneList Are) (batch_name batch second_name second : List ℕ) (json : HasJson batch) where
  all-one : IsOne (LocatesAll P Are batch_name number batch form)
  all-one a b s t (inl x) (inl y) = (x.0 ∙ sym y.0, (one Done Done s t x.1 y.1).1)
  all-one a b s t (inl x) (inr y) = absurd (done-refused (one Done Refused s y.line x.1 y.refused).0)
  all-one a b s t (inr x) (inl y) = absurd (done-refused (one Done Refused t x.line y.1 x.refused).0)
  all-one a b s t (inr x) (inr y) =
      prints-one law.positions number batch json.0 json.1 batch_name form x.refusals y.refusals a b s t (list x.refusals y.refusals x.all y.all) x.prints y.prints

  both-one : (all two : Bool) → (two ≡ true → HasJson second) → IsOne (LocatesBoth all two number is_pair P Are batch_name batch second_name second form)
  both-one true two other = all-one
  both-one false true other =
      locates-one law.read P (IsInEither batch_name batch second_name second) form one (either-once law.positions batch_name batch second_name second json (other refl))
  both-one false false other =
      locates-one law.read P (IsInDocument batch_name number is_pair batch) form one (document-once law.positions batch_name number is_pair batch json.0 json.1)

pub located-documents : AreOneLocated → (task : Task) (form : Form) (batch_name batch second_name second : List ℕ) → (d : Data) → IsJson batch d → (takes_second task ≡ true → (e : Data) × IsJson second e)
    → IsOne (LocatesDocuments task batch_name batch second_name second form)
located-documents law task form batch_name batch second_name second d json other =
    both-one law None false _ (AreFaultsIn batch) form (answers-one law.text task form (InMemory second) tt batch) (all-faults-one law.text.batch batch) batch_name batch second_name second (d, json) (lists_all task) (takes_second task) other

no-second : (b : Bool) → false ≡ true → HasJson []
no-second b same = absurd (true≢false (sym same))

located-line : AreOneLocated → (task : Task) (form : Form) (name : List ℕ) (number : ℕ) (line : List ℕ) → HasJson line → IsOne (LocatesLine task name number line form)
located-line law task form name number line json =
    both-one law (Some number) (takes_second task) (OfLine task line) (AreFaultsIn line) form (task-line-one law.text task form line) (all-faults-one law.text.batch line) name line [] [] json (lists_all task) false (no-second false)

-- ---- the number of a line

first-one : (P : ℕ → Type 0) (n : ℕ) (found other : Option ℕ) → IsFirst P 0 n found → IsFirst P 0 n other → found ≡ other
first-one P n None None x y = refl
first-one P n None (Some k) x (y, holds) = absurd (x k y.low y.high holds)
first-one P n (Some k) None (x, holds) y = absurd (y k x.low x.high holds)
first-one P n (Some k) (Some m) (x, here) (y, there) = elim (cases_lt k m) [
  | inl less ↦ absurd (y.before k x.low less here)
  | inr more ↦ elim (cases_lt m k) [
    | inl less ↦ absurd (x.before m y.low less there)
    | inr least ↦ let same : k ≡ m = omega arith in ap Some same
  ]
]

start-one : (located : Bool) (name fault : List ℕ) (start other : ℕ) → StartsWords located name fault start → StartsWords located name fault other → start ≡ other
start-one false name fault start other is too = is ∙ sym too
start-one true name fault start other (found, first, is) (second, also, too) =
    is ∙ ap (after_blank name) (first-one (Passes (is_byte 32) (drop (length name) fault)) (length (drop (length name) fault)) found second first also) ∙ sym too

number-one : (located : Bool) (name : List ℕ) (form : Form) (number : ℕ) (fault other text different : List ℕ) → fault ≡ other → HasNumber located name form number fault text → HasNumber located name form number other different → text ≡ different
number-one located name form number fault other text different same has also =
    let there = subst (λ f. HasNumber located name form number f different) (sym same) also in
    has.is ∙ ap (λ start. numbered_text form number start fault) (start-one located name fault has.start there.start has.starts there.starts) ∙ sym there.is

-- one text is written with the number of the line, if one is without
numbered-one : (numbers located : Bool) (name : List ℕ) (task : Task) (number : ℕ) (line : List ℕ) (form : Form) → IsOne (OfLocated located name task number line form) → IsOne (OfNumbered numbers located name task number line form)
numbered-one false located name task number line form one = one
numbered-one true located name task number line form one = at
  where
    at : IsOne (OfNumbered true located name task number line form)
    at Done Done s t x y = one Done Done s t x y
    at Done Refused s t x y = absurd (done-refused (one Done Refused s y.0 x y.1).0)
    at Refused Done s t x y = absurd (done-refused (one Done Refused t x.0 y x.1).0)
    at Refused Refused s t x y = (refl, number-one located name form number x.0 y.0 s t (one Refused Refused x.0 y.0 x.1 y.1).1 x.2 y.2)

of-line-one : AreOneLocated → (located : Bool) (task : Task) (form : Form) (name : List ℕ) (number : ℕ) (line : List ℕ) → (located ≡ true → HasJson line) → IsOne (OfLocated located name task number line form)
of-line-one law false task form name number line json = line-one law.text task form line
of-line-one law true task form name number line json = located-line law task form name number line (json refl)

pub numbered-line : AreOneLocated → (numbers located : Bool) (task : Task) (form : Form) (name : List ℕ) (number : ℕ) (line : List ℕ) → (located ≡ true → (d : Data) × IsJson line d) → IsOne (OfNumbered numbers located name task number line form)
numbered-line law numbers located task form name number line json = numbered-one numbers located name task number line form (of-line-one law located task form name number line json)
