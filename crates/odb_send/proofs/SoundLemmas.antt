-- The requests of the rest have no fault of shape, as those of the batch.
use Rattle.std.proofs.Common.{◌≡◌, ◌+◌, ◌≤◌, ℕ, suc, Bool, true, false, cond, List, [], ◌∷◌, length, Option, None, Some, bytes_eq, sym, subst, arith}
use Rattle.std.specs.Prelude.{IfSome}
use Rattle.std.specs.List.{AllByRecursion, IsDistinct, filter}
use Rattle.std.proofs.lemmas.Option.{slice_get_within}
use Rattle.serde_json.specs.Data.{Data}
use Rattle.odb_names.specs.Fronts.{bad, plain, reference}
use Rattle.odb_doc.proofs.BatchLemmas.{AreOneReading}
use Rattle.odb_doc.proofs.CanonicalShapes.{AreSound, IsSound, canonical-sound, sound-batch}
use Rattle.odb_doc.specs.batch.LeastFault.{IsWellShaped}
use Rattle.odb_doc.specs.batch.Records.{Record}
use Rattle.odb_doc.specs.canonical.Canonical.{canonical_value}
use Rattle.odb_doc.specs.canonical.CanonicalLaws.{IsDocumentOf}
use Rattle.odb_send.specs.declared.rest.Rest.{Rest}
use Rattle.odb_doc.specs.batch.MediaTypes.{AllowsBody}
use Rattle.odb_send.specs.Answers.{Answer}
use Rattle.odb_send.specs.Rests.{Change, HasChanges, IsPlain, IsUrl, change_at, changes, is_kept, is_kept_name, kept, records_in, rest_record, select, with_url}
use Rattle.odb_send.specs.Rests.IsUrl.{same, moved}
use Rattle.odb_send.specs.Texts.{IsTextOf}
use Rattle.odb_send.proofs.HeaderLemmas.{in-lower, in-order, type-stays}
use Rattle.odb_send.proofs.ReadLemmas.{rest-read}
use Rattle.odb_send.proofs.SelectLemmas.{Comes, comes, place}
use Rattle.odb_send.specs.Parts.{IsBatchIn}

-- ---- names

all-kept : {X : Type 0} (P : X → Type 0) (test : X → Bool) (xs : List X) → AllByRecursion P xs → AllByRecursion P (filter test xs)
all-kept P test [] all = tt
all-kept {X} P test (x ∷ xs) all = by_first (test x) (all-kept P test xs all.1)
  where
    by_first : (b : Bool) → AllByRecursion P (filter test xs) → AllByRecursion P (cond b (x ∷ filter test xs) (filter test xs))
    by_first true more = (all.0, more)
    by_first false more = more

distinct-kept : (test : List ℕ → Bool) (names : List (List ℕ)) → IsDistinct bytes_eq names → IsDistinct bytes_eq (filter test names)
unfolding IsDistinct
distinct-kept test [] apart = tt
distinct-kept test (name ∷ names) apart = by_first (test name) (distinct-kept test names apart.1)
  where
    by_first : (b : Bool) → IsDistinct bytes_eq (filter test names) → IsDistinct bytes_eq (cond b (name ∷ filter test names) (filter test names))
    by_first true more = (all-kept _ test names apart.0, more)
    by_first false more = more

-- ---- one request

sound-moved : AreOneReading → (url : Option (List ℕ)) (r : Record) → IsSound r → IfSome url IsPlain → IsSound (with_url url r)
sound-moved texts None r is free = is
sound-moved texts (Some url) r is free = record {
  read = record {
    form = record { id = is.read.form.id; group = is.read.form.group; names = is.read.form.names };
    reference = λ id refers. cc (texts.front url plain (reference id) free.0 refers);
    lower = is.read.lower;
    ordered = is.read.ordered;
    body = is.read.body;
  };
  takes = is.takes;
  media = is.media;
  single = free.1;
  front = λ refused. cc (texts.front url plain bad free.0 refused);
}

sound-request : AreOneReading → (rs : List Record) (units : List Bool) (change : Change) (r : Record) → IsSound r → IfSome change.url IsPlain → IsSound (rest_record rs units change r)
sound-request texts rs units change r is free = sound-moved texts change.url _ (record {
  read = record {
    form = record { id = is.read.form.id; group = is.read.form.group; names = distinct-kept (is_kept_name rs units) r.names is.read.form.names };
    reference = is.read.reference;
    lower = in-lower change r.headers is.read.lower;
    ordered = in-order change r.headers is.read.ordered;
    body = is.read.body;
  };
  takes = is.takes;
  media = λ body has. subst (λ kind. ¬ ¬ AllowsBody kind body) (sym (type-stays change r.headers)) (is.media body has);
  single = is.single;
  front = is.front;
}) free

plain-url : (rs : List Record) (units : List Bool) (answers : ℕ → Answer) (i : ℕ) (url : Option (List ℕ)) → IsUrl rs units answers i url → IfSome url IsPlain
plain-url rs units answers i _ (same none) = tt
plain-url rs units answers i _ (moved url moves) = moves.plain

-- ---- all requests

select-count : {X Y : Type 0} (passes : ℕ → Bool) (make : ℕ → X → Y) (i : ℕ) (xs : List X) → length (select passes make i xs) ≤ length xs
select-count passes make i [] = omega arith
select-count {X} {Y} passes make i (x ∷ xs) = by_first (passes i) (select-count passes make (i + 1) xs)
  where
    by_first : (b : Bool) → length (select passes make (i + 1) xs) ≤ length xs → length (cond b (make i x ∷ select passes make (i + 1) xs) (select passes make (i + 1) xs)) ≤ suc (length xs)
    by_first true less = omega (arith, less)
    by_first false less = omega (arith, less)

module _ (texts : AreOneReading) (rs : List Record) (rest : Rest) (answers : ℕ → Answer) (moves : HasChanges rs (kept rest) answers (changes rest)) (are : AreSound rs) where
  abbrev made : ℕ → Record → Record
  made i r = rest_record rs (kept rest) (change_at (changes rest) i) r

  sound-one : (at : ℕ) (r : Record) → Comes (is_kept rs (kept rest)) made 0 rs at r → IsSound r
  sound-one at r from =
      let here : at ≡ from.offset = omega (arith, from.at_is) in
      let within = slice_get_within rs from.offset from.element from.is in
      subst IsSound (sym from.made) (sound-request texts rs (kept rest) (change_at (changes rest) at) from.element (are.each from.offset from.element from.is)
      (plain-url rs (kept rest) answers at (change_at (changes rest) at).url (moves.each at (omega (arith, here, within))).url))

  rest-sound : AreSound (records_in rs rest)
  rest-sound = record {
    few = omega (arith, select-count (is_kept rs (kept rest)) made 0 rs, are.few);
    each = λ k r is. sound-one (place (is_kept rs (kept rest)) 0 rs k) r (comes (is_kept rs (kept rest)) made 0 rs k r is);
  }

-- the text of requests of the batch is a document of them
pub text-document : AreOneReading → (document : List ℕ) (d : Data) (rs : List Record) (answers : ℕ → Answer) (rest : Rest) (text : List ℕ) → IsBatchIn document d rs → IsWellShaped d → HasChanges rs (kept rest) answers (changes rest) → IsTextOf document d rs rest text
    → IsDocumentOf text (records_in rs rest)
text-document texts document d rs answers rest text batch shaped moves has =
    let (fits, says) = canonical-sound texts (records_in rs rest) (rest-sound texts rs rest answers moves (sound-batch d rs shaped batch.is)) in
    record { value = canonical_value (records_in rs rest); reads = rest-read document d rs rest text batch has; shaped = fits; says = says }
