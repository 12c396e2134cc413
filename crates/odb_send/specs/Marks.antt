-- For invariants and private clauses: the marks of units while the requests are gone through.
use Rattle.std.specs.Prelude.{◌≡◌, ◌+◌, ◌<◌, ◌&&◌, ℕ, Bool, true, false, nat_lt, not, List, length, Contains, Option, None, Some, IfSome, All, IsUtf8, ◌≤◌, drop}
use Rattle.odb_doc.specs.batch.Records.{Record}
use Rattle.odb_check.specs.PlanGraph.{unit_needed}
use Rattle.odb_check.specs.declared.need.Need.{Need}
use Rattle.odb_check.specs.Needs.{needs_at}
use Rattle.odb_check.specs.Units.{unit_at, unit_count}
use Rattle.odb_send.specs.Answers.{Answer}
use Rattle.odb_send.specs.Faults.{Breaks, RestFault}
use Rattle.odb_doc.specs.declared.rule_fault.RuleFault.TheVariants as faults
use Rattle.odb_send.specs.declared.fault.RestRule.{RestRule}
use Rattle.odb_send.specs.Rests.{Change, HasChanges, IsChange, change_at, changes, is_kept, kept, select}
use Rattle.odb_send.specs.Texts.{joined, text_of_request}
use Rattle.odb_spans.specs.Spans.{bytes_of}
use Rattle.odb_spans.specs.declared.span.Span.{Span}
use Rattle.odb_send.specs.declared.rest.Rest.{Rest}
use Rattle.odb_send.specs.NextPart.{IsCut, MayGo, request_count}
use Rattle.odb_send.specs.Units.{AreMarksOf, IsBarred, marked}

-- the marks of units that are barred, once the first n requests are known
pub record AreBarred (rs : List Record) (exempt test : ℕ → Bool) (n : ℕ) (units : List Bool) : Type 0 where
  pub count : length units ≡ unit_count rs
  pub sound : (u : ℕ) → marked units u ≡ true → IsBarred rs exempt test u
  pub own : (i : ℕ) → i < n → exempt (unit_at rs i) ≡ false → test i ≡ false → marked units (unit_at rs i) ≡ true
  pub needing : (i : ℕ) (need : Need) → i < n → exempt (unit_at rs i) ≡ false → Contains (needs_at rs i) need → marked units (unit_needed (unit_at rs) need) ≡ true → marked units (unit_at rs i) ≡ true

-- the marks of the first n units that are neither done nor left out
pub record AreKept (done left : List Bool) (n : ℕ) (units : List Bool) : Type 0 where
  pub count : length units ≡ n
  pub each : (u : ℕ) → u < n → marked units u ≡ (not (marked done u) && not (marked left u))

-- the fault is that the request at i breaks a rule. Out of memory says nothing.
abbrev pub IsBroken : List Record → List Bool → (ℕ → Answer) → ℕ → RestFault → Type 0
IsBroken rs kept answers i (faults.Broken at rule) = (at ≡ i) × Breaks rule rs kept answers i
IsBroken rs kept answers i faults.OutOfMemory = Unit {0}

-- the fault is that the request at i breaks this rule, since it lacks something. Out of memory says nothing.
abbrev pub IsLacking : RestRule → (ℕ → Type 0) → ℕ → RestFault → Type 0
IsLacking rule Lacks i (faults.Broken at broken) = (at ≡ i) × (broken ≡ rule) × Lacks i
IsLacking rule Lacks i faults.OutOfMemory = Unit {0}

-- the first n requests change as they do in the rest
pub record AreChanges (rs : List Record) (kept : List Bool) (answers : ℕ → Answer) (n : ℕ) (changes : List Change) : Type 0 where
  pub count : length changes ≡ n
  pub each : (i : ℕ) → i < n → IsChange rs kept answers i (change_at changes i)

-- the span is one of the document, and its bytes are a text
pub record IsTextIn (document : List ℕ) (span : Span) : Type 0 where
  pub order : span.start ≤ span.end
  pub within : span.end ≤ length document
  pub utf8 : IsUtf8 (bytes_of document span)

-- each span that there is, is one of a text
abbrev pub AreTexts : List ℕ → List (Option Span) → Type 0
AreTexts document spans = All (λ span. IfSome span (IsTextIn document)) spans

-- the URL of a request in the rest
abbrev pub url_in : Option (List ℕ) → Record → List ℕ
url_in None r = r.url
url_in (Some url) r = url

-- the text of the requests from a position on, with a comma first if something stands before
unfoldable pub texts_left : List Record → List Bool → List Change → List (Option (List ℕ)) → Bool → ℕ → List ℕ
texts_left rs units changes bodies later i = joined later (select (is_kept rs units) (text_of_request rs units changes bodies) i (drop i rs))

-- the first n units of a part, which has room for so many requests more
pub record AreFirst (rs : List Record) (done left : List Bool) (limit n room : ℕ) (units : List Bool) : Type 0 where
  pub marks : AreMarksOf rs (λ u. (u < n) × MayGo rs done left u) units
  pub count : request_count rs units + room ≡ limit

-- the mark of a unit that comes before this one
abbrev pub marked_before : List Bool → ℕ → ℕ → Bool
marked_before units end u = nat_lt u end && marked units u

-- the part has those of the units that fit up to one that lacks a Location or an ETag, and the changes of their requests
pub record IsCutPart (rs : List Record) (fitting : List Bool) (answers : ℕ → Answer) (part : Rest) : Type 0 where
  pub cut : IsCut rs fitting answers (kept part)
  pub changes_are : HasChanges rs (kept part) answers (changes part)
