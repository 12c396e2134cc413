-- The faults of the shape of a document, listed rule by rule and request by request.
use Rattle.std.proofs.Common.{◌≡◌, ◌∙◌, ◌<◌, ◌≤◌, ◌+◌, ℕ, inl, inr, List, [], ◌∷◌, ◌++◌, length, get_or, Option, Some, refl, ap, sym, subst, arith, rules}
use Rattle.std.specs.Prelude.{◌↔◌, Contains, slice_get, IfSome, IsSomeAnd}
use Rattle.std.proofs.lemmas.Bool.{cases_order}
use Rattle.std.proofs.lemmas.Option.{slice_get_past}
use Rattle.serde_json.specs.Data.{Data}
use Rattle.odb_doc.specs.AllFaults.{IsBefore, ListsAll}
use Rattle.odb_doc.specs.Faults.{document_number, request_number}
use Rattle.odb_doc.specs.ListsBelow.{ListsBelow, IsRequestFault, IsWholeFault}
use Rattle.odb_doc.specs.BrokenRules.{IsLeastRequestRule, IsRequestObject}
use Rattle.odb_doc.specs.batch.LeastFault.{IsBatchObject, IsLeastDocumentRule, IsLeastFault, IsWellShaped}
use Rattle.odb_doc.specs.batch.ShapeFaults.{AreShapeFaults, IsShapeFault, shape_place}
use Rattle.odb_doc.specs.batch.Shapes.{BreaksDocument, BreaksRequest, elements}
use Rattle.odb_doc.specs.declared.fault.DocFault.{DocFault}
use Rattle.odb_doc.specs.declared.fault.DocFault.TheVariants as faults
use Rattle.odb_doc.specs.declared.fault.DocumentRule.{DocumentRule}
use Rattle.odb_doc.specs.declared.fault.DocumentRule.TheVariants as document
use Rattle.odb_doc.specs.declared.fault.RequestRule.{RequestRule}
use Rattle.odb_doc.specs.declared.fault.RequestRule.TheVariants as request
use Rattle.odb_doc.proofs.ElementLemmas.{Contains-head}
use Rattle.odb_doc.proofs.FaultLemmas.{same_document_rule, same_request_rule}
use Rattle.odb_doc.proofs.ListedLemmas.{NoneBelow, contains_none, first_least, least_at, lists_all, lists_on, lists_push, lists_skip, none_more, number_at}

-- ---- the document as a whole

document_within : (rule : DocumentRule) → document_number rule < 7
document_within rule = search rules

only_document : (d : Data) (n : ℕ) (rule : DocumentRule) → document_number rule ≡ n → (other : DocFault) → IsWholeFault d other → shape_place other ≡ (0, n) → other ≡ faults.Document rule
only_document d n rule is (faults.Document other) bad here = ap faults.Document (same_document_rule other rule (ap (λ (p : ℕ × ℕ). p.1) here ∙ sym is))
only_document d n rule is (faults.Request at other) bad here = absurd bad
only_document d n rule is faults.OutOfMemory bad here = absurd bad

document_push : (d : Data) (n : ℕ) (rule : DocumentRule) (listed : List DocFault) → document_number rule ≡ n → BreaksDocument rule d → ListsBelow shape_place (IsWholeFault d) (0, n) listed
    → ListsBelow shape_place (IsWholeFault d) (0, n + 1) (listed ++ faults.Document rule ∷ [])
document_push d n rule listed is broken lists = lists_push shape_place (IsWholeFault d) 0 n listed (faults.Document rule) lists (λ i. (0, is i)) broken (only_document d n rule is)

document_skip : (d : Data) (n : ℕ) (rule : DocumentRule) (listed : List DocFault) → document_number rule ≡ n → ¬ BreaksDocument rule d → ListsBelow shape_place (IsWholeFault d) (0, n) listed
    → ListsBelow shape_place (IsWholeFault d) (0, n + 1) listed
document_skip d n rule listed is unbroken lists = lists_skip shape_place (IsWholeFault d) 0 n listed lists (λ other bad here. unbroken (subst (IsWholeFault d) (only_document d n rule is other bad here) bad))

-- the rules in the order in which they are asked
abbrev pub asked_of_documents : List DocumentRule
asked_of_documents = document.NotObject ∷ document.NoRequests ∷ document.UnknownMember ∷ document.TooMany ∷ []

abbrev pub document_rule : ℕ → DocumentRule
document_rule k = get_or asked_of_documents k document.TooLong

document_number_at : (k : ℕ) → k < 4 → document_number (document_rule k) ≡ 3 + k
document_number_at k less = number_at document_number 3 asked_of_documents k document.TooLong (refl, (refl, (refl, (refl, tt)))) less

pub document_broken : (d : Data) (k : ℕ) (listed more : List DocFault) → k < 4 → BreaksDocument (document_rule k) d → more ≡ listed ++ faults.Document (document_rule k) ∷ []
    → ListsBelow shape_place (IsWholeFault d) (0, 3 + k) listed → ListsBelow shape_place (IsWholeFault d) (0, 3 + (k + 1)) more
document_broken d k listed more less broken is lists =
    let next : 3 + (k + 1) ≡ (3 + k) + 1 = omega arith in
    rw (next, is) (document_push d (3 + k) (document_rule k) listed (document_number_at k less) broken lists)

pub document_passed : (d : Data) (k : ℕ) (listed more : List DocFault) → k < 4 → ¬ BreaksDocument (document_rule k) d → more ≡ listed
    → ListsBelow shape_place (IsWholeFault d) (0, 3 + k) listed → ListsBelow shape_place (IsWholeFault d) (0, 3 + (k + 1)) more
document_passed d k listed more less unbroken is lists =
    let next : 3 + (k + 1) ≡ (3 + k) + 1 = omega arith in
    rw (next, is) (document_skip d (3 + k) (document_rule k) listed (document_number_at k less) unbroken lists)

-- the first rule that is broken
pub document_before_all : (d : Data) → NoneBelow document_number (λ rule. BreaksDocument rule d) 3
document_before_all d document.TooLong less broken = broken
document_before_all d document.NotJson less broken = broken
document_before_all d rule less broken = omega (arith, less)

pub document_unbroken : (d : Data) (k : ℕ) → k < 4 → ¬ BreaksDocument (document_rule k) d → NoneBelow document_number (λ rule. BreaksDocument rule d) (3 + k) → NoneBelow document_number (λ rule. BreaksDocument rule d) (3 + (k + 1))
document_unbroken d k less = none_more document_number (λ rule. BreaksDocument rule d) same_document_rule 3 k (document_rule k) (document_number_at k less)

pub document_least : (d : Data) (k : ℕ) → k < 4 → BreaksDocument (document_rule k) d → NoneBelow document_number (λ rule. BreaksDocument rule d) (3 + k) → IsLeastDocumentRule d (document_rule k)
document_least d k less = least_at document_number (λ rule. BreaksDocument rule d) (3 + k) (document_rule k) (document_number_at k less)

pub document_none : (d : Data) → NoneBelow document_number (λ rule. BreaksDocument rule d) 7 → IsBatchObject d
document_none d none rule = none rule (document_within rule)

document_before : (d : Data) (other : DocFault) → IsWholeFault d other → IsBefore (shape_place other) (0, 7)
document_before d (faults.Document rule) bad = inr (refl, document_within rule)
document_before d (faults.Request at rule) bad = absurd bad
document_before d faults.OutOfMemory bad = absurd bad

pub document_all : (d : Data) (listed : List DocFault) → ListsBelow shape_place (IsWholeFault d) (0, 7) listed → ListsAll shape_place (IsWholeFault d) listed
document_all d listed lists = lists_all shape_place (IsWholeFault d) (0, 7) listed lists (document_before d)

-- ---- a request

request_within : (rule : RequestRule) → request_number rule < 24
request_within rule = search rules

only_request : (ds : List Data) (at n : ℕ) (rule : RequestRule) → request_number rule ≡ n → (other : DocFault) → IsRequestFault ds other → shape_place other ≡ (at, n) → other ≡ faults.Request at rule
only_request ds at n rule is (faults.Document other) bad here = absurd bad
only_request ds at n rule is (faults.Request at' other) bad here =
    let place : at' ≡ at = ap (λ (p : ℕ × ℕ). p.0) here in
    let same : other ≡ rule = same_request_rule other rule (ap (λ (p : ℕ × ℕ). p.1) here ∙ sym is) in
    cc (place, same)
only_request ds at n rule is faults.OutOfMemory bad here = absurd bad

request_push : (ds : List Data) (at n : ℕ) (d : Data) (rule : RequestRule) (listed : List DocFault) → slice_get ds at ≡ Some d → request_number rule ≡ n → BreaksRequest rule d
    → ListsBelow shape_place (IsRequestFault ds) (at, n) listed → ListsBelow shape_place (IsRequestFault ds) (at, n + 1) (listed ++ faults.Request at rule ∷ [])
request_push ds at n d rule listed there is broken lists =
    let here : IsRequestFault ds (faults.Request at rule) = subst (λ (o : Option Data). IsSomeAnd o (BreaksRequest rule)) (sym there) broken in
    lists_push shape_place (IsRequestFault ds) at n listed (faults.Request at rule) lists (λ i. (at, is i)) here (only_request ds at n rule is)

request_skip : (ds : List Data) (at n : ℕ) (d : Data) (rule : RequestRule) (listed : List DocFault) → slice_get ds at ≡ Some d → request_number rule ≡ n → ¬ BreaksRequest rule d
    → ListsBelow shape_place (IsRequestFault ds) (at, n) listed → ListsBelow shape_place (IsRequestFault ds) (at, n + 1) listed
request_skip ds at n d rule listed there is unbroken lists =
    lists_skip shape_place (IsRequestFault ds) at n listed lists
    (λ other bad here. unbroken (subst (λ (o : Option Data). IsSomeAnd o (BreaksRequest rule)) there (subst (IsRequestFault ds) (only_request ds at n rule is other bad here) bad)))

-- the rules in the order in which they are asked
abbrev pub asked_of_requests : List RequestRule
asked_of_requests =
    request.NotRequestObject ∷ request.IfMember ∷ request.UnknownRequestMember ∷ request.BadId ∷ request.BadMethod ∷ request.BadUrl ∷ request.BadGroup
    ∷ request.BadDependsOn ∷ request.BadHeaders ∷ request.HeaderTwice ∷ request.BodyNotAllowed ∷ request.BadBody ∷ request.NestedBatch ∷ request.BadReference ∷ []

abbrev pub request_rule : ℕ → RequestRule
request_rule k = get_or asked_of_requests k request.NotRequestObject

request_number_at : (k : ℕ) → k < 14 → request_number (request_rule k) ≡ 10 + k
request_number_at k less =
    number_at request_number 10 asked_of_requests k request.NotRequestObject
    (refl, (refl, (refl, (refl, (refl, (refl, (refl, (refl, (refl, (refl, (refl, (refl, (refl, (refl, tt)))))))))))))) less

pub request_broken : (ds : List Data) (at k : ℕ) (d : Data) (listed more : List DocFault) → slice_get ds at ≡ Some d → k < 14 → BreaksRequest (request_rule k) d → more ≡ listed ++ faults.Request at (request_rule k) ∷ []
    → ListsBelow shape_place (IsRequestFault ds) (at, 10 + k) listed → ListsBelow shape_place (IsRequestFault ds) (at, 10 + (k + 1)) more
request_broken ds at k d listed more there less broken is lists =
    let next : 10 + (k + 1) ≡ (10 + k) + 1 = omega arith in
    rw (next, is) (request_push ds at (10 + k) d (request_rule k) listed there (request_number_at k less) broken lists)

pub request_passed : (ds : List Data) (at k : ℕ) (d : Data) (listed more : List DocFault) → slice_get ds at ≡ Some d → k < 14 → ¬ BreaksRequest (request_rule k) d → more ≡ listed
    → ListsBelow shape_place (IsRequestFault ds) (at, 10 + k) listed → ListsBelow shape_place (IsRequestFault ds) (at, 10 + (k + 1)) more
request_passed ds at k d listed more there less unbroken is lists =
    let next : 10 + (k + 1) ≡ (10 + k) + 1 = omega arith in
    rw (next, is) (request_skip ds at (10 + k) d (request_rule k) listed there (request_number_at k less) unbroken lists)

-- the first rule that is broken
request_from : (rule : RequestRule) → 10 ≤ request_number rule
request_from rule = search rules

pub request_before_all : (d : Data) → NoneBelow request_number (λ rule. BreaksRequest rule d) 10
request_before_all d rule less broken = omega (arith, less, request_from rule)

pub request_unbroken : (d : Data) (k : ℕ) → k < 14 → ¬ BreaksRequest (request_rule k) d → NoneBelow request_number (λ rule. BreaksRequest rule d) (10 + k) → NoneBelow request_number (λ rule. BreaksRequest rule d) (10 + (k + 1))
request_unbroken d k less = none_more request_number (λ rule. BreaksRequest rule d) same_request_rule 10 k (request_rule k) (request_number_at k less)

pub request_least : (d : Data) (k : ℕ) → k < 14 → BreaksRequest (request_rule k) d → NoneBelow request_number (λ rule. BreaksRequest rule d) (10 + k) → IsLeastRequestRule d (request_rule k)
request_least d k less = least_at request_number (λ rule. BreaksRequest rule d) (10 + k) (request_rule k) (request_number_at k less)

pub request_none : (d : Data) → NoneBelow request_number (λ rule. BreaksRequest rule d) 24 → IsRequestObject d
request_none d none rule = none rule (request_within rule)

request_before : (ds : List Data) (at : ℕ) (other : DocFault) → IsRequestFault ds other → IsBefore (shape_place other) (at + 1, 0) → IsBefore (shape_place other) (at, 24)
request_before ds at (faults.Document rule) bad less = absurd bad
request_before ds at (faults.Request at' rule) bad (inl less) =
    elim (cases_order at' at) [ inl same ↦ inr (same, request_within rule) | inr other ↦ elim other [ inl below ↦ inl below | inr above ↦ absurd (omega (arith, less, above)) ] ]
request_before ds at (faults.Request at' rule) bad (inr less) = absurd (omega (arith, less.1))
request_before ds at faults.OutOfMemory bad less = absurd bad

before_end : (at : ℕ) (x : ℕ × ℕ) → IsBefore x (at, 24) → IsBefore x (at + 1, 0)
before_end at x less = elim less [ inl earlier ↦ inl (omega (arith, earlier)) | inr here ↦ inl (omega (arith, here.0)) ]

pub request_end : (ds : List Data) (at : ℕ) (listed : List DocFault) → ListsBelow shape_place (IsRequestFault ds) (at, 24) listed → ListsBelow shape_place (IsRequestFault ds) (at + 1, 0) listed
request_end ds at listed lists = lists_on shape_place (IsRequestFault ds) (at, 24) (at + 1, 0) listed lists (before_end at) (request_before ds at)

request_inside : (ds : List Data) (n : ℕ) → length ds ≤ n → (other : DocFault) → IsRequestFault ds other → IsBefore (shape_place other) (n, 0)
request_inside ds n long (faults.Document rule) bad = absurd bad
request_inside ds n long (faults.Request at rule) bad =
    elim (cases_order at n) [
      | inl same ↦ absurd (subst (λ (o : Option Data). IsSomeAnd o (BreaksRequest rule)) (slice_get_past ds at (omega (arith, same))) bad)
      | inr other ↦ elim other [ inl below ↦ inl below | inr above ↦ absurd (subst (λ (o : Option Data). IsSomeAnd o (BreaksRequest rule)) (slice_get_past ds at (omega (arith, above))) bad) ]
    ]
request_inside ds n long faults.OutOfMemory bad = absurd bad

pub request_all : (ds : List Data) (n : ℕ) (listed : List DocFault) → length ds ≤ n → ListsBelow shape_place (IsRequestFault ds) (n, 0) listed → ListsAll shape_place (IsRequestFault ds) listed
request_all ds n listed long lists = lists_all shape_place (IsRequestFault ds) (n, 0) listed lists (request_inside ds n long)

-- ---- both phases

-- a document that breaks a rule as a whole has these faults alone
pub whole_all : (d : Data) (listed : List DocFault) → ¬ (listed ≡ []) → ListsAll shape_place (IsWholeFault d) listed → AreShapeFaults d listed
whole_all d [] some lists = absurd (some refl)
whole_all d (first ∷ rest) some lists = record { exact = exact; ordered = lists.ordered }
  where
    broken : (fault : DocFault) → IsWholeFault d fault → ¬ IsBatchObject d
    broken (faults.Document rule) bad sound = sound rule bad
    broken (faults.Request at rule) bad sound = bad
    broken faults.OutOfMemory bad sound = bad

    exact : (fault : DocFault) → Contains (first ∷ rest) fault ↔ IsShapeFault d fault
    exact (faults.Document rule) = lists.exact (faults.Document rule)
    exact (faults.Request at rule) = (λ h. absurd ((lists.exact (faults.Request at rule)).0 h), λ bad. absurd (broken first ((lists.exact first).0 (Contains-head first rest)) bad.0))
    exact faults.OutOfMemory = lists.exact faults.OutOfMemory

pub whole_none : (d : Data) → ListsAll shape_place (IsWholeFault d) [] → IsBatchObject d
whole_none d lists rule broken = contains_none shape_place (IsWholeFault d) (faults.Document rule) ((lists.exact (faults.Document rule)).1 broken)

-- and else those of its requests
pub requests_all : (d : Data) (listed : List DocFault) → IsBatchObject d → ListsAll shape_place (IsRequestFault (elements d)) listed → AreShapeFaults d listed
requests_all d listed sound lists = record { exact = exact; ordered = lists.ordered }
  where
    exact : (fault : DocFault) → Contains listed fault ↔ IsShapeFault d fault
    exact (faults.Document rule) = (λ h. absurd ((lists.exact (faults.Document rule)).0 h), λ bad. absurd (sound rule bad))
    exact (faults.Request at rule) = (λ h. (sound, (lists.exact (faults.Request at rule)).0 h), λ bad. (lists.exact (faults.Request at rule)).1 bad.1)
    exact faults.OutOfMemory = lists.exact faults.OutOfMemory

-- ---- the list and the fault that is reported

never_shaped : (d : Data) (fault : DocFault) → IsShapeFault d fault → ¬ IsWellShaped d
never_shaped d (faults.Document rule) bad shaped = shaped.0 rule bad
never_shaped d (faults.Request at rule) bad shaped = shaped.1 rule at bad.1
never_shaped d faults.OutOfMemory bad shaped = bad

shaped_from_none : (d : Data) → AreShapeFaults d [] → IsWellShaped d
shaped_from_none d lists =
    let whole : IsBatchObject d = λ rule broken. contains_none shape_place (IsShapeFault d) (faults.Document rule) ((lists.exact (faults.Document rule)).1 broken) in
    (whole, λ rule at broken. contains_none shape_place (IsShapeFault d) (faults.Request at rule) ((lists.exact (faults.Request at rule)).1 (whole, broken)))

pub shape_none : (d : Data) (listed : List DocFault) → AreShapeFaults d listed → (listed ≡ []) ↔ IsWellShaped d
shape_none d [] lists = (λ e. shaped_from_none d lists, λ shaped. refl)
shape_none d (first ∷ rest) lists = (λ e. absurd (cc (e)), λ shaped. absurd (never_shaped d first ((lists.exact first).0 (Contains-head first rest)) shaped))

shape_least : (d : Data) (fault : DocFault) → IsShapeFault d fault → ((other : DocFault) → IsShapeFault d other → ¬ IsBefore (shape_place other) (shape_place fault)) → IsLeastFault fault d
shape_least d (faults.Document rule) bad least = record { broken = bad; least = λ other less broken. least (faults.Document other) broken (inr (refl, less)) }
shape_least d (faults.Request at rule) bad least = (
  bad.0,
  record {
    here = record { broken = bad.1; least = λ other less broken. least (faults.Request at other) (bad.0, broken) (inr (refl, less)) };
    before = λ other i less broken. least (faults.Request i other) (bad.0, broken) (inl less);
  },
)
shape_least d faults.OutOfMemory bad least = tt

pub shape_first : (d : Data) (listed : List DocFault) → AreShapeFaults d listed → IfSome (slice_get listed 0) (λ fault. IsLeastFault fault d)
shape_first d [] lists = tt
shape_first d (first ∷ rest) lists = shape_least d first ((lists.exact first).0 (Contains-head first rest)) (λ other bad. first_least shape_place (IsShapeFault d) first rest other lists bad)
