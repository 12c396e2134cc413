-- A response document has one first fault and one list of responses at most, and a match one first fault or one table.
use Rattle.std.proofs.Common.{arith, length, ◌<◌, ◌≡◌, ◌∙◌, ℕ, List, Option, Some, None, IsSome, option_map, slice_get, IsSomeAnd, inl, inr, refl, ap, sym, subst, All, get_or, rules}
use Rattle.std.specs.List.{AllZip}
use Rattle.std.proofs.lemmas.Bool.{cases_order, false≢true}
use Rattle.std.proofs.lemmas.Option.{get_or_from_slice_get, slice_get_within, slice_get-get_or, same_Some}
use Rattle.std.proofs.lemmas.Grind.{same_number_lists}
use Rattle.serde_json.specs.Data.{Data, string}
use Rattle.odb_doc.proofs.OneLeast as one
use Rattle.odb_doc.specs.batch.Records.{Record}
use Rattle.odb_reply.specs.MatchFaults.{MatchFault, Breaks, number}
use Rattle.odb_doc.specs.declared.rule_fault.RuleFault.TheVariants as misfits
use Rattle.odb_reply.specs.declared.match_fault.MatchRule.{MatchRule}
use Rattle.odb_reply.specs.declared.response_fault.ResponseFault.{ResponseFault}
use Rattle.odb_reply.specs.declared.response_fault.ResponseFault.TheVariants as faults
use Rattle.odb_reply.specs.Fits.{Fits, IsRow, IsTableOf}
use Rattle.odb_reply.specs.LeastMatchFault.{RefusesMatch, phase}
use Rattle.odb_reply.specs.MatchFaults as match_faults
use Rattle.odb_reply.specs.ResponseDocuments.{Entry, ReadsAs, IsResponse, IsResponseDocument, IsFirstBad, RefusesResponses, responses_in}
use Rattle.odb_reply.specs.ResponseDocuments as response_documents

-- ---- the fault of a document

bad_or_good : (o : Option Data) → IsSomeAnd o (λ d. ¬ IsResponse d) → ¬ IsSomeAnd o IsResponse
bad_or_good None bad = λ good. good
bad_or_good (Some d) bad = bad

one_bad : (ds : List Data) (at_place other : ℕ) → IsFirstBad ds at_place → IsFirstBad ds other → at_place ≡ other
one_bad ds at_place other one two = elim (cases_order at_place other) [
  | inl same ↦ same
  | inr (inl before) ↦ absurd (bad_or_good (slice_get ds at_place) one.bad (two.before at_place before))
  | inr (inr after) ↦ absurd (bad_or_good (slice_get ds other) two.bad (one.before other after))
]

pub one_document_fault : (d : Data) (fault other : ResponseFault) → IsSome (response_documents.responses_row fault) → IsSome (response_documents.responses_row other) → RefusesResponses fault d → RefusesResponses other d → fault ≡ other
one_document_fault d faults.Document faults.Document numbered also one two = refl
one_document_fault d faults.Document (faults.Response at_place) numbered also one two = absurd (one two.0)
one_document_fault d (faults.Response at_place) faults.Document numbered also one two = absurd (two one.0)
one_document_fault d (faults.Response at_place) (faults.Response other) numbered also one two = ap faults.Response (one_bad (responses_in d) at_place other one.1 two.1)
one_document_fault d faults.OutOfMemory other numbered also one two = absurd (false≢true numbered)
one_document_fault d faults.Document faults.OutOfMemory numbered also one two = absurd (false≢true also)
one_document_fault d (faults.Response at_place) faults.OutOfMemory numbered also one two = absurd (false≢true also)

good_at : (ds : List Data) (i : ℕ) → All IsResponse ds → ¬ IsSomeAnd (slice_get ds i) (λ d. ¬ IsResponse d)
good_at ds i all = at_element (slice_get ds i) refl
  where
    at_element : (o : Option Data) → slice_get ds i ≡ o → ¬ IsSomeAnd (slice_get ds i) (λ d. ¬ IsResponse d)
    at_element None none bad = rw none at bad
    at_element (Some d) is bad = (rw is at bad) (subst IsResponse (get_or_from_slice_get ds i d d is) (all i d (slice_get_within ds i d is)))

pub no_document_fault : (d : Data) (fault : ResponseFault) → IsSome (response_documents.responses_row fault) → RefusesResponses fault d → ¬ IsResponseDocument d
no_document_fault d faults.Document numbered refused good = refused good.array
no_document_fault d (faults.Response at_place) numbered refused good = good_at (responses_in d) at_place good.each refused.1.bad
no_document_fault d faults.OutOfMemory numbered refused good = false≢true numbered

-- ---- what a document has

one_group : (a b : Option (List ℕ)) → option_map string a ≡ option_map string b → a ≡ b
one_group None None same = refl
one_group None (Some b) same = absurd (cc (same))
one_group (Some a) None same = absurd (cc (same))
one_group (Some a) (Some b) same = cc (same)

abbrev made : List ℕ → Option (List ℕ) → ℕ → Entry
made id group status = record { id = id; group = group; status = status }

one_entry : (d : Data) (entry other : Entry) → ReadsAs d entry → ReadsAs d other → entry ≡ other
one_entry d entry other one two =
    let id : entry.id ≡ other.id = cc (one.id, two.id) in
    let status : entry.status ≡ other.status = cc (one.status, two.status) in
    let group : entry.group ≡ other.group = one_group entry.group other.group (sym one.group ∙ two.group) in
    ap (λ x. made x entry.group entry.status) id ∙ ap (λ x. made other.id x entry.status) group ∙ ap (λ x. made other.id other.group x) status

pub one_list : (ds : List Data) (entries others : List Entry) → AllZip ReadsAs ds entries → AllZip ReadsAs ds others → entries ≡ others
one_list = one.one_list ReadsAs one_entry

-- ---- the fault of a match

same_rule : (rule other : MatchRule) → number rule ≡ number other → rule ≡ other
same_rule rule other same = search rules

pub one_match_fault : (rs : List Record) (es : List Entry) (fault other : MatchFault) → IsSome (match_faults.match_row fault) → IsSome (match_faults.match_row other) → RefusesMatch fault rs es → RefusesMatch other rs es → fault ≡ other
one_match_fault rs es (misfits.Broken i rule) (misfits.Broken j other) numbered also first second =
    let same : (i ≡ j) × (rule ≡ other) = one.one_by_phase phase number (Breaks rs es) same_rule i j rule other first second in
    ap (λ r. misfits.Broken i r) same.1 ∙ ap (λ k. misfits.Broken k other) same.0
one_match_fault rs es (misfits.Broken i rule) misfits.OutOfMemory numbered also first second = absurd (false≢true also)
one_match_fault rs es misfits.OutOfMemory other numbered also first second = absurd (false≢true numbered)

-- ---- the table of a match

one_number : (rs : List Record) (es : List Entry) (i k l status other : ℕ) → Fits rs es → IsRow rs es i k status → IsRow rs es i l other → (k ≡ l) × (status ≡ other)
one_number rs es i k l status other fits one two =
    let id : one.entry.id ≡ two.entry.id = cc (one.id, two.id) in
    let only = fits.one i one.entry.id one.id in
    let first : k ≡ only.0 = only.1.only k (ap (option_map (λ (e : Entry). e.id)) one.given) in
    let second : l ≡ only.0 = only.1.only l (ap (option_map (λ (e : Entry). e.id)) two.given ∙ ap Some (sym id)) in
    let place : k ≡ l = first ∙ sym second in
    let entry : one.entry ≡ two.entry = same_Some one.entry two.entry (sym one.given ∙ ap (slice_get es) place ∙ two.given) in
    (place, sym one.status_is ∙ ap (λ (e : Entry). e.status) entry ∙ two.status_is)

row_of : (rs : List Record) (es : List Entry) (places statuses : List ℕ) (i : ℕ) → IsTableOf rs es places statuses → i < length rs → IsRow rs es i (get_or places i 0) (get_or statuses i 0)
row_of rs es places statuses i table within =
    table.each i (get_or places i 0) (get_or statuses i 0) (slice_get-get_or places i 0 (omega (arith, table.places_count))) (slice_get-get_or statuses i 0 (omega (arith, table.statuses_count)))

pub one_table : (rs : List Record) (es : List Entry) (places others statuses different : List ℕ) → Fits rs es → IsTableOf rs es places statuses → IsTableOf rs es others different → (places ≡ others) × (statuses ≡ different)
one_table rs es places others statuses different fits one two = (
  same_number_lists places others (one.places_count ∙ sym two.places_count) (λ i within. (row i (omega (arith, one.places_count))).0),
  same_number_lists statuses different (one.statuses_count ∙ sym two.statuses_count) (λ i within. (row i (omega (arith, one.statuses_count))).1),
)
  where
    row : (i : ℕ) → i < length rs → (get_or places i 0 ≡ get_or others i 0) × (get_or statuses i 0 ≡ get_or different i 0)
    row i within = one_number rs es i (get_or places i 0) (get_or others i 0) (get_or statuses i 0) (get_or different i 0) fits (row_of rs es places statuses i one within) (row_of rs es others different i two within)
