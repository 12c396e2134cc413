-- The marks of the requests that have a response, and the responses that are added for the others.
use Rattle.std.proofs.Common.{◌≡◌, ◌≢◌, ◌∙◌, ◌+◌, ◌<◌, ◌||◌, ℕ, Bool, true, false, not, cond, List, [], ◌∷◌, ◌++◌, length, map, take, set, replicate, Some, slice_get, inl, inr, refl, ap, sym, arith, append_assoc, append-nil}
use Rattle.std.proofs.lemmas.Bool.{cases_eq, cases_Bool}
use Rattle.std.proofs.lemmas.List.{length-replicate, length-set, map-append, take_all}
use Rattle.std.proofs.lemmas.List.Elements.{filter_more}
use Rattle.std.proofs.lemmas.List.Folds.{list_any_more}
use Rattle.std.proofs.lemmas.Option.{get_or_from_slice_get, slice_get_within, same_Some}
use Rattle.std.proofs.lemmas.Slice.Eq.{bytes_eq-Decides}
use Rattle.std.specs.Str.{bytes_eq}
use Rattle.odb_doc.specs.batch.Records.{Record}
use Rattle.odb_check.specs.Positions.{id_at}
use Rattle.odb_reply.specs.ResponseDocuments.{Entry}
use Rattle.odb_reply.specs.Places.{AreMarks, IsOnce}
use Rattle.odb_reply.specs.Completed.{completed, has_error, is_answered, not_performed, unanswered}
use Rattle.odb_reply.proofs.SliceLemmas.{slice_get-set_same, slice_get-set_other, slice_get-replicate}
use Rattle.odb_sched.proofs.ListLemmas.{slice_get-some}

-- ---- the marks

pub AreMarks-none : (rs : List Record) (es : List Entry) → AreMarks rs es 0 (replicate (length rs) false)
AreMarks-none rs es = record {
  count = length-replicate (length rs) false;
  each = λ i r is.
      let here = slice_get-some (replicate (length rs) false) i (omega (arith, length-replicate (length rs) false, slice_get_within rs i r is)) in
      here.1 ∙ ap Some (sym (slice_get-replicate (length rs) i false here.0 here.1));
}

-- one response more
answered_more : (es : List Entry) (n : ℕ) (e : Entry) (id : List ℕ) → slice_get es n ≡ Some e → is_answered (take (n + 1) es) id ≡ (is_answered (take n es) id || bytes_eq id e.id)
answered_more es n e id given =
    list_any_more (λ (e : Entry). bytes_eq id e.id) es n e (slice_get_within es n e given)
    ∙ ap (λ (x : Entry). is_answered (take n es) id || bytes_eq id x.id) (get_or_from_slice_get es n e e given)

or_true : (b : Bool) → (b || true) ≡ true
or_true true = refl
or_true false = refl

or_false : (b : Bool) → (b || false) ≡ b
or_false true = refl
or_false false = refl

-- a response to the request
answered_here : (es : List Entry) (n : ℕ) (e : Entry) (id : List ℕ) → slice_get es n ≡ Some e → id ≡ e.id → is_answered (take (n + 1) es) id ≡ true
answered_here es n e id given same = answered_more es n e id given ∙ ap (λ b. is_answered (take n es) id || b) ((bytes_eq-Decides id e.id).1 same) ∙ or_true (is_answered (take n es) id)

-- a response to another request, or to none
answered_other : (es : List Entry) (n : ℕ) (e : Entry) (id : List ℕ) → slice_get es n ≡ Some e → id ≢ e.id → is_answered (take (n + 1) es) id ≡ is_answered (take n es) id
answered_other es n e id given apart = elim (cases_Bool (bytes_eq id e.id)) [
  | inl same ↦ absurd (apart ((bytes_eq-Decides id e.id).0 same))
  | inr differs ↦ answered_more es n e id given ∙ ap (λ b. is_answered (take n es) id || b) differs ∙ or_false (is_answered (take n es) id)
]

id_of_request : (rs : List Record) (i : ℕ) (r : Record) → slice_get rs i ≡ Some r → id_at rs i ≡ Some r.id
id_of_request rs i r is = rw is refl

pub AreMarks-known : (rs : List Record) (es : List Entry) (n p : ℕ) (e : Entry) (marks : List Bool) → IsOnce rs → AreMarks rs es n marks → slice_get es n ≡ Some e → id_at rs p ≡ Some e.id
    → AreMarks rs es (n + 1) (set marks p true)
AreMarks-known rs es n p e marks once before given position = record {
  count = length-set marks p true ∙ before.count;
  each = λ i r is. elim (cases_eq i p) [
    | inl same ↦
        let id : r.id ≡ e.id = same_Some r.id e.id (sym (id_of_request rs i r is) ∙ ap (id_at rs) same ∙ position) in
        let within : p < length marks = omega (arith, slice_get_within rs i r is, same, before.count) in
        ap (slice_get (set marks p true)) same ∙ slice_get-set_same marks p true within ∙ ap Some (sym (answered_here es n e r.id given id))
    | inr apart ↦
        let other : r.id ≢ e.id = λ same. apart (once i p e.id (id_of_request rs i r is ∙ ap Some same) position) in
        slice_get-set_other marks p i true apart ∙ before.each i r is ∙ ap Some (sym (answered_other es n e r.id given other))
  ];
}

pub AreMarks-unknown : (rs : List Record) (es : List Entry) (n : ℕ) (e : Entry) (marks : List Bool) → AreMarks rs es n marks → slice_get es n ≡ Some e → ((p : ℕ) → id_at rs p ≢ Some e.id)
    → AreMarks rs es (n + 1) marks
AreMarks-unknown rs es n e marks before given unknown = record {
  count = before.count;
  each = λ i r is.
      let other : r.id ≢ e.id = λ same. unknown i (id_of_request rs i r is ∙ ap Some same) in
      before.each i r is ∙ ap Some (sym (answered_other es n e r.id given other));
}

-- ---- the responses that are added

-- one request more
pub unanswered_more : (rs : List Record) (es : List Entry) (i : ℕ) (r : Record) → slice_get rs i ≡ Some r
    → unanswered es (take (i + 1) rs) ≡ unanswered es (take i rs) ++ cond (not (is_answered es r.id)) (r ∷ []) []
unanswered_more rs es i r is =
    filter_more (λ (r : Record). not (is_answered es r.id)) rs i r (slice_get_within rs i r is)
    ∙ ap (λ (x : Record). unanswered es (take i rs) ++ cond (not (is_answered es x.id)) (x ∷ []) []) (get_or_from_slice_get rs i r r is)

-- after an error, the responses that are added among those to the first requests
pub added_more : (rs : List Record) (es : List Entry) (i : ℕ) (r : Record) → slice_get rs i ≡ Some r → is_answered es r.id ≡ false
    → es ++ map not_performed (unanswered es (take (i + 1) rs)) ≡ (es ++ map not_performed (unanswered es (take i rs))) ++ not_performed r ∷ []
added_more rs es i r is missing =
    ap (λ xs. es ++ map not_performed xs) (unanswered_more rs es i r is ∙ ap (λ b. unanswered es (take i rs) ++ cond (not b) (r ∷ []) []) missing)
    ∙ ap (λ xs. es ++ xs) (map-append not_performed (unanswered es (take i rs)) (r ∷ []))
    ∙ sym (append_assoc es (map not_performed (unanswered es (take i rs))) (not_performed r ∷ []))

pub added_same : (rs : List Record) (es : List Entry) (i : ℕ) (r : Record) → slice_get rs i ≡ Some r → is_answered es r.id ≡ true
    → es ++ map not_performed (unanswered es (take (i + 1) rs)) ≡ es ++ map not_performed (unanswered es (take i rs))
added_same rs es i r is answered =
    ap (λ xs. es ++ map not_performed xs) (unanswered_more rs es i r is ∙ ap (λ b. unanswered es (take i rs) ++ cond (not b) (r ∷ []) []) answered ∙ append-nil (unanswered es (take i rs)))

-- the mark of a request
pub mark_of : (rs : List Record) (es : List Entry) (marks : List Bool) (i : ℕ) (r : Record) → AreMarks rs es (length es) marks → slice_get rs i ≡ Some r → slice_get marks i ≡ Some (is_answered es r.id)
mark_of rs es marks i r are is = are.each i r is ∙ ap (λ xs. Some (is_answered xs r.id)) (take_all (length es) es (omega arith))

-- ---- the whole

pub completed-none : (rs : List Record) (es : List Entry) → has_error es ≡ false → completed rs es ≡ es
unfolding completed
completed-none rs es none = rw none refl

pub completed-all : (rs : List Record) (es : List Entry) → has_error es ≡ true → completed rs es ≡ es ++ map not_performed (unanswered es rs)
unfolding completed
completed-all rs es some = rw some refl
