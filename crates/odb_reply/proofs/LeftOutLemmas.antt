-- What is true of completed responses: after an error no request is without one, and nothing is added if none is without one.
use Rattle.std.proofs.Common.{◌≡◌, ◌∙◌, ℕ, zero, suc, true, false, List, [], ◌∷◌, ◌++◌, map, Some, slice_get, inl, inr, refl, ap, sym, append-nil}
use Rattle.std.proofs.lemmas.Bool.{cases_Bool, false≢true}
use Rattle.std.proofs.lemmas.Slice.Eq.{bytes_eq-Decides}
use Rattle.std.specs.Str.{bytes_eq}
use Rattle.odb_doc.specs.batch.Records.{Record}
use Rattle.odb_check.specs.Positions.{id_at}
use Rattle.odb_reply.specs.declared.match_fault.MatchRule.TheVariants.{ResponseMissing}
use Rattle.odb_reply.specs.ResponseDocuments.{Entry}
use Rattle.odb_reply.specs.Completed.{completed, has_error, is_answered, not_performed, unanswered}
use Rattle.odb_reply.specs.Fits.{id_in}
use Rattle.odb_reply.specs.MatchFaults.{Breaks}
use Rattle.odb_reply.proofs.CompletedLemmas.{completed-all, completed-none}
use Rattle.odb_reply.proofs.SliceLemmas.{map_some, some_and}

-- a response with the id has a place
answered_at : (es : List Entry) (id : List ℕ) → is_answered es id ≡ true → (k : ℕ) × (id_in es k ≡ Some id)
answered_at [] id answered = absurd (false≢true answered)
answered_at (e ∷ es) id answered = elim (cases_Bool (bytes_eq id e.id)) [
  | inl same ↦ (0, ap Some (sym ((bytes_eq-Decides id e.id).0 same)))
  | inr differs ↦ let rest = answered_at es id (rw differs at answered) in (suc rest.0, rest.1)
]

-- and what has a place is found
at_answered : (es : List Entry) (id : List ℕ) (k : ℕ) → id_in es k ≡ Some id → is_answered es id ≡ true
at_answered [] id k has = absurd (cc (has))
at_answered (e ∷ es) id zero has = let same : id ≡ e.id = cc (has) in rw ((bytes_eq-Decides id e.id).1 same) refl
at_answered (e ∷ es) id (suc k) has = elim (cases_Bool (bytes_eq id e.id)) [
  | inl same ↦ rw same refl
  | inr differs ↦ rw differs (at_answered es id k has)
]

id_in-left : (es others : List Entry) (k : ℕ) (id : List ℕ) → id_in es k ≡ Some id → id_in (es ++ others) k ≡ Some id
id_in-left [] others k id has = absurd (cc (has))
id_in-left (e ∷ es) others zero id has = has
id_in-left (e ∷ es) others (suc k) id has = id_in-left es others k id has

id_in-right : (es others : List Entry) (k : ℕ) → (j : ℕ) × (id_in (es ++ others) j ≡ id_in others k)
id_in-right [] others k = (k, refl)
id_in-right (e ∷ es) others k = let rest = id_in-right es others k in (suc rest.0, rest.1)

-- a request without a response is among those that are added
added_at : (rs : List Record) (es : List Entry) (i : ℕ) (r : Record) → slice_get rs i ≡ Some r → is_answered es r.id ≡ false → (k : ℕ) × (id_in (map not_performed (unanswered es rs)) k ≡ Some r.id)
added_at [] es i r is missing = absurd (cc (is))
added_at (q ∷ rs) es zero r is missing =
    let same : q ≡ r = cc (is) in
    let here : is_answered es q.id ≡ false = ap (λ (x : Record). is_answered es x.id) same ∙ missing in
    (0, rw here (ap (λ (x : Record). Some x.id) same))
added_at (q ∷ rs) es (suc i) r is missing =
    let rest = added_at rs es i r is missing in
    elim (cases_Bool (is_answered es q.id)) [
      | inl answered ↦ (rest.0, rw answered rest.1)
      | inr missing ↦ (suc rest.0, rw missing rest.1)
    ]

-- after an error each request has a response
pub none_missing : (rs : List Record) (es : List Entry) → has_error es ≡ true → (i : ℕ) → ¬ Breaks rs (completed rs es) ResponseMissing i
none_missing rs es error i broken =
    let (id, has, none) = some_and (id_at rs i) _ broken in
    let request = map_some (λ (r : Record). r.id) (slice_get rs i) id has in
    let all = completed-all rs es error in
    elim (cases_Bool (is_answered es request.0.id)) [
      | inl answered ↦
          let here = answered_at es request.0.id answered in
          none here.0 (ap (λ xs. id_in xs here.0) all ∙ id_in-left es _ here.0 request.0.id here.1 ∙ ap Some request.2)
      | inr missing ↦
          let added = added_at rs es i request.0 request.1 missing in
          let there = id_in-right es (map not_performed (unanswered es rs)) added.0 in
          none there.0 (ap (λ xs. id_in xs there.0) all ∙ there.1 ∙ added.1 ∙ ap Some request.2)
    ]

none_unanswered : (rs : List Record) (es : List Entry) → ((i : ℕ) (r : Record) → slice_get rs i ≡ Some r → is_answered es r.id ≡ true) → unanswered es rs ≡ []
none_unanswered [] es all = refl
none_unanswered (r ∷ rs) es all = rw (all 0 r refl) (none_unanswered rs es (λ i q is. all (suc i) q is))

-- if each request has a response, nothing is added
pub none_added : (rs : List Record) (es : List Entry) → ((i : ℕ) → ¬ Breaks rs es ResponseMissing i) → completed rs es ≡ es
none_added rs es none = elim (cases_Bool (has_error es)) [
  | inl error ↦
      let nobody = none_unanswered rs es (λ i r is. elim (cases_Bool (is_answered es r.id)) [
        | inl answered ↦ answered
        | inr missing ↦ absurd (none i (rw is (λ k has. false≢true (sym missing ∙ at_answered es r.id k has))))
      ]) in
      completed-all rs es error ∙ ap (λ xs. es ++ map not_performed xs) nobody ∙ append-nil es
  | inr good ↦ completed-none rs es good
]
