-- Responses that fit a batch, with those to its rest in place of the responses to the same requests, fit the batch.
use Rattle.std.proofs.Common.{◌≡◌, ◌≢◌, ◌∙◌, ◌⊎◌, ◌<◌, ℕ, zero, suc, Bool, true, false, not, cond, ◌||◌, List, [], ◌∷◌, ◌++◌, length, Option, None, Some, option_map, slice_get, get_or, inl, inr, refl, ap, sym, subst, arith, Contains, bytes_eq}
use Rattle.std.specs.List.{AllZip, filter, list_any}
use Rattle.std.proofs.lemmas.Bool.{cases_Bool, cases_eq, true≢false}
use Rattle.std.proofs.lemmas.Slice.Eq.{bytes_eq-Decides}
use Rattle.std.proofs.lemmas.Option.{get_or_from_slice_get, same_Some, slice_get-get_or, slice_get_within}
use Rattle.odb_doc.specs.Statuses.{is_success}
use Rattle.odb_doc.specs.batch.Records.{Record}
use Rattle.odb_doc.proofs.ElementLemmas.{Contains-cases, Contains-head, Contains-tail}
use Rattle.odb_check.specs.PlanGraph.{unit_needed}
use Rattle.odb_check.specs.declared.need.Need.{Need}
use Rattle.odb_check.specs.declared.need.Need.TheVariants.{One, Group}
use Rattle.odb_check.specs.LeastNameFault.{HasGoodNames}
use Rattle.odb_check.specs.Needs.{needs_at}
use Rattle.odb_check.specs.Positions.{group_at, id_at}
use Rattle.odb_check.specs.Units.{unit_at, unit_count}
use Rattle.odb_check.proofs.AnyLemmas.{Contains-none}
use Rattle.odb_check.proofs.PlanLemmas.{has_positions, needs_before, needs_groups}
use Rattle.odb_check.proofs.PositionLemmas.{id_within}
use Rattle.odb_check.proofs.UnitLemmas.{has_units, unit_before}
use Rattle.odb_reply.specs.Completed.{is_answered}
use Rattle.odb_reply.specs.Fits.{Fits, IsOnlyOne, IsSatisfied, IsTableOf, Responds, Succeeds, id_in}
use Rattle.odb_reply.specs.Places.{IsOnce}
use Rattle.odb_reply.specs.ResponseDocuments.{Entry}
use Rattle.odb_reply.proofs.IdLemmas.{one_position}
use Rattle.odb_reply.proofs.SliceLemmas.{map_some}
use Rattle.odb_send.specs.Laws.{IsSameNeed, with_rest}
use Rattle.odb_send.specs.Answers.{Answer}
use Rattle.odb_send.specs.Rests.{Change, HasChanges, is_kept, rest_records}
use Rattle.odb_send.specs.Units.{AreMarksOf, IsDone, IsInRest, marked}
use Rattle.odb_send.proofs.LawLemmas.{need_known, responds, rest_may_be_sent, succeeded, urls_stay}
use Rattle.odb_send.proofs.NameLemmas.{HasStayingUrls, rest_good}
use Rattle.odb_send.proofs.PlanLemmas.{part_needs}
use Rattle.odb_send.proofs.PositionLemmas.{filter-from, filter-to, group_to, id_from, id_to, kept_at, source}

-- ---- elements

at-place : {X : Type 0} (xs : List X) (k : ℕ) (x : X) → slice_get xs k ≡ Some x → Contains xs x
at-place xs k x is = (k, slice_get_within xs k x is, get_or_from_slice_get xs k x x is)

place-of : {X : Type 0} (xs : List X) (x : X) → Contains xs x → (k : ℕ) × (slice_get xs k ≡ Some x)
place-of xs x has = (has.0, slice_get-get_or xs has.0 x has.1 ∙ ap Some has.2)

in-either : {X : Type 0} (xs ys : List X) (x : X) → Contains (xs ++ ys) x → Contains xs x ⊎ Contains ys x
in-either [] ys x has = inr has
in-either (y ∷ xs) ys x has = elim (Contains-cases y x (xs ++ ys) has) [
  | inl here ↦ inl (subst (Contains (y ∷ xs)) here (Contains-head y xs))
  | inr later ↦ elim (in-either xs ys x later) [ inl first ↦ inl (Contains-tail y x xs first) | inr second ↦ inr second ]
]

any-from : {X : Type 0} (test : X → Bool) (xs : List X) → list_any test xs ≡ true → (x : X) × Contains xs x × (test x ≡ true)
any-from test [] is = absurd (true≢false (sym is))
any-from {X} test (y ∷ xs) is = elim (cases_Bool (test y)) [
  | inl here ↦ (y, Contains-head y xs, here)
  | inr other ↦ let more = any-from test xs (rw other at is) in (more.0, Contains-tail y more.0 xs more.1, more.2)
]

any-to : {X : Type 0} (test : X → Bool) (xs : List X) (x : X) → Contains xs x → test x ≡ true → list_any test xs ≡ true
any-to test [] x has is = absurd (Contains-none x has)
any-to test (y ∷ xs) x has is = elim (Contains-cases y x xs has) [
  | inl here ↦ rw (ap test here ∙ is) refl
  | inr later ↦ rw (any-to test xs x later is) (ends (test y))
]
  where
    ends : (b : Bool) → (b || true) ≡ true
    ends true = refl
    ends false = refl

zip-back : {X Y : Type 0} (P : X → Y → Type 0) (xs : List X) (ys : List Y) (y : Y) → AllZip P xs ys → Contains ys y → (x : X) × Contains xs x × P x y
zip-back P [] [] y all has = absurd (Contains-none y has)
zip-back P [] (z ∷ ys) y all has = absurd all
zip-back P (x ∷ xs) [] y all has = absurd all
zip-back P (x ∷ xs) (z ∷ ys) y all has = elim (Contains-cases z y ys has) [
  | inl here ↦ (x, Contains-head x xs, subst (P x) here all.0)
  | inr later ↦ let more = zip-back P xs ys y all.1 later in (more.0, Contains-tail x more.0 xs more.1, more.2)
]

-- ---- the response with an id

abbrev HasNone : List Entry → List ℕ → Type 0
HasNone es id = (k : ℕ) → ¬ (id_in es k ≡ Some id)

abbrev HasOne : List Entry → List ℕ → Type 0
HasOne es id = (k : ℕ) × IsOnlyOne es id k

has-none : (es : List Entry) (id : List ℕ) → ((e : Entry) → Contains es e → e.id ≢ id) → HasNone es id
has-none es id none k is = let found = map_some (λ (e : Entry). e.id) (slice_get es k) id is in none found.0 (at-place es k found.0 found.1) found.2

skip-one : (e : Entry) (es : List Entry) (id : List ℕ) → e.id ≢ id → HasOne es id → HasOne (e ∷ es) id
skip-one e es id other (k, one) = (suc k, record { has = one.has; only = λ j is. at j is })
  where
    at : (j : ℕ) → id_in (e ∷ es) j ≡ Some id → j ≡ suc k
    at zero is = absurd (other (same_Some e.id id is))
    at (suc j) is = ap suc (one.only j is)

first-one : (e : Entry) (es : List Entry) (id : List ℕ) → e.id ≡ id → HasNone es id → HasOne (e ∷ es) id
first-one e es id here none = (0, record { has = ap Some here; only = λ j is. at j is })
  where
    at : (j : ℕ) → id_in (e ∷ es) j ≡ Some id → j ≡ 0
    at zero is = refl
    at (suc j) is = absurd (none j is)

-- of those that pass, if the one with the id does
filter-one : (test : Entry → Bool) (es : List Entry) (id : List ℕ) → ((e : Entry) → e.id ≡ id → test e ≡ true) → HasOne es id → HasOne (filter test es) id
filter-one test [] id passes (k, one) = absurd (cc (one.has))
filter-one test (e ∷ es) id passes (zero, one) =
    let here : e.id ≡ id = same_Some e.id id one.has in
    let none : HasNone (filter test es) id = has-none (filter test es) id (λ x has same.
    let found = place-of es x (filter-from test es x has).0 in
    let late : suc found.0 ≡ 0 = one.only (suc found.0) (ap (option_map (λ (y : Entry). y.id)) found.1 ∙ ap Some same) in
    omega (arith, late)) in
    rw (passes e here) (first-one e (filter test es) id here none)
filter-one test (e ∷ es) id passes (suc k, one) =
    let other : e.id ≢ id = λ same. let early : 0 ≡ suc k = one.only 0 (ap Some same) in omega (arith, early) in
    let more = filter-one test es id passes (k, record { has = one.has; only = λ j is. let late : suc j ≡ suc k = one.only (suc j) is in omega (arith, late) }) in
    by_first (test e) other more
  where
    by_first : (b : Bool) → e.id ≢ id → HasOne (filter test es) id → HasOne (cond b (e ∷ filter test es) (filter test es)) id
    by_first true other more = skip-one e (filter test es) id other more
    by_first false other more = more

before-none : (es others : List Entry) (id : List ℕ) → HasNone others id → HasOne es id → HasOne (es ++ others) id
before-none [] others id none (k, one) = absurd (cc (one.has))
before-none (e ∷ es) others id none (zero, one) = first-one e (es ++ others) id (same_Some e.id id one.has) (has-none (es ++ others) id (λ x has same. elim (in-either es others x has) [
  | inl first ↦
      let found = place-of es x first in
      let late : suc found.0 ≡ 0 = one.only (suc found.0) (ap (option_map (λ (y : Entry). y.id)) found.1 ∙ ap Some same) in
      omega (arith, late)
  | inr second ↦ let found = place-of others x second in none found.0 (ap (option_map (λ (y : Entry). y.id)) found.1 ∙ ap Some same)
]))
before-none (e ∷ es) others id none (suc k, one) =
    let other : e.id ≢ id = λ same. let early : 0 ≡ suc k = one.only 0 (ap Some same) in omega (arith, early) in
    skip-one e (es ++ others) id other (before-none es others id none (k, record { has = one.has; only = λ j is. let late : suc j ≡ suc k = one.only (suc j) is in omega (arith, late) }))

after-none : (es others : List Entry) (id : List ℕ) → HasNone es id → HasOne others id → HasOne (es ++ others) id
after-none [] others id none one = one
after-none (e ∷ es) others id none one = skip-one e (es ++ others) id (λ same. none 0 (ap Some same)) (after-none es others id (λ k is. none (suc k) is) one)

-- two responses to one request of responses that fit are one
one-response : (rs : List Record) (es : List Entry) (i : ℕ) (e f : Entry) → Fits rs es → Responds rs es i e → Responds rs es i f → e ≡ f
one-response rs es i e f fits one two =
    let only = fits.one i e.id one.id in
    let named : Some f.id ≡ Some e.id = sym two.id ∙ one.id in
    let first : one.place ≡ only.0 = only.1.only one.place (ap (option_map (λ (x : Entry). x.id)) one.given) in
    let second : two.place ≡ only.0 = only.1.only two.place (ap (option_map (λ (x : Entry). x.id)) two.given ∙ named) in
    same_Some e f (sym one.given ∙ ap (slice_get es) (first ∙ sym second) ∙ two.given)

-- ---- the responses with those to the rest

module _ (rs : List Record) (es : List Entry) (places statuses : List ℕ) (kept : List Bool) (changes : List Change) (recorded : ℕ → Answer) (others : List Entry) (good : HasGoodNames rs) (fits : Fits rs es) (table : IsTableOf rs es places statuses)
    (units : AreMarksOf rs (IsInRest rs statuses) kept) (moved : HasChanges rs kept recorded changes) (fits_rest : Fits (rest_records rs kept changes) others) where
  abbrev ys : List Record
  ys = rest_records rs kept changes

  abbrev stays : Entry → Bool
  stays e = not (is_answered others e.id)

  abbrev all : List Entry
  all = with_rest es others

  staying : HasStayingUrls rs kept changes
  staying = urls_stay rs kept recorded changes moved

  good_rest : HasGoodNames ys
  good_rest = rest_good rs kept changes good staying

  once : IsOnce rs
  once = one_position rs (has_positions rs good)

  -- a response to the rest is to a request in it
  of-rest : (i : ℕ) (e : Entry) → Contains others e → id_at rs i ≡ Some e.id → (m : ℕ) × (m < length ys) × (source rs kept m ≡ i) × (is_kept rs kept i ≡ true)
  of-rest i e has named =
      let found = place-of others e has in
      let known = fits_rest.known found.0 e.id (ap (option_map (λ (x : Entry). x.id)) found.1) in
      let from = id_from rs kept changes known.0 e.id known.1 in
      let same = once (source rs kept known.0) i e.id from.was named in
      (known.0, from.within, same, ap (is_kept rs kept) (sym same) ∙ from.stays)

  -- a request in the rest is answered there
  answered : (i : ℕ) (id : List ℕ) → id_at rs i ≡ Some id → is_kept rs kept i ≡ true → is_answered others id ≡ true
  answered i id named is =
      let there = kept_at rs kept changes i (id_within rs i id named) is in
      let one = fits_rest.one there.0 id (id_to rs kept changes there.0 there.1 ∙ ap (id_at rs) there.2 ∙ named) in
      let found = map_some (λ (e : Entry). e.id) (slice_get others one.0) id one.1.has in
      any-to (λ (e : Entry). bytes_eq id e.id) others found.0 (at-place others one.0 found.0 found.1) ((bytes_eq-Decides id found.0.id).1 (sym found.2))

  unanswered : (i : ℕ) (id : List ℕ) → id_at rs i ≡ Some id → is_kept rs kept i ≡ false → is_answered others id ≡ false
  unanswered i id named none = elim (cases_Bool (is_answered others id)) [
    | inl is ↦
        let found = any-from (λ (e : Entry). bytes_eq id e.id) others is in
        let same : id ≡ found.0.id = (bytes_eq-Decides id found.0.id).0 found.2 in
        absurd (true≢false (sym (of-rest i found.0 found.1 (named ∙ ap Some same)).3 ∙ none))
    | inr is ↦ is
  ]

  -- a response is one to a request in the rest, or one that stays
  by-origin : (i : ℕ) (e : Entry) → Responds rs all i e → ((is_kept rs kept i ≡ false) × Responds rs es i e) ⊎ ((m : ℕ) × (m < length ys) × (source rs kept m ≡ i) × (is_kept rs kept i ≡ true) × Responds ys others m e)
  by-origin i e responds = elim (in-either (filter stays es) others e (at-place all responds.place e responds.given)) [
    | inl first ↦
        let from = filter-from stays es e first in
        let found = place-of es e from.0 in
        elim (cases_Bool (is_kept rs kept i)) [
          | inl is ↦ absurd (true≢false (sym from.1 ∙ ap not (answered i e.id responds.id is)))
          | inr none ↦ inl (none, record { place = found.0; given = found.1; id = responds.id })
        ]
    | inr second ↦
        let there = of-rest i e second responds.id in
        let found = place-of others e second in
        inr (there.0, there.1, there.2, there.3, record { place = found.0; given = found.1; id = id_to rs kept changes there.0 there.1 ∙ ap (id_at rs) there.2 ∙ responds.id })
  ]

  -- what succeeds and is not in the rest still does
  still-succeeds : (r : ℕ) → is_kept rs kept r ≡ false → Succeeds rs es r → Succeeds rs all r
  still-succeeds r none success e responds = elim (by-origin r e responds) [
    | inl before ↦ success e before.1
    | inr there ↦ absurd (true≢false (sym there.3 ∙ none))
  ]

  -- what succeeds in the rest does so in all
  now-succeeds : (m r : ℕ) → m < length ys → source rs kept m ≡ r → is_kept rs kept r ≡ true → Succeeds ys others m → Succeeds rs all r
  now-succeeds m r within same is success e responds = elim (by-origin r e responds) [
    | inl before ↦ absurd (true≢false (sym is ∙ before.0))
    | inr there ↦
        let found = there.4 in
        success e (record { place = found.place; given = found.given; id = id_to rs kept changes m within ∙ ap (id_at rs) same ∙ responds.id })
  ]

  unmarked : (u : ℕ) → u < unit_count rs → IsDone rs statuses u → marked kept u ≡ false
  unmarked u within done = elim (cases_Bool (marked kept u)) [
    | inl is ↦ absurd (((units.each u within).0 is).not_done done)
    | inr none ↦ none
  ]

  -- a request of a unit that is done has succeeded
  done-succeeds : (r : ℕ) → IsDone rs statuses (unit_at rs r) → Succeeds rs es r
  done-succeeds r done e answers =
      let within = id_within rs r e.id answers.id in
      let (row, there, status) = responds rs es places statuses r table within in
      let same : e ≡ row = one-response rs es r e row fits answers there in
      ap (λ (x : Entry). is_success x.status) same ∙ ap is_success status ∙ done r within refl

  -- what a success needs of another unit is of one that is done
  need-done : (i : ℕ) (e : Entry) (need : Need) → Responds rs es i e → is_success e.status ≡ true → Contains (needs_at rs i) need → (unit_needed (unit_at rs) need ≡ unit_at rs i) ⊎ IsDone rs statuses (unit_needed (unit_at rs) need)
  need-done i e (Group u) answers success inside =
      let satisfied = fits.rests_on_successes i e (Group u) answers success inside in
      inr (λ r less unit. succeeded rs es places statuses r table less (satisfied r unit))
  need-done i e (One r) answers success inside = elim (cases_eq (unit_at rs r) (unit_at rs i)) [
    | inl one ↦ inl one
    | inr other ↦ inr (by_group (group_at rs r) refl other)
  ]
    where
      within : i < length rs
      within = id_within rs i e.id answers.id

      less : r < length rs
      less = omega (arith, (needs_before rs good).one i r inside, within)

      by_group : (group : Option (List ℕ)) → group_at rs r ≡ group → unit_at rs r ≢ unit_at rs i → IsDone rs statuses (unit_at rs r)
      by_group None alone other j inside_too unit = elim (((has_units rs).together j r).0 unit) [
        | inl alone_there ↦
            let satisfied = fits.rests_on_successes i e (One r) answers success inside in
            subst (λ k. is_success (get_or statuses k 0) ≡ true) (sym alone_there) (succeeded rs es places statuses r table less satisfied)
        | inr (group, here, there) ↦ absurd (cc (alone, there))
      ]
      by_group (Some group) of_group other j inside_too unit =
          let apart : ¬ (group_at rs i ≡ Some group) = λ same. other (((has_units rs).together r i).1 (inr (group, of_group, same))) in
          let needed : Contains (needs_at rs i) (Group (unit_at rs r)) = (needs_groups rs good).needed i r group inside of_group apart in
          let satisfied = fits.rests_on_successes i e (Group (unit_at rs r)) answers success needed in
          succeeded rs es places statuses j table inside_too (satisfied j unit)

  -- what is satisfied of a unit that is not in the rest still is
  still-satisfied : (need : Need) → marked kept (unit_needed (unit_at rs) need) ≡ false → IsSatisfied rs es need → IsSatisfied rs all need
  still-satisfied (One r) none satisfied = still-succeeds r none satisfied
  still-satisfied (Group u) none satisfied = λ r unit. still-succeeds r (ap (marked kept) unit ∙ none) (satisfied r unit)

  -- what is done is satisfied
  done-satisfied : (need : Need) → IsDone rs statuses (unit_needed (unit_at rs) need) → IsSatisfied rs es need
  done-satisfied (One r) done = done-succeeds r done
  done-satisfied (Group u) done = λ r unit. done-succeeds r (subst (IsDone rs statuses) (sym unit) done)

  -- what is satisfied in the rest is satisfied in all
  now-satisfied : (m : ℕ) (other need : Need) → m < length ys → Contains (needs_at ys m) other → IsSameNeed ys rs (source rs kept) other need → marked kept (unit_needed (unit_at rs) need) ≡ true → IsSatisfied ys others other → IsSatisfied rs all need
  now-satisfied m (One p) (One r) within inside same is satisfied =
      let less : p < length ys = omega (arith, (needs_before ys good_rest).one m p inside, within) in
      now-succeeds p r less same is satisfied
  now-satisfied m (One p) (Group u) within inside same is satisfied = absurd same
  now-satisfied m (Group v) (One r) within inside same is satisfied = absurd same
  now-satisfied m (Group v) (Group u) within inside same is satisfied = λ r unit e responds.
      let here : is_kept rs kept r ≡ true = ap (marked kept) unit ∙ is in
      let there = kept_at rs kept changes r (id_within rs r e.id responds.id) here in
      let member : unit_at ys there.0 ≡ v = (same there.0 there.1).1 (ap (unit_at rs) there.2 ∙ unit) in
      now-succeeds there.0 r there.1 there.2 here (satisfied there.0 member) e responds

  -- a success that stays
  old-rests : (i : ℕ) (e : Entry) (need : Need) → is_kept rs kept i ≡ false → Responds rs es i e → is_success e.status ≡ true → Contains (needs_at rs i) need → IsSatisfied rs all need
  old-rests i e need none answers success inside =
      let known = need_known rs good i need (id_within rs i e.id answers.id) inside in
      let out : marked kept (unit_needed (unit_at rs) need) ≡ false = elim (need-done i e need answers success inside) [ inl own ↦ ap (marked kept) own ∙ none | inr done ↦ unmarked (unit_needed (unit_at rs) need) known done ] in
      still-satisfied need out (fits.rests_on_successes i e need answers success inside)

  -- a success in the rest
  new-rests : (m i : ℕ) (e : Entry) (need : Need) → m < length ys → source rs kept m ≡ i → is_kept rs kept i ≡ true → i < length rs → Responds ys others m e → is_success e.status ≡ true → Contains (needs_at rs i) need → IsSatisfied rs all need
  new-rests m i e need within same is inside_rs answers success inside = elim (cases_Bool (marked kept (unit_needed (unit_at rs) need))) [
    | inl there ↦
        let needs = part_needs rs kept recorded changes good staying moved m within in
        let listed : Contains (filter (λ d. marked kept (unit_needed (unit_at rs) d)) (needs_at rs (source rs kept m))) need = filter-to (λ d. marked kept (unit_needed (unit_at rs) d)) (needs_at rs (source rs kept m)) need (subst (λ k. Contains (needs_at rs k) need) (sym same) inside) there in
        let back = zip-back (IsSameNeed ys rs (source rs kept)) (needs_at ys m) (filter (λ d. marked kept (unit_needed (unit_at rs) d)) (needs_at rs (source rs kept m))) need needs listed in
        now-satisfied m back.0 need within back.1 back.2 there (fits_rest.rests_on_successes m e back.0 answers success back.1)
    | inr none ↦
        let unit = (units.each (unit_at rs i) (unit_before rs i (length rs) inside_rs)).0 is in
        let known = need_known rs good i need inside_rs inside in
        elim ((rest_may_be_sent rs statuses kept good units (unit_at rs i) unit).met i need inside_rs refl inside) [
          | inl done ↦ still-satisfied need none (done-satisfied need done)
          | inr rest ↦ absurd (true≢false (sym ((units.each (unit_needed (unit_at rs) need) known).1 rest) ∙ none))
        ]
  ]

  pub resent : Fits rs all
  resent = record {
    one = λ i id named. elim (cases_Bool (is_kept rs kept i)) [
      | inl is ↦
          let there = kept_at rs kept changes i (id_within rs i id named) is in
          let one = fits_rest.one there.0 id (id_to rs kept changes there.0 there.1 ∙ ap (id_at rs) there.2 ∙ named) in
          let none : HasNone (filter stays es) id = has-none (filter stays es) id (λ e has same. true≢false (sym (filter-from stays es e has).1 ∙ ap not (ap (is_answered others) same ∙ answered i id named is))) in
          after-none (filter stays es) others id none one
      | inr out ↦
          let none : HasNone others id = has-none others id (λ e has same. true≢false (sym (of-rest i e has (named ∙ ap Some (sym same))).3 ∙ out)) in
          before-none (filter stays es) others id none (filter-one stays es id (λ e same. ap not (ap (is_answered others) same ∙ unanswered i id named out)) (fits.one i id named))
    ];
    known = λ k id is.
        let found = map_some (λ (e : Entry). e.id) (slice_get all k) id is in
        elim (in-either (filter stays es) others found.0 (at-place all k found.0 found.1)) [
          | inl first ↦ let there = place-of es found.0 (filter-from stays es found.0 first).0 in fits.known there.0 id (ap (option_map (λ (e : Entry). e.id)) there.1 ∙ ap Some found.2)
          | inr second ↦
              let there = place-of others found.0 second in
              let known = fits_rest.known there.0 id (ap (option_map (λ (e : Entry). e.id)) there.1 ∙ ap Some found.2) in
              let from = id_from rs kept changes known.0 id known.1 in
              (source rs kept known.0, from.was)
        ];
    groups = λ i e answers. elim (by-origin i e answers) [
      | inl before ↦ fits.groups i e before.1
      | inr there ↦ fits_rest.groups there.0 e there.4 ∙ group_to rs kept changes there.0 there.1 ∙ ap (group_at rs) there.2
    ];
    rests_on_successes = λ i e need answers success inside. elim (by-origin i e answers) [
      | inl before ↦ old-rests i e need before.0 before.1 success inside
      | inr there ↦ new-rests there.0 i e need there.1 there.2 there.3 (id_within rs i e.id answers.id) there.4 success inside
    ];
  }
