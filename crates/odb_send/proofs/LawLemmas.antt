-- What is in the rest, and that nothing in it needs what is left out.
use Rattle.std.proofs.Common.{◌≡◌, ◌≢◌, ◌∙◌, ◌⊎◌, ◌+◌, ◌<◌, ℕ, zero, suc, Bool, true, false, List, [], ◌∷◌, length, Option, None, Some, slice_get, inl, inr, refl, ap, sym, subst, arith, Contains, get_or}
use Rattle.std.proofs.lemmas.Bool.{cases_Bool, cases_eq, true≢false}
use Rattle.std.proofs.lemmas.Option.{get_or_from_slice_get}
use Rattle.odb_doc.specs.Statuses.{is_success}
use Rattle.odb_doc.specs.batch.Records.{Record}
use Rattle.odb_check.specs.PlanGraph.{unit_needed}
use Rattle.odb_check.specs.declared.need.Need.{Need}
use Rattle.odb_check.specs.declared.need.Need.TheVariants.{One, Group}
use Rattle.odb_check.specs.LeastNameFault.{HasGoodNames}
use Rattle.odb_check.specs.Needs.{needs_at}
use Rattle.odb_check.specs.Positions.{group_at}
use Rattle.odb_check.specs.Units.{unit_at, unit_count}
use Rattle.odb_check.proofs.PlanLemmas.{needs_before, needs_groups}
use Rattle.odb_check.proofs.UnitLemmas.{has_units, unit_before}
use Rattle.odb_reply.specs.Fits.{Fits, IsRow, IsTableOf, Responds, Succeeds}
use Rattle.odb_reply.specs.ResponseDocuments.{Entry}
use Rattle.odb_send.specs.Laws.{HasSucceeded, MayBeSent}
use Rattle.odb_send.specs.Repeats.{may_repeat, may_repeat_at}
use Rattle.odb_send.specs.Answers.{Answer}
use Rattle.odb_send.specs.Rests.{Change, HasChanges, IsUrl, change_at, is_kept, rest_record, select}
use Rattle.odb_send.specs.Rests.IsUrl.{same, moved}
use Rattle.odb_send.proofs.NameLemmas.{HasStayingUrls}
use Rattle.odb_send.specs.Units.{AreMarksOf, IsDone, IsInRest, IsLeftOut, marked}
use Rattle.odb_send.specs.Units.IsBarred.{own, needing}

-- an element at a position within
pub slice_get-some : {X : Type 0} (xs : List X) (i : ℕ) → i < length xs → (x : X) × (slice_get xs i ≡ Some x)
slice_get-some [] i within = absurd (omega arith)
slice_get-some (x ∷ xs) zero within = (x, refl)
slice_get-some (x ∷ xs) (suc i) within = slice_get-some xs i (omega arith)

-- ---- a unit that is not done

-- whether a unit is done is settled
done_stable : (rs : List Record) (statuses : List ℕ) (u : ℕ) → ¬ (¬ IsDone rs statuses u) → IsDone rs statuses u
done_stable rs statuses u possible i within unit = elim (cases_Bool (is_success (get_or statuses i 0))) [
  | inl is ↦ is
  | inr fails ↦ absurd (possible (λ done. true≢false (sym (done i within unit) ∙ fails)))
]

-- what a request needs is a unit of the batch
pub need_known : (rs : List Record) → HasGoodNames rs → (i : ℕ) (need : Need) → i < length rs → Contains (needs_at rs i) need → unit_needed (unit_at rs) need < unit_count rs
need_known rs good i (One r) within inside = unit_before rs r (length rs) (omega (arith, (needs_before rs good).one i r inside, within))
need_known rs good i (Group u) within inside = omega (arith, (needs_before rs good).group i u inside, unit_before rs i (length rs) within)

-- a mark of what is in the rest settles what is not
met_by : (rs : List Record) (statuses : List ℕ) (units : List Bool) (u : ℕ) → AreMarksOf rs (IsInRest rs statuses) units → u < unit_count rs → ¬ IsLeftOut rs statuses u → IsDone rs statuses u ⊎ IsInRest rs statuses u
met_by rs statuses units u are within kept_in = elim (cases_Bool (marked units u)) [
  | inl is ↦ inr ((are.each u within).0 is)
  | inr none ↦ inl (done_stable rs statuses u (λ open_unit. true≢false (sym ((are.each u within).1 (record { known = within; not_done = open_unit; not_left_out = kept_in })) ∙ none)))
]

pub rest_may_be_sent : (rs : List Record) (statuses : List ℕ) (units : List Bool) → HasGoodNames rs → AreMarksOf rs (IsInRest rs statuses) units → (u : ℕ) → IsInRest rs statuses u → MayBeSent rs statuses u
rest_may_be_sent rs statuses units good are u rest = record {
  known = rest.known;
  not_done = rest.not_done;
  repeats = λ i within unit. elim (cases_Bool (may_repeat_at rs statuses i)) [
    | inl is ↦ is
    | inr bad ↦ absurd (rest.not_left_out (subst (IsLeftOut rs statuses) unit (own i within refl bad)))
  ];
  met = λ i need within unit inside. met_by rs statuses units (unit_needed (unit_at rs) need) are (need_known rs good i need within inside)
      (λ left. rest.not_left_out (subst (IsLeftOut rs statuses) unit (needing i need within refl inside left)));
}

-- ---- what was done is not left out

success_repeats : (status : ℕ) → is_success status ≡ true → (r : Record) → may_repeat r.method status ≡ true
success_repeats status is r = rw is refl

-- a request with a success may be sent again
done_repeats : (rs : List Record) (statuses : List ℕ) (i : ℕ) → i < length rs → is_success (get_or statuses i 0) ≡ true → may_repeat_at rs statuses i ≡ true
done_repeats rs statuses i within is = let some = slice_get-some rs i within in rw some.1 (success_repeats (get_or statuses i 0) is some.0)

-- a request whose responses are successes has the status of one
pub succeeded : (rs : List Record) (es : List Entry) (places statuses : List ℕ) (r : ℕ) → IsTableOf rs es places statuses → r < length rs → Succeeds rs es r → is_success (get_or statuses r 0) ≡ true
succeeded rs es places statuses r table within success =
    let place = slice_get-some places r (omega (arith, table.places_count)) in
    let status = slice_get-some statuses r (omega (arith, table.statuses_count)) in
    let row : IsRow rs es r place.0 status.0 = table.each r place.0 status.0 place.1 status.1 in
    let is : is_success row.entry.status ≡ true = success row.entry (record { place = place.0; given = row.given; id = row.id }) in
    ap is_success (get_or_from_slice_get statuses r status.0 0 status.1 ∙ sym row.status_is) ∙ is

-- the response to a request has its status
pub responds : (rs : List Record) (es : List Entry) (places statuses : List ℕ) (i : ℕ) → IsTableOf rs es places statuses → i < length rs → (e : Entry) × Responds rs es i e × (e.status ≡ get_or statuses i 0)
responds rs es places statuses i table within =
    let place = slice_get-some places i (omega (arith, table.places_count)) in
    let status = slice_get-some statuses i (omega (arith, table.statuses_count)) in
    let row : IsRow rs es i place.0 status.0 = table.each i place.0 status.0 place.1 status.1 in
    (row.entry, record { place = place.0; given = row.given; id = row.id }, row.status_is ∙ sym (get_or_from_slice_get statuses i status.0 0 status.1))

-- what a unit that is done needs is done
needs_done : (rs : List Record) (es : List Entry) (places statuses : List ℕ) → HasGoodNames rs → Fits rs es → IsTableOf rs es places statuses → (i : ℕ) (need : Need) → i < length rs → Contains (needs_at rs i) need → IsDone rs statuses (unit_at rs i)
    → IsDone rs statuses (unit_needed (unit_at rs) need)
needs_done rs es places statuses good fits table i (Group u) within inside done =
    let (e, answered, status) = responds rs es places statuses i table within in
    let satisfied = fits.rests_on_successes i e (Group u) answered (ap is_success status ∙ done i within refl) inside in
    λ r less unit. succeeded rs es places statuses r table less (satisfied r unit)
needs_done rs es places statuses good fits table i (One r) within inside done = elim (cases_eq (unit_at rs r) (unit_at rs i)) [
  | inl one ↦ subst (IsDone rs statuses) (sym one) done
  | inr other ↦ by_group (group_at rs r) refl other
]
  where
    less : r < length rs
    less = omega (arith, (needs_before rs good).one i r inside, within)

    by_group : (group : Option (List ℕ)) → group_at rs r ≡ group → unit_at rs r ≢ unit_at rs i → IsDone rs statuses (unit_at rs r)
    by_group None alone other j inside_too unit = elim (((has_units rs).together j r).0 unit) [
      | inl alone_there ↦
          let (e, answered, status) = responds rs es places statuses i table within in
          let satisfied = fits.rests_on_successes i e (One r) answered (ap is_success status ∙ done i within refl) inside in
          subst (λ k. is_success (get_or statuses k 0) ≡ true) (sym alone_there) (succeeded rs es places statuses r table less satisfied)
      | inr (group, here, there) ↦ absurd (cc (alone, there))
    ]
    by_group (Some group) of_group other j inside_too unit =
        let (e, answered, status) = responds rs es places statuses i table within in
        let apart : ¬ (group_at rs i ≡ Some group) = λ same. other (((has_units rs).together r i).1 (inr (group, of_group, same))) in
        let needed : Contains (needs_at rs i) (Group (unit_at rs r)) = (needs_groups rs good).needed i r group inside of_group apart in
        let satisfied = fits.rests_on_successes i e (Group (unit_at rs r)) answered (ap is_success status ∙ done i within refl) needed in
        succeeded rs es places statuses j table inside_too (satisfied j unit)

pub done_stays : (rs : List Record) (es : List Entry) (places statuses : List ℕ) → HasGoodNames rs → Fits rs es → IsTableOf rs es places statuses → (u : ℕ) → IsLeftOut rs statuses u → ¬ IsDone rs statuses u
done_stays rs es places statuses good fits table u (own i within bound bad) done = true≢false (sym (done_repeats rs statuses i within (done i within refl)) ∙ bad)
done_stays rs es places statuses good fits table u (needing i need within bound inside left) done =
    done_stays rs es places statuses good fits table (unit_needed (unit_at rs) need) left (needs_done rs es places statuses good fits table i need within inside done)

-- ---- nothing is left to send

select_none : {X Y : Type 0} (passes : ℕ → Bool) (make : ℕ → X → Y) (i : ℕ) (xs : List X) → ((offset : ℕ) → offset < length xs → passes (i + offset) ≡ false) → select passes make i xs ≡ []
select_none passes make i [] none = refl
select_none passes make i (x ∷ xs) none =
    let first : passes i ≡ false = ap passes (omega arith) ∙ none 0 (omega arith) in
    rw first (select_none passes make (i + 1) xs (λ offset less. let same : (i + 1) + offset ≡ i + suc offset = omega arith in ap passes same ∙ none (suc offset) (omega arith)))

pub none_left : (rs : List Record) (statuses : List ℕ) (units : List Bool) (list : List Change) → AreMarksOf rs (IsInRest rs statuses) units → HasSucceeded rs statuses
    → select (is_kept rs units) (λ i r. rest_record rs units (change_at list i) r) 0 rs ≡ []
none_left rs statuses units list are all = select_none (is_kept rs units) (λ i r. rest_record rs units (change_at list i) r) 0 rs (λ offset less. gone (0 + offset) (omega arith))
  where
    gone : (i : ℕ) → i < length rs → is_kept rs units i ≡ false
    gone i less = elim (cases_Bool (is_kept rs units i)) [
      | inl is ↦ absurd (((are.each (unit_at rs i) (unit_before rs i (length rs) less)).0 is).not_done (λ j within unit. all j within))
      | inr none ↦ none
    ]

-- what may be sent is not left out
sent_stays : (rs : List Record) (es : List Entry) (places statuses : List ℕ) → HasGoodNames rs → Fits rs es → IsTableOf rs es places statuses → (u : ℕ) → IsLeftOut rs statuses u → ¬ MayBeSent rs statuses u
sent_stays rs es places statuses good fits table u (own i within bound bad) sent = true≢false (sym (sent.repeats i within refl) ∙ bad)
sent_stays rs es places statuses good fits table u (needing i need within bound inside left) sent = elim (sent.met i need within refl inside) [
  | inl done ↦ done_stays rs es places statuses good fits table (unit_needed (unit_at rs) need) left done
  | inr rest ↦ rest.not_left_out left
]

pub may_be_sent_rests : (rs : List Record) (es : List Entry) (places statuses : List ℕ) → HasGoodNames rs → Fits rs es → IsTableOf rs es places statuses → (u : ℕ) → MayBeSent rs statuses u → IsInRest rs statuses u
may_be_sent_rests rs es places statuses good fits table u sent = record {
  known = sent.known;
  not_done = sent.not_done;
  not_left_out = λ left. sent_stays rs es places statuses good fits table u left sent;
}

-- URLs that stay refer to nothing that is not in the rest
pub urls_stay : (rs : List Record) (units : List Bool) (answers : ℕ → Answer) (list : List Change) → HasChanges rs units answers list → HasStayingUrls rs units list
urls_stay rs units answers list are i p within stays leaves = by_url (change_at list i).url (are.each i within).url stays
  where
    by_url : (url : Option (List ℕ)) → IsUrl rs units answers i url → url ≡ None → ⊥
    by_url url (same none) is = none p leaves
    by_url url (moved text moves) is = cc (is)
