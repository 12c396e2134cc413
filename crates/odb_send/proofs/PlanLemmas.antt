-- The plan of the rest is that of the batch over the requests that are in the rest.
use Rattle.std.proofs.Common.{◌≡◌, ◌∙◌, ◌↔◌, ◌<◌, ◌++◌, ℕ, Bool, true, false, cond, List, [], ◌∷◌, length, Option, None, Some, option_and_then, slice_get, inl, inr, refl, ap, sym, subst, arith, bytes_eq, IsSomeAnd}
use Rattle.std.proofs.lemmas.Option.{slice_get_within}
use Rattle.std.specs.List.{AllZip, filter, filter_map, cons_option, list_any}
use Rattle.std.proofs.lemmas.Bool.{cases_Bool, cases_order, true≢false}
use Rattle.odb_doc.specs.batch.Records.{Record}
use Rattle.odb_check.specs.PlanGraph.{unit_needed}
use Rattle.odb_check.specs.declared.fault.NameRule.TheVariants as rules
use Rattle.odb_check.specs.declared.need.Need.{Need}
use Rattle.odb_check.specs.declared.need.Need.TheVariants.{One, Group}
use Rattle.odb_check.specs.LeastNameFault.{HasGoodNames}
use Rattle.odb_check.specs.Needs.{further_names, need_at, need_of, needed_names, needs_at}
use Rattle.odb_check.specs.Positions.{id_at, group_at, names_at, reference_at, IsId}
use Rattle.odb_check.specs.Units.{position_of, referred_at, unit_at, unit_of_group}
use Rattle.odb_check.proofs.AnyLemmas.{text_listed}
use Rattle.odb_check.proofs.NeedLemmas.{is_meant, id_need, group_need}
use Rattle.odb_check.proofs.PositionLemmas.{id_within, group_within, position_none}
use Rattle.odb_check.proofs.UnitLemmas.{IsUnitOf, has_units, in_unit}
use Rattle.odb_send.specs.Laws.{IsPartOfPlan, IsSameNeed}
use Rattle.odb_doc.specs.Headers.{Header}
use Rattle.odb_send.specs.Answers.{Answer}
use Rattle.odb_send.specs.Rests.{Change, HasChanges, IsUrl, change_at, is_kept, is_kept_name, is_kept_need, rest_record, rest_records, with_url}
use Rattle.odb_send.specs.Rests.IsUrl.{same, moved}
use Rattle.odb_send.specs.Units.{marked}
use Rattle.odb_send.proofs.NameLemmas.{HasStayingUrls, rest_good}
use Rattle.odb_send.proofs.PositionLemmas.{source, IsFrom, filter-from, filter-to, group_from, group_to, id_to, in_order, is_from, kept_at, names_to, there_is}

-- ---- units

-- two positions of the rest that come from one are one
one_source : (rs : List Record) (kept : List Bool) (changes : List Change) (m n : ℕ) → m < length (rest_records rs kept changes) → n < length (rest_records rs kept changes) → source rs kept m ≡ source rs kept n → m ≡ n
one_source rs kept changes m n less within is = elim (cases_order m n) [
  | inl one ↦ one
  | inr (inl before) ↦ absurd (omega (arith, in_order rs kept changes m n before within, is))
  | inr (inr after) ↦ absurd (omega (arith, in_order rs kept changes n m after less, is))
]

same_units : (rs : List Record) (kept : List Bool) (changes : List Change) (m n : ℕ) → m < length (rest_records rs kept changes) → n < length (rest_records rs kept changes)
    → (unit_at (rest_records rs kept changes) m ≡ unit_at (rest_records rs kept changes) n) ↔ (unit_at rs (source rs kept m) ≡ unit_at rs (source rs kept n))
same_units rs kept changes m n less within = (forth, back)
  where
    forth : unit_at (rest_records rs kept changes) m ≡ unit_at (rest_records rs kept changes) n → unit_at rs (source rs kept m) ≡ unit_at rs (source rs kept n)
    forth is = elim (((has_units (rest_records rs kept changes)).together m n).0 is) [
      | inl one ↦ ap (λ k. unit_at rs (source rs kept k)) one
      | inr (group, here, there) ↦ ((has_units rs).together (source rs kept m) (source rs kept n)).1 (inr (group, (group_from rs kept changes m group here).was, (group_from rs kept changes n group there).was))
    ]

    back : unit_at rs (source rs kept m) ≡ unit_at rs (source rs kept n) → unit_at (rest_records rs kept changes) m ≡ unit_at (rest_records rs kept changes) n
    back is = elim (((has_units rs).together (source rs kept m) (source rs kept n)).0 is) [
      | inl one ↦ ap (unit_at (rest_records rs kept changes)) (one_source rs kept changes m n less within one)
      | inr (group, here, there) ↦ ((has_units (rest_records rs kept changes)).together m n).1 (inr (group, group_to rs kept changes m less ∙ here, group_to rs kept changes n within ∙ there))
    ]

-- ---- what a name resolves to

-- what is needed by a name, in the rest
pub record HasNeed (rs : List Record) (kept : List Bool) (changes : List Change) (name : List ℕ) (need : Need) : Type 0 where
  pub other : Need
  pub is : need_of (rest_records rs kept changes) name ≡ Some other
  pub same_need : IsSameNeed (rest_records rs kept changes) rs (source rs kept) other need

kept_need : (rs : List Record) (kept : List Bool) (changes : List Change) → HasGoodNames (rest_records rs kept changes) → (name : List ℕ) (need : Need) → need_of rs name ≡ Some need → marked kept (unit_needed (unit_at rs) need) ≡ true → HasNeed rs kept changes name need
kept_need rs kept changes good name (One p) is stays =
    let here : id_at rs p ≡ Some name = (is_meant rs name (One p) is).1.here in
    let (k, within, at) = kept_at rs kept changes p (id_within rs p name here) stays in
    record {
      other = One k;
      is = id_need (rest_records rs kept changes) (good rules.IdTwice) name k (id_to rs kept changes k within ∙ ap (id_at rs) at ∙ here);
      same_need = at;
    }
kept_need rs kept changes good name (Group u) is stays =
    let rest = rest_records rs kept changes in
    let unit : IsUnitOf rs name u = (is_meant rs name (Group u) is).unit in
    let here : group_at rs unit.start ≡ Some name = unit.first.here in
    let number : unit_at rs unit.start ≡ u = in_unit rs name u unit.start unit here in
    let (k, within, at) = kept_at rs kept changes unit.start (group_within rs unit.start name here) (ap (marked kept) number ∙ stays) in
    let from : unit_at rs (source rs kept k) ≡ u = ap (unit_at rs) at ∙ number in
    record {
      other = Group (unit_at rest k);
      is = group_need rest (good rules.IdIsGroup) name k (group_to rs kept changes k within ∙ ap (group_at rs) at ∙ here);
      same_need = λ m less. let both = same_units rs kept changes m k less within in ((λ one. both.0 one ∙ from), (λ one. both.1 (one ∙ sym from)));
    }

-- what the names of a list resolve to
needs_zip : (rs : List Record) (kept : List Bool) (changes : List Change) → HasGoodNames (rest_records rs kept changes) → (names : List (List ℕ))
    → AllZip (IsSameNeed (rest_records rs kept changes) rs (source rs kept)) (filter_map (need_of (rest_records rs kept changes)) (filter (is_kept_name rs kept) names)) (filter (λ need. marked kept (unit_needed (unit_at rs) need)) (filter_map (need_of rs) names))
needs_zip rs kept changes good [] = tt
needs_zip rs kept changes good (name ∷ names) = by_need (needs_zip rs kept changes good names) (need_of rs name) refl
  where
    rest : List Record
    rest = rest_records rs kept changes

    by_need : AllZip (IsSameNeed (rest_records rs kept changes) rs (source rs kept)) (filter_map (need_of (rest_records rs kept changes)) (filter (is_kept_name rs kept) names)) (filter (λ need. marked kept (unit_needed (unit_at rs) need)) (filter_map (need_of rs) names))
        → (o : Option Need) → need_of rs name ≡ o
        → AllZip (IsSameNeed (rest_records rs kept changes) rs (source rs kept)) (filter_map (need_of (rest_records rs kept changes)) (cond (is_kept_need rs kept o) (name ∷ filter (is_kept_name rs kept) names) (filter (is_kept_name rs kept) names))) (filter (λ need. marked kept (unit_needed (unit_at rs) need)) (cons_option o (filter_map (need_of rs) names)))
    by_need more None is = more
    by_need more (Some need) is = (elim (marked kept (unit_needed (unit_at rs) need)) as (λ b. marked kept (unit_needed (unit_at rs) need) ≡ b → AllZip (IsSameNeed (rest_records rs kept changes) rs (source rs kept)) (filter_map (need_of (rest_records rs kept changes)) (cond b (name ∷ filter (is_kept_name rs kept) names) (filter (is_kept_name rs kept) names))) (cond b (need ∷ filter (λ need. marked kept (unit_needed (unit_at rs) need)) (filter_map (need_of rs) names)) (filter (λ need. marked kept (unit_needed (unit_at rs) need)) (filter_map (need_of rs) names)))) [
      | false ↦ λ leaves. more
      | true ↦ λ stays.
          let found = kept_need rs kept changes good name need is stays in
          subst (λ o. AllZip (IsSameNeed (rest_records rs kept changes) rs (source rs kept)) (cons_option o (filter_map (need_of (rest_records rs kept changes)) (filter (is_kept_name rs kept) names))) (need ∷ filter (λ need. marked kept (unit_needed (unit_at rs) need)) (filter_map (need_of rs) names))) (sym found.is) (found.same_need, more)
    ]) refl

-- ---- the names that a request needs

filter-append : {X : Type 0} (test : X → Bool) (xs ys : List X) → filter test (xs ++ ys) ≡ filter test xs ++ filter test ys
filter-append test [] ys = refl
filter-append test (x ∷ xs) ys = by_first (filter-append test xs ys) (test x)
  where
    by_first : filter test (xs ++ ys) ≡ filter test xs ++ filter test ys → (b : Bool) → cond b (x ∷ filter test (xs ++ ys)) (filter test (xs ++ ys)) ≡ cond b (x ∷ filter test xs) (filter test xs) ++ filter test ys
    by_first more true = ap (λ zs. x ∷ zs) more
    by_first more false = more

-- a name that is kept is listed among those that are kept if it is listed
listed_kept : (test : List ℕ → Bool) (names : List (List ℕ)) (id : List ℕ) → test id ≡ true → list_any (bytes_eq id) (filter test names) ≡ list_any (bytes_eq id) names
listed_kept test names id passes = elim (cases_Bool (list_any (bytes_eq id) names)) [
  | inl listed ↦ (text_listed id (filter test names)).1 (filter-to test names id ((text_listed id names).0 listed) passes) ∙ sym listed
  | inr lacking ↦ elim (cases_Bool (list_any (bytes_eq id) (filter test names))) [
    | inl listed ↦ absurd (true≢false (sym ((text_listed id names).1 (filter-from test names id ((text_listed id (filter test names)).0 listed)).0) ∙ lacking))
    | inr also ↦ also ∙ sym lacking
  ]
]

further_kept : (test : List ℕ → Bool) (names : List (List ℕ)) (id : List ℕ) → test id ≡ true → further_names (filter test names) (Some id) ≡ filter test (further_names names (Some id))
further_kept test names id passes = ap (λ b. cond b [] (id ∷ [])) (listed_kept test names id passes) ∙ by_listed (list_any (bytes_eq id) names)
  where
    by_listed : (b : Bool) → cond b [] (id ∷ []) ≡ filter test (cond b [] (id ∷ []))
    by_listed true = refl
    by_listed false = ap (λ b. cond b (id ∷ []) []) (sym passes)

further_left : (test : List ℕ → Bool) (names : List (List ℕ)) (id : List ℕ) → test id ≡ false → [] ≡ filter test (further_names names (Some id))
further_left test names id fails = by_listed (list_any (bytes_eq id) names)
  where
    by_listed : (b : Bool) → [] ≡ filter test (cond b [] (id ∷ []))
    by_listed true = refl
    by_listed false = ap (λ b. cond b (id ∷ []) []) (sym fails)

-- a name of a request that is in the rest is kept, and another is not
one_kept : (rs : List Record) (kept : List Bool) (id : List ℕ) (p : ℕ) → position_of rs id ≡ Some p → is_kept_name rs kept id ≡ is_kept rs kept p
one_kept rs kept id p is = ap (λ o. is_kept_need rs kept (need_at o (unit_of_group rs id))) is

-- the position that a request refers to
referred_by : (rs : List Record) (i : ℕ) (r : Record) (id : List ℕ) → slice_get rs i ≡ Some r → r.reference ≡ Some id → referred_at rs i ≡ position_of rs id
referred_by rs i r id here refers = ap (option_and_then (position_of rs)) (ap (option_and_then (λ (q : Record). q.reference)) here ∙ refers)

-- an identifier that a batch refers to has a position
known_reference : (rs : List Record) → HasGoodNames rs → (i : ℕ) (r : Record) (id : List ℕ) → slice_get rs i ≡ Some r → r.reference ≡ Some id → (p : ℕ) × (position_of rs id ≡ Some p)
known_reference rs good i r id here refers = by_position (position_of rs id) refl
  where
    by_position : (o : Option ℕ) → position_of rs id ≡ o → (p : ℕ) × (position_of rs id ≡ Some p)
    by_position None none =
        let there : reference_at rs i ≡ Some id = ap (option_and_then (λ (q : Record). q.reference)) here ∙ refers in
        absurd (good rules.UnknownReference i (subst (λ o. IsSomeAnd o (λ x. ¬ IsId rs x)) (sym there) (λ known. position_none rs id none known.0 known.1)))
    by_position (Some p) is = (p, is)

-- what a request in the rest refers to beside its names
further_there : (rs : List Record) (kept : List Bool) (answers : ℕ → Answer) (names listed : List (List ℕ)) (headers : List Header) (url : Option (List ℕ)) (r : Record) (i : ℕ) → HasGoodNames rs → slice_get rs i ≡ Some r → is_kept rs kept i ≡ true
    → IsUrl rs kept answers i url → further_names (filter (is_kept_name rs kept) names) (with_url url (record r { names = listed; headers = headers })).reference ≡ filter (is_kept_name rs kept) (further_names names r.reference)
further_there rs kept answers names listed headers url r i good here stays (same none) = by_reference r.reference refl
  where
    by_reference : (o : Option (List ℕ)) → r.reference ≡ o → further_names (filter (is_kept_name rs kept) names) o ≡ filter (is_kept_name rs kept) (further_names names o)
    by_reference None e = refl
    by_reference (Some id) e =
        let (p, is) = known_reference rs good i r id here e in
        let passes : is_kept_name rs kept id ≡ true = elim (cases_Bool (is_kept rs kept p)) [
          | inl holds ↦ one_kept rs kept id p is ∙ holds
          | inr leaves ↦ absurd (none p (record { stays = stays; refers = referred_by rs i r id here e ∙ is; leaves = leaves }))
        ] in
        further_kept (is_kept_name rs kept) names id passes
further_there rs kept answers names listed headers url r i good here stays (moved text moves) = by_reference r.reference refl
  where
    by_reference : (o : Option (List ℕ)) → r.reference ≡ o → further_names (filter (is_kept_name rs kept) names) None ≡ filter (is_kept_name rs kept) (further_names names o)
    by_reference None e = refl
    by_reference (Some id) e = further_left (is_kept_name rs kept) names id (one_kept rs kept id moves.position (sym (referred_by rs i r id here e) ∙ moves.leaves.refers) ∙ moves.leaves.leaves)

-- the names that a request in the rest needs
needed_there : (rs : List Record) (kept : List Bool) (answers : ℕ → Answer) (changes : List Change) (m : ℕ) → HasGoodNames rs → HasChanges rs kept answers changes → m < length (rest_records rs kept changes)
    → needed_names (rest_records rs kept changes) m ≡ filter (is_kept_name rs kept) (needed_names rs (source rs kept m))
needed_there rs kept answers changes m good are less =
    let rest = rest_records rs kept changes in
    let i = source rs kept m in
    let test = is_kept_name rs kept in
    let (y, got) = there_is rs kept changes m less in
    let from : IsFrom rs kept changes m y = is_from rs kept changes m y got in
    let refers : reference_at rest m ≡ (rest_record rs kept (change_at changes i) from.request).reference = ap (option_and_then (λ (q : Record). q.reference)) got ∙ ap (λ (q : Record). q.reference) from.made in
    let was : reference_at rs i ≡ from.request.reference = ap (option_and_then (λ (q : Record). q.reference)) from.is in
    let within : i < length rs = slice_get_within rs i from.request from.is in
    let further : further_names (filter test (names_at rs i)) (reference_at rest m) ≡ filter test (further_names (names_at rs i) (reference_at rs i)) =
    ap (further_names (filter test (names_at rs i))) refers ∙ further_there rs kept answers (names_at rs i) _ _ (change_at changes i).url from.request i good from.is from.stays (are.each i within).url ∙ ap (λ o. filter test (further_names (names_at rs i) o)) (sym was) in
    ap (λ (ns : List (List ℕ)). ns ++ further_names ns (reference_at rest m)) (names_to rs kept changes m less)
    ∙ ap (λ (ns : List (List ℕ)). filter test (names_at rs i) ++ ns) further
    ∙ sym (filter-append test (names_at rs i) (further_names (names_at rs i) (reference_at rs i)))

-- what a request of the rest needs
pub part_needs : (rs : List Record) (kept : List Bool) (answers : ℕ → Answer) (changes : List Change) → HasGoodNames rs → HasStayingUrls rs kept changes → HasChanges rs kept answers changes → (m : ℕ) → m < length (rest_records rs kept changes)
    → AllZip (IsSameNeed (rest_records rs kept changes) rs (source rs kept)) (needs_at (rest_records rs kept changes) m) (filter (λ need. marked kept (unit_needed (unit_at rs) need)) (needs_at rs (source rs kept m)))
part_needs rs kept answers changes good staying are m less =
    let rest = rest_records rs kept changes in
    subst (λ (ns : List (List ℕ)). AllZip (IsSameNeed rest rs (source rs kept)) (filter_map (need_of rest) ns) (filter (λ need. marked kept (unit_needed (unit_at rs) need)) (needs_at rs (source rs kept m)))) (sym (needed_there rs kept answers changes m good are less))
    (needs_zip rs kept changes (rest_good rs kept changes good staying) (needed_names rs (source rs kept m)))

-- the plan of the rest
pub is_part : (rs : List Record) (kept : List Bool) (answers : ℕ → Answer) (changes : List Change) → HasGoodNames rs → HasStayingUrls rs kept changes → HasChanges rs kept answers changes → IsPartOfPlan rs kept (rest_records rs kept changes)
is_part rs kept answers changes good staying are = record {
  source = source rs kept;
  in_order = λ m n less within. in_order rs kept changes m n less within;
  all = λ i within. (
    (λ stays. kept_at rs kept changes i within stays),
    (λ found. let there = there_is rs kept changes found.0 found.1 in ap (is_kept rs kept) (sym found.2) ∙ (is_from rs kept changes found.0 there.0 there.1).stays),
  );
  units = same_units rs kept changes;
  needs = part_needs rs kept answers changes good staying are;
}
