-- The laws of the plan of a batch whose names fit together.
use Rattle.std.proofs.Common.{◌≡◌, ◌≢◌, ◌≤◌, ◌<◌, ◌⊎◌, ◌+◌, ◌-◌, ◌==◌, ℕ, min, zero, suc, Bool, true, false, cond, List, [], ◌∷◌, ◌++◌, Option, Some, None, refl, sym, ap, ◌∙◌, subst, inl, inr, arith, length, get_or, append-nil}
use Rattle.std.specs.Prelude.{◌↔◌, All, Contains, IsSomeAnd, AllPairs, bytes_eq}
use Rattle.std.specs.List.{AllZip, list_any, filter_map, cons_option, IsDistinct}
use Rattle.std.proofs.lemmas.Map.Made.{AllPairs-from_IsDistinct}
use Rattle.std.proofs.lemmas.Bool.{cases_Bool, cases_lt, cases_eq, cases_order, both_ways, eq-eqb, ne_eqb}
use Rattle.std.proofs.lemmas.Option.{same_Some, slice_get_cases}
use Rattle.std.proofs.lemmas.List.Kept.{AllPairs-cons}
use Rattle.std.proofs.lemmas.List.Quantifiers.{all_pairs_push}
use Rattle.std.proofs.lemmas.List.Elements.{Contains-get_or, Contains-append_left, Contains-append_right, Contains-append_cases}
use Rattle.std.proofs.lemmas.Slice.Eq.{bytes_eq-Decides}
use Rattle.std.proofs.lemmas.Slice.Zip.{AllZip-long}
use Rattle.serde_json.specs.Data.{Data}
use Rattle.odb_doc.specs.batch.LeastFault.{IsWellShaped}
use Rattle.odb_doc.specs.batch.Records.{Record, ReadsAs, IsBatchOf}
use Rattle.odb_doc.specs.batch.Shapes.{elements, listed_names}
use Rattle.odb_doc.specs.declared.fault.DocumentRule.TheVariants.{TooMany}
use Rattle.odb_check.specs.declared.fault.NameRule.TheVariants.{IdTwice, IdIsGroup, GroupSplit, ForwardName, OwnGroup, GroupNotListed, UnknownReference, ForwardReference, ReferenceNotListed}
use Rattle.odb_check.specs.declared.need.Need.{Need}
use Rattle.odb_check.specs.declared.need.Need.TheVariants.{One, Group}
use Rattle.odb_check.specs.declared.plan.Plan.{Plan}
use Rattle.odb_check.specs.Firsts.{count_below, list_below}
use Rattle.odb_check.specs.LeastNameFault.{HasGoodNames}
use Rattle.odb_check.specs.NameFaults.{IsBrokenAt}
use Rattle.odb_check.specs.Laws.{HasPositions, NeedsGroups}
use Rattle.odb_check.specs.Walks.{HasValidIds}
use Rattle.odb_check.specs.Needs.{need_of, further_names, needed_names, needs_at}
use Rattle.odb_check.specs.Plans.{plan_records, plan_graph, batch_plan_graph}
use Rattle.odb_check.specs.Positions.{id_at, group_at, names_at, reference_at, IsId, IsIdFrom, IsInGroupOf, NamesGroupOf}
use Rattle.odb_check.specs.PlanGraph.{PlanGraph, unit_of, needs_of, plan_graph_of, IsEarlier, IsAlone, IsNeed, IsNeedAmong, IsPlan, IsPlanGraphOf, IsSpan, HasNamesAsNeeds}
use Rattle.odb_check.specs.Tables.{IsStartOf}
use Rattle.odb_check.specs.Units.{begins_unit, unit_at, unit_count, unit_size, units_before}
use Rattle.odb_check.proofs.AnyLemmas.{ElementMeaning, element_meaning, Contains-meaning, Contains-none, text_listed, listed_cases}
use Rattle.odb_check.proofs.BelowLemmas.{length-list_below, get_or-list_below}
use Rattle.odb_check.proofs.FirstLemmas.{count_few, count_more}
use Rattle.odb_check.proofs.LevelLemmas.{HasNeedsBefore, has_levels}
use Rattle.odb_check.proofs.NameLemmas.{later_unit}
use Rattle.odb_check.proofs.NeedLemmas.{IsMeant, is_meant, need_within, position_is, id_need, group_need}
use Rattle.odb_check.proofs.PositionLemmas.{group_within, reference_within, position_first}
use Rattle.odb_check.proofs.UnitLemmas.{IsUnitOf, unit_before, same_group, one_unit, has_units, in_group, in_unit, in_order, unit_at_begin, unit_at_start}
use Rattle.odb_doc.proofs.DistinctLemmas.{IsDistinct-listed}
use Rattle.odb_doc.proofs.ElementLemmas.{Contains-head, Contains-cases}

pub good_ids : (rs : List Record) → HasGoodNames rs → HasValidIds rs
good_ids rs good rule i broken = good rule i broken.1

name_inside : (rs : List Record) (i : ℕ) (name : List ℕ) → Contains (names_at rs i) name → i < length rs
name_inside rs i name h = grind (arith, slice_get_cases rs i, Contains-none)

-- the reference adds no other name
further_reference : (names : List (List ℕ)) (reference : Option (List ℕ)) (name : List ℕ) → Contains (further_names names reference) name → reference ≡ Some name
further_reference names None name h = absurd (Contains-none name h)
further_reference names (Some id) name h =
    (elim (list_any (bytes_eq id) names) as (λ v. Contains (cond v [] (id ∷ [])) name → Some id ≡ Some name) [
      | true ↦ λ none. absurd (Contains-none name none)
      | false ↦ λ one. elim (Contains-cases id name [] one) [ inl same ↦ ap Some same | inr none ↦ absurd (Contains-none name none) ]
    ]) h

-- the name that resolves to a need: it is in `dependsOn`, or is the reference
record IsNeeded (rs : List Record) (i : ℕ) (need : Need) : Type 0 where
  name : List ℕ
  inside : Contains (names_at rs i) name ⊎ (reference_at rs i ≡ Some name)
  is : IsMeant rs name need

is_needed : (rs : List Record) (i : ℕ) (need : Need) → Contains (needs_at rs i) need → IsNeeded rs i need
is_needed rs i need h =
    let name : ElementMeaning (need_of rs) (needed_names rs i) need = element_meaning (need_of rs) (needed_names rs i) need h in
    record {
      name = name.element;
      inside = elim (Contains-append_cases (names_at rs i) (further_names (names_at rs i) (reference_at rs i)) name.element name.inside) [ inl listed ↦ inl listed | inr further ↦ inr (further_reference (names_at rs i) (reference_at rs i) name.element further) ];
      is = is_meant rs name.element need name.means;
    }

refers_with : (rs : List Record) (i : ℕ) (id : List ℕ) (P : List ℕ → Type 0) → reference_at rs i ≡ Some id → P id → IsSomeAnd (reference_at rs i) P
refers_with rs i id P here holds = subst (λ o. IsSomeAnd o P) (sym here) holds

earlier_one : (rs : List Record) → HasGoodNames rs → (i r : ℕ) → IsNeeded rs i (One r) → r < i
earlier_one rs good i r needed =
    elim (cases_lt r i) [
      | inl less ↦ less
      | inr more ↦ elim needed.inside [
        | inl listed ↦ absurd (good ForwardName i (record { name = needed.name; listed = listed; holds = inl (r, more, needed.is.1.here) }))
        | inr refers ↦ absurd (good ForwardReference i (refers_with rs i needed.name (λ id. IsIdFrom rs id i) refers (r, more, needed.is.1.here)))
      ]
    ]

earlier_group : (rs : List Record) → HasGoodNames rs → (i u : ℕ) → IsNeeded rs i (Group u) → u < unit_at rs i
earlier_group rs good i u needed =
    let name = needed.name in
    let is : IsUnitOf rs name u = needed.is.unit in
    elim (cases_order u (unit_at rs i)) [
      | inr (inl less) ↦ less
      | inl own ↦ elim needed.inside [
        | inl listed ↦ absurd (good OwnGroup i (record { name = name; listed = listed; holds = in_group rs name u i is (sym own) }))
        | inr refers ↦ absurd (good UnknownReference i (refers_with rs i name (λ id. ¬ IsId rs id) refers (λ h. needed.is.no_id h.0 h.1)))
      ]
      | inr (inr more) ↦ elim needed.inside [
        | inl listed ↦
            let after : (j : ℕ) → group_at rs j ≡ Some name → i < j = λ j there. later_unit rs (good_ids rs good) i j (let at_u : unit_at rs j ≡ u = in_unit rs name u j is there in omega arith) in
            absurd (good ForwardName i (record { name = name; listed = listed; holds = inr ((is.start, is.first.here), after) }))
        | inr refers ↦ absurd (good UnknownReference i (refers_with rs i name (λ id. ¬ IsId rs id) refers (λ h. needed.is.no_id h.0 h.1)))
      ]
    ]

pub needs_before : (rs : List Record) → HasGoodNames rs → HasNeedsBefore rs
needs_before rs good = record {
  one = λ i r h. earlier_one rs good i r (is_needed rs i (One r) h);
  group = λ i u h. earlier_group rs good i u (is_needed rs i (Group u) h);
  order = in_order rs (good GroupSplit);
}

-- a listed name is among the needs
listed_need : (rs : List Record) (i : ℕ) (name : List ℕ) (need : Need) → Contains (names_at rs i) name → need_of rs name ≡ Some need → Contains (needs_at rs i) need
listed_need rs i name need h means = Contains-meaning (need_of rs) (needed_names rs i) name need (Contains-append_left (names_at rs i) (further_names (names_at rs i) (reference_at rs i)) name h) means

-- who needs a request of another group needs that group too, since else F43 or F46 is broken
group_needed : (rs : List Record) → HasGoodNames rs → (i r : ℕ) (group : List ℕ) → Contains (needs_at rs i) (One r) → group_at rs r ≡ Some group → unit_at rs r ≢ unit_at rs i → Contains (needs_at rs i) (Group (unit_at rs r))
group_needed rs good i r group h there other =
    let needed : IsNeeded rs i (One r) = is_needed rs i (One r) h in
    let name = needed.name in
    let here : id_at rs r ≡ Some name = needed.is.1.here in
    let less : r < i = earlier_one rs good i r needed in
    elim (listed_cases group (names_at rs i)) [
      | inl named ↦ listed_need rs i group (Group (unit_at rs r)) named (group_need rs (good IdIsGroup) group r there)
      | inr lacking ↦ elim (listed_cases name (names_at rs i)) [
        | inl listed ↦
            let P : List ℕ → Type 0 = λ g. ¬ (group_at rs i ≡ Some g) × ¬ Contains (names_at rs i) g in
            let alone : P group = ((λ same. other (one_unit rs r i group there same)), lacking) in
            absurd (good GroupNotListed i (record { name = name; listed = listed; holds = (r, less, here, subst (λ o. IsSomeAnd o P) (sym there) alone) }))
        | inr unlisted ↦ elim needed.inside [
          | inl listed ↦ absurd (unlisted listed)
          | inr refers ↦
              let uncovered : ¬ NamesGroupOf rs i r = λ named. lacking (subst (Contains (names_at rs i)) (same_Some named.0 group (sym named.1 ∙ there)) named.2) in
              absurd (good ReferenceNotListed i (refers_with rs i name (λ id. (j : ℕ) × (j < i) × (id_at rs j ≡ Some id) × ¬ IsInGroupOf rs i j × ¬ Contains (names_at rs i) id × ¬ NamesGroupOf rs i j) refers
              (r, less, here, (λ both. other (one_unit rs r i both.0 both.2 both.1)), unlisted, uncovered)))
        ]
      ]
    ]

pub needs_groups : (rs : List Record) → HasGoodNames rs → NeedsGroups rs
needs_groups rs good = record { needed = λ i r group h there lacks. group_needed rs good i r group h there (λ same. lacks (sym (same_group rs r i same) ∙ there)) }

pub has_positions : (rs : List Record) → HasGoodNames rs → HasPositions rs
has_positions rs good = record { found = λ id p. ((λ e. (position_first rs id p e).1.here), (λ here. position_is rs (good IdTwice) id p here)) }

listed_case : (rs : List Record) → HasGoodNames rs → (i r : ℕ) → Contains (needs_at rs i) (One r) → unit_at rs r ≢ unit_at rs i → (group : Option (List ℕ)) → group_at rs r ≡ group
    → ((j : ℕ) → unit_at rs j ≡ unit_at rs r → j ≡ r) ⊎ Contains (needs_at rs i) (Group (unit_at rs r))
listed_case rs good i r h other None e = inl (λ j same. elim (((has_units rs).together j r).0 same) [ inl one ↦ one | inr both ↦ let some : None ≡ Some both.0 = sym e ∙ both.2 in cc ])
listed_case rs good i r h other (Some group) e = inr (group_needed rs good i r group h e other)

-- two names that resolve to one need are one name
one_name : (rs : List Record) (need : Need) (name other : List ℕ) → IsMeant rs name need → IsMeant rs other need → name ≡ other
one_name rs (One p) name other is also = same_Some name other (sym is.1.here ∙ also.1.here)
one_name rs (Group u) name other is also = same_Some name other (sym is.unit.first.here ∙ in_group rs other u is.unit.start also.unit (unit_at_start rs name u is.unit))

-- no name is needed twice
needed_apart : (names : List (List ℕ)) (reference : Option (List ℕ)) → AllPairs (λ x y. x ≢ y) names → AllPairs (λ x y. x ≢ y) (names ++ further_names names reference)
needed_apart names None apart = rw append-nil apart
needed_apart names (Some id) apart =
    elim (cases_Bool (list_any (bytes_eq id) names)) [
      | inl listed ↦ rw (listed, append-nil) apart
      | inr unlisted ↦ rw unlisted (all_pairs_push (λ x y. x ≢ y) names id apart
          (λ k d less same. both_ways (list_any (bytes_eq id) names) unlisted ((text_listed id names).1 (subst (Contains names) same (Contains-get_or names k d less)))))
    ]

-- different names resolve to different needs
needs_apart : (rs : List Record) (names : List (List ℕ)) → AllPairs (λ x y. x ≢ y) names → AllPairs (λ x y. x ≢ y) (filter_map (need_of rs) names)
needs_apart rs [] apart = λ i j d less inside. absurd (omega arith)
needs_apart rs (name ∷ names) apart =
    let needs = filter_map (need_of rs) names in
    let more : AllPairs (λ x y. x ≢ y) needs = needs_apart rs names (λ i j d less inside. apart (suc i) (suc j) d (omega arith) (omega arith)) in
    (elim (need_of rs name) as (λ o. need_of rs name ≡ o → AllPairs (λ x y. x ≢ y) (cons_option o needs)) [
      | None ↦ λ e. more
      | Some need ↦ λ e. AllPairs-cons (λ x y. x ≢ y) need needs
          (λ k d less same.
          let meant : ElementMeaning (need_of rs) names need = element_meaning (need_of rs) names need (subst (Contains needs) (sym same) (Contains-get_or needs k d less)) in
          let one : name ≡ meant.element = one_name rs need name meant.element (is_meant rs name need e) (is_meant rs meant.element need meant.means) in
          apart zero (suc meant.inside.0) meant.element (omega arith) (omega (arith, meant.inside.1)) (one ∙ sym meant.inside.2))
          more
    ]) refl

-- units and needs of the plan as data
pub is_plan_graph : (rs : List Record) → IsPlanGraphOf rs (plan_graph_of rs)
is_plan_graph rs = record {
  size = length-list_below (length rs) (unit_at rs);
  unit_count = refl;
  units = λ i h. get_or-list_below (length rs) (unit_at rs) i 0 h;
  needs = λ i h. get_or-list_below (length rs) (needs_at rs) i [] h;
}

pub shaped : (plan : Plan) → IsPlanGraphOf (plan_records plan) (plan_graph plan)
unfolding batch_plan_graph
shaped plan = is_plan_graph (plan_records plan)

unit_there : (rs : List Record) (i : ℕ) → i < length rs → unit_of (plan_graph_of rs) i ≡ unit_at rs i
unit_there rs i h = (is_plan_graph rs).units i h

needs_there : (rs : List Record) (i : ℕ) → i < length rs → needs_of (plan_graph_of rs) i ≡ needs_at rs i
needs_there rs i h = (is_plan_graph rs).needs i h

pub in_plan_graph : (rs : List Record) (i : ℕ) → i < length (list_below (length rs) (unit_at rs)) → i < length rs
in_plan_graph rs i h = omega (arith, length-list_below (length rs) (unit_at rs))

-- how many numbers pass that are from one number up to another
count_span : (from to : ℕ) (test : ℕ → Bool) (n : ℕ) → from ≤ to → ((k : ℕ) → k < n → k < from → test k ≡ false)
    → ((k : ℕ) → k < n → from ≤ k → k < to → test k ≡ true) → ((k : ℕ) → k < n → to ≤ k → test k ≡ false) → count_below n test ≡ min n to - min n from
count_span from to test zero le before inside after = omega arith
count_span from to test (suc n) le before inside after =
    let so : count_below n test ≡ min n to - min n from = count_span from to test n le (λ k h. before k (omega (arith, h))) (λ k h. inside k (omega (arith, h))) (λ k h. after k (omega (arith, h))) in
    elim (cases_lt n from) [
      | inl less ↦ rw (before n (omega arith) less) (omega (arith, so, less, le))
      | inr more ↦ elim (cases_lt n to) [
        | inl within ↦ rw (inside n (omega arith) (omega (arith, more)) within) (omega (arith, so, more, within))
        | inr past ↦ rw (after n (omega arith) (omega (arith, past))) (omega (arith, so, past, le))
      ]
    ]

-- the size of a unit is that of its span
pub span_size : (rs : List Record) (plan : PlanGraph) (u from to : ℕ) → IsPlanGraphOf rs plan → IsSpan plan u from to → to - from ≡ unit_size rs u
span_size rs plan u from to is span =
    let size : length plan.units ≡ length rs = is.size in
    let within : to ≤ length rs = omega (arith, span.within, size) in
    let counted = count_span from to (λ j. unit_at rs j == u) (length rs) (omega (arith, span.begins))
    (λ k h less. ne_eqb (unit_at rs k) u (λ e. omega (arith, less, ((span.exact k (omega (arith, h, size))).0 (is.units k h ∙ e)).0)))
    (λ k h least less. eq-eqb (unit_at rs k) u (sym (is.units k h) ∙ (span.exact k (omega (arith, h, size))).1 (least, less)))
    (λ k h past. ne_eqb (unit_at rs k) u (λ e. omega (arith, past, ((span.exact k (omega (arith, h, size))).0 (is.units k h ∙ e)).1))) in
    omega (arith, counted, within, span.begins)

-- a unit reaches from its first position to where the next unit begins, or the batch ends
pub has_span : (rs : List Record) → ((i : ℕ) → ¬ IsBrokenAt GroupSplit rs i) → (u start end : ℕ) → IsStartOf rs u start → end ≤ length rs → units_before rs end ≡ u + 1
    → ((i : ℕ) → i < length rs → end ≤ i → u < unit_at rs i) → IsSpan (plan_graph_of rs) u start end
has_span rs adjacent u start end is within count past = record {
  begins = elim (cases_lt start end) [ inl less ↦ less | inr more ↦ absurd (omega (arith, count_more (begins_unit rs) end start more, is.number)) ];
  within = omega (arith, within, length-list_below (length rs) (unit_at rs));
  exact = λ i h. let here : i < length rs = in_plan_graph rs i h in subst (λ v. (v ≡ u) ↔ ((start ≤ i) × (i < end))) (sym (unit_there rs i here)) (
    (λ e. (
      elim (cases_lt i start) [ inl less ↦ absurd (omega (arith, unit_before rs i start less, is.number)) | inr more ↦ more ],
      elim (cases_lt i end) [ inl less ↦ less | inr more ↦ absurd (omega (arith, past i here more)) ],
    )),
    (λ inside. omega (arith, in_order rs adjacent start i inside.0, unit_at_begin rs start is.begins, is.number, unit_before rs i end inside.1)),
  );
}

-- the batch has all that is needed
needs_within : (rs : List Record) (i : ℕ) → All (IsNeedAmong (length rs) (unit_count rs)) (needs_at rs i)
needs_within rs i k d h =
    let need = get_or (needs_at rs i) k d in
    let name : ElementMeaning (need_of rs) (needed_names rs i) need = element_meaning (need_of rs) (needed_names rs i) need (Contains-get_or (needs_at rs i) k d h) in
    need_within rs name.element need name.means

pub needs_known : (plan : Plan) (i : ℕ) → All (IsNeed (plan_graph plan)) (needs_at (plan_records plan) i)
unfolding batch_plan_graph
needs_known plan i =
    let rs = plan_records plan in
    subst (λ n. All (IsNeedAmong n (unit_count rs)) (needs_at rs i)) (sym (length-list_below (length rs) (unit_at rs))) (needs_within rs i)

-- the needs that a plan keeps
pub kept_needs : (plan : Plan) → plan.needs ≡ (plan_graph plan).needs
unfolding batch_plan_graph
kept_needs plan = plan.needed

earlier_case : (rs : List Record) → HasGoodNames rs → (i : ℕ) → i < length rs → (need : Need) → Contains (needs_at rs i) need → IsEarlier (plan_graph_of rs) i need
earlier_case rs good i h (One r) inside = (needs_before rs good).one i r inside
earlier_case rs good i h (Group u) inside = omega (arith, unit_there rs i h, (needs_before rs good).group i u inside)

plan_listed : (rs : List Record) → HasGoodNames rs → (i r : ℕ) → i < length rs → r < length rs → Contains (needs_at rs i) (One r)
    → (unit_of (plan_graph_of rs) r ≡ unit_of (plan_graph_of rs) i) ⊎ (IsAlone (plan_graph_of rs) r ⊎ Contains (needs_of (plan_graph_of rs) i) (Group (unit_of (plan_graph_of rs) r)))
plan_listed rs good i r h inside needs =
    rw (unit_there rs r inside, unit_there rs i h, needs_there rs i h) (elim (cases_eq (unit_at rs r) (unit_at rs i)) [
      | inl same ↦ inl same
      | inr other ↦ inr (elim (listed_case rs good i r needs other (group_at rs r) refl) [ inl alone ↦ inl (λ j less same. alone j (sym (unit_there rs j (in_plan_graph rs j less)) ∙ same)) | inr group ↦ inr group ])
    ])

pub is_plan : (rs : List Record) → HasGoodNames rs → length rs ≤ 10000 → ((k : ℕ) → k < length rs → IsDistinct bytes_eq (names_at rs k)) → IsPlan (plan_graph_of rs)
is_plan rs good few distinct =
    let before : HasNeedsBefore rs = needs_before rs good in
    let needs : (i : ℕ) (need : Need) → i < length rs → Contains (needs_of (plan_graph_of rs) i) need → Contains (needs_at rs i) need = λ i need h inside. subst (λ xs. Contains xs need) (needs_there rs i h) inside in
    record {
      few = omega (arith, length-list_below (length rs) (unit_at rs));
      as_long = length-list_below (length rs) (needs_at rs) ∙ sym (length-list_below (length rs) (unit_at rs));
      few_units = omega (arith, count_few (length rs) (begins_unit rs), length-list_below (length rs) (unit_at rs));
      counted = λ i h. let inside : i < length rs = in_plan_graph rs i h in omega (arith, unit_there rs i inside, unit_before rs i (length rs) inside);
      in_order = λ i j h less. let inside : j < length rs = in_plan_graph rs j less in omega (arith, unit_there rs i (omega arith), unit_there rs j inside, before.order i j h);
      earlier = λ i need h inside. earlier_case rs good i (in_plan_graph rs i h) need (needs i need (in_plan_graph rs i h) inside);
      earlier_unit = λ i r h inside other.
          let here : i < length rs = in_plan_graph rs i h in
          let less : r < i = before.one i r (needs i (One r) here inside) in
          let low : unit_of (plan_graph_of rs) r ≤ unit_of (plan_graph_of rs) i = omega (arith, unit_there rs r (omega arith), unit_there rs i here, before.order r i (omega arith)) in
          elim (cases_lt (unit_of (plan_graph_of rs) r) (unit_of (plan_graph_of rs) i)) [ inl smaller ↦ smaller | inr more ↦ absurd (other (omega arith)) ];
      listed = λ i r h inside. let here : i < length rs = in_plan_graph rs i h in let need : Contains (needs_at rs i) (One r) = needs i (One r) here inside in plan_listed rs good i r here (let less : r < i = before.one i r need in omega arith) need;
      distinct = λ i h. let here : i < length rs = in_plan_graph rs i h in subst (AllPairs (λ need other. need ≢ other)) (sym (needs_there rs i here))
          (needs_apart rs (needed_names rs i) (needed_apart (names_at rs i) (reference_at rs i) (AllPairs-from_IsDistinct bytes_eq-Decides (names_at rs i) (distinct i here))));
    }

further_there : (names : List (List ℕ)) (id : List ℕ) → (v : Bool) → list_any (bytes_eq id) names ≡ v → Contains (names ++ cond v [] (id ∷ [])) id
further_there names id true e = Contains-append_left names [] id ((text_listed id names).0 e)
further_there names id false e = Contains-append_right names (id ∷ []) id (Contains-head id [])

reference_needed : (rs : List Record) (i : ℕ) (id : List ℕ) → reference_at rs i ≡ Some id → Contains (needed_names rs i) id
reference_needed rs i id here = subst (λ o. Contains (names_at rs i ++ further_names (names_at rs i) o) id) (sym here) (further_there (names_at rs i) id (list_any (bytes_eq id) (names_at rs i)) refl)

pub names_as_needs : (rs : List Record) → HasGoodNames rs → HasNamesAsNeeds rs (plan_graph_of rs)
names_as_needs rs good = record {
  names_id = λ i name r listed here. subst (λ xs. Contains xs (One r)) (sym (needs_there rs i (name_inside rs i name listed))) (listed_need rs i name (One r) listed (id_need rs (good IdTwice) name r here));
  names_group = λ i name j listed here.
      subst (λ u. Contains (needs_of (plan_graph_of rs) i) (Group u)) (sym (unit_there rs j (group_within rs j name here)))
      (subst (λ xs. Contains xs (Group (unit_at rs j))) (sym (needs_there rs i (name_inside rs i name listed))) (listed_need rs i name (Group (unit_at rs j)) listed (group_need rs (good IdIsGroup) name j here)));
  refers = λ i id r refers here. subst (λ xs. Contains xs (One r)) (sym (needs_there rs i (reference_within rs i id refers)))
      (Contains-meaning (need_of rs) (needed_names rs i) id (One r) (reference_needed rs i id refers) (id_need rs (good IdTwice) id r here));
}

-- ---- the requests of a document without a fault of shape

few_requests : (d : Data) (rs : List Record) → IsWellShaped d → IsBatchOf d rs → length rs ≤ 10000
few_requests d rs shaped is = omega (arith, shaped.0 TooMany, AllZip-long ReadsAs (elements d) rs is)

names_apart : (ds : List Data) (rs : List Record) → AllZip ReadsAs ds rs → (k : ℕ) → k < length rs → IsDistinct bytes_eq (names_at rs k)
names_apart [] [] read k inside = absurd (omega (arith, inside))
names_apart [] (r ∷ rs) read k inside = absurd read
names_apart (d ∷ ds) [] read k inside = absurd (omega (arith, inside))
names_apart (d ∷ ds) (r ∷ rs) read zero inside = IsDistinct-listed r.names (listed_names d) (sym read.0.names)
names_apart (d ∷ ds) (r ∷ rs) read (suc k) inside = names_apart ds rs read.1 k (omega (arith, inside))

pub is_plan_of : (d : Data) (rs : List Record) → IsWellShaped d → IsBatchOf d rs → HasGoodNames rs → IsPlan (plan_graph_of rs)
is_plan_of d rs shaped is good = is_plan rs good (few_requests d rs shaped is) (names_apart (elements d) rs is)

pub ruleset plan_laws = (has_units, has_positions, needs_groups, has_levels, needs_before, shaped)
