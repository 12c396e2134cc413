-- The names of the rest fit together: a rule that the rest breaks, the batch breaks too.
use Rattle.std.proofs.Common.{◌≡◌, ◌∙◌, ◌⊎◌, ◌+◌, ◌<◌, ◌≤◌, ℕ, Bool, true, List, length, Option, None, Some, option_and_then, inl, inr, refl, ap, sym, subst, arith, Contains, IsSomeAnd}
use Rattle.std.proofs.lemmas.Bool.{cases_Bool}
use Rattle.odb_doc.specs.batch.Records.{Record}
use Rattle.odb_check.specs.PlanGraph.{unit_needed}
use Rattle.odb_check.specs.declared.fault.NameRule.TheVariants as rules
use Rattle.odb_check.specs.declared.need.Need.{Need}
use Rattle.odb_check.specs.declared.need.Need.TheVariants.{One, Group}
use Rattle.odb_check.specs.LeastNameFault.{HasGoodNames}
use Rattle.odb_check.specs.NameFaults.{IsBrokenAt}
use Rattle.odb_check.specs.Needs.{need_of}
use Rattle.odb_check.specs.Positions.{id_at, group_at, names_at, reference_at, IsId, IsIdBefore, IsIdFrom, IsGroup, IsGroupBefore, IsInGroupOf, NamesGroupOf}
use Rattle.odb_check.specs.Units.{unit_at, position_of}
use Rattle.odb_check.proofs.NeedLemmas.{is_meant, id_need, group_need, position_is}
use Rattle.odb_check.proofs.PositionLemmas.{id_within, group_within, reference_within}
use Rattle.odb_check.proofs.UnitLemmas.{IsUnitOf, one_unit, same_group, in_order, in_unit}
use Rattle.odb_send.specs.Rests.{Change, Leaves, change_at, is_kept, is_kept_name, is_kept_need, rest_records}
use Rattle.odb_send.specs.Units.{marked}
use Rattle.odb_send.proofs.PositionLemmas as at
use Rattle.odb_send.proofs.PositionLemmas.{source, HasText, HasName, HasReference}

-- a request whose URL stays refers to nothing that is not in the rest
abbrev pub HasStayingUrls : List Record → List Bool → List Change → Type 0
HasStayingUrls rs kept changes = (i p : ℕ) → i < length rs → (change_at changes i).url ≡ None → ¬ Leaves rs kept i p

-- what an option has
has : (o : Option (List ℕ)) (P : List ℕ → Type 0) → IsSomeAnd o P → (x : List ℕ) × (o ≡ Some x) × P x
has None P none = absurd none
has (Some x) P holds = (x, refl, holds)

with : (o : Option (List ℕ)) (P : List ℕ → Type 0) (x : List ℕ) → o ≡ Some x → P x → IsSomeAnd o P
with o P x is holds = subst (λ q. IsSomeAnd q P) (sym is) holds

-- ---- what a name of the rest means

-- a kept name resolves to something that is kept
kept_means : (rs : List Record) (kept : List Bool) (o : Option Need) → is_kept_need rs kept o ≡ true → (need : Need) × (o ≡ Some need) × (marked kept (unit_needed (unit_at rs) need) ≡ true)
kept_means rs kept None is = absurd (cc (is))
kept_means rs kept (Some need) is = (need, refl, is)

-- the group of a kept request is a kept name
group_is_kept : (rs : List Record) (kept : List Bool) → HasGoodNames rs → (group : List ℕ) (j : ℕ) → group_at rs j ≡ Some group → is_kept rs kept j ≡ true → is_kept_name rs kept group ≡ true
group_is_kept rs kept good group j here stays = ap (is_kept_need rs kept) (group_need rs (good rules.IdIsGroup) group j here) ∙ stays

id_is_kept : (rs : List Record) (kept : List Bool) → HasGoodNames rs → (id : List ℕ) (j : ℕ) → id_at rs j ≡ Some id → is_kept rs kept j ≡ true → is_kept_name rs kept id ≡ true
id_is_kept rs kept good id j here stays = ap (is_kept_need rs kept) (id_need rs (good rules.IdTwice) id j here) ∙ stays

-- a kept request has its identifier in the rest
id_there : (rs : List Record) (kept : List Bool) (changes : List Change) (j : ℕ) (id : List ℕ) → id_at rs j ≡ Some id → is_kept rs kept j ≡ true → IsId (rest_records rs kept changes) id
id_there rs kept changes j id here stays =
    let (k, within, same) = at.kept_at rs kept changes j (id_within rs j id here) stays in
    (k, at.id_to rs kept changes k within ∙ ap (id_at rs) same ∙ here)

group_there : (rs : List Record) (kept : List Bool) (changes : List Change) (j : ℕ) (group : List ℕ) → group_at rs j ≡ Some group → is_kept rs kept j ≡ true → IsGroup (rest_records rs kept changes) group
group_there rs kept changes j group here stays =
    let (k, within, same) = at.kept_at rs kept changes j (group_within rs j group here) stays in
    (k, at.group_to rs kept changes k within ∙ ap (group_at rs) same ∙ here)

-- what a kept name means is in the rest
name_there : (rs : List Record) (kept : List Bool) (changes : List Change) (name : List ℕ) → is_kept_name rs kept name ≡ true → IsId (rest_records rs kept changes) name ⊎ IsGroup (rest_records rs kept changes) name
name_there rs kept changes name stays = let found = kept_means rs kept (need_of rs name) stays in by_need found.0 found.1 found.2
  where
    by_need : (need : Need) → need_of rs name ≡ Some need → marked kept (unit_needed (unit_at rs) need) ≡ true → IsId (rest_records rs kept changes) name ⊎ IsGroup (rest_records rs kept changes) name
    by_need (One p) is kept_one = inl (id_there rs kept changes p name (is_meant rs name (One p) is).1.here kept_one)
    by_need (Group u) is kept_group =
        let unit : IsUnitOf rs name u = (is_meant rs name (Group u) is).unit in
        inr (group_there rs kept changes unit.start name unit.first.here (ap (marked kept) (in_unit rs name u unit.start unit unit.first.here) ∙ kept_group))

-- ---- identifiers and groups

id_twice : (rs : List Record) (kept : List Bool) (changes : List Change) → HasGoodNames rs → (k : ℕ) → ¬ IsBrokenAt rules.IdTwice (rest_records rs kept changes) k
id_twice rs kept changes good k broken =
    let (id, here, (j, less, there)) = has (id_at (rest_records rs kept changes) k) (λ id. IsIdBefore (rest_records rs kept changes) id k) broken in
    let one : HasText rs kept changes id_at k id = at.id_from rs kept changes k id here in
    let other : HasText rs kept changes id_at j id = at.id_from rs kept changes j id there in
    good rules.IdTwice (source rs kept k) (with (id_at rs (source rs kept k)) (λ x. IsIdBefore rs x (source rs kept k)) id one.was (source rs kept j, at.in_order rs kept changes j k less one.within, other.was))

id_is_group : (rs : List Record) (kept : List Bool) (changes : List Change) → HasGoodNames rs → (k : ℕ) → ¬ IsBrokenAt rules.IdIsGroup (rest_records rs kept changes) k
id_is_group rs kept changes good k broken =
    let (id, here, (j, there)) = has (id_at (rest_records rs kept changes) k) (λ id. IsGroup (rest_records rs kept changes) id) broken in
    let one : HasText rs kept changes id_at k id = at.id_from rs kept changes k id here in
    let other : HasText rs kept changes group_at j id = at.group_from rs kept changes j id there in
    good rules.IdIsGroup (source rs kept k) (with (id_at rs (source rs kept k)) (λ x. IsGroup rs x) id one.was (source rs kept j, other.was))

group_split : (rs : List Record) (kept : List Bool) (changes : List Change) → HasGoodNames rs → (k : ℕ) → ¬ IsBrokenAt rules.GroupSplit (rest_records rs kept changes) k
group_split rs kept changes good k broken =
    let rest = rest_records rs kept changes in
    let (group, here, (j, next, apart, (l, less, there))) = has (group_at rest k) (λ group. (j : ℕ) × (k ≡ j + 1) × ¬ (group_at rest j ≡ Some group) × IsGroupBefore rest group j) broken in
    let last : HasText rs kept changes group_at k group = at.group_from rs kept changes k group here in
    let first : HasText rs kept changes group_at l group = at.group_from rs kept changes l group there in
    let within : j < length rest = omega (arith, next, last.within) in
    let order = in_order rs (good rules.GroupSplit) in
    let low : unit_at rs (source rs kept l) ≤ unit_at rs (source rs kept j) = order (source rs kept l) (source rs kept j) (omega (arith, at.in_order rs kept changes l j less within)) in
    let high : unit_at rs (source rs kept j) ≤ unit_at rs (source rs kept k) = order (source rs kept j) (source rs kept k) (omega (arith, at.in_order rs kept changes j k (omega (arith, next)) last.within)) in
    let ends : unit_at rs (source rs kept l) ≡ unit_at rs (source rs kept k) = one_unit rs (source rs kept l) (source rs kept k) group first.was last.was in
    let same : unit_at rs (source rs kept j) ≡ unit_at rs (source rs kept k) = omega (arith, low, high, ends) in
    apart (at.group_to rs kept changes j within ∙ same_group rs (source rs kept j) (source rs kept k) same ∙ last.was)

-- ---- names

unknown_name : (rs : List Record) (kept : List Bool) (changes : List Change) (k : ℕ) → ¬ IsBrokenAt rules.UnknownName (rest_records rs kept changes) k
unknown_name rs kept changes k broken =
    let named : HasName rs kept changes k broken.name = at.name_from rs kept changes k broken.name broken.listed in
    elim (name_there rs kept changes broken.name named.is_kept) [ inl id ↦ broken.holds.0 id | inr group ↦ broken.holds.1 group ]

forward_name : (rs : List Record) (kept : List Bool) (changes : List Change) → HasGoodNames rs → (k : ℕ) → ¬ IsBrokenAt rules.ForwardName (rest_records rs kept changes) k
forward_name rs kept changes good k broken =
    let name = broken.name in
    let named : HasName rs kept changes k name = at.name_from rs kept changes k name broken.listed in
    let i = source rs kept k in
    elim broken.holds [
      | inl (j, upto, there) ↦
          let other : HasText rs kept changes id_at j name = at.id_from rs kept changes j name there in
          good rules.ForwardName i (record { name = name; listed = named.was; holds = inl (source rs kept j, at.in_order_or_same rs kept changes k j upto other.within, other.was) })
      | inr ((j, there), after) ↦
          let other : HasText rs kept changes group_at j name = at.group_from rs kept changes j name there in
          let all_after : (m : ℕ) → group_at rs m ≡ Some name → i < m = λ m here.
          let stays : is_kept rs kept m ≡ true = ap (marked kept) (one_unit rs m (source rs kept j) name here other.was) ∙ other.stays in
          let (n, within, same) = at.kept_at rs kept changes m (group_within rs m name here) stays in
          let less : k < n = after n (at.group_to rs kept changes n within ∙ ap (group_at rs) same ∙ here) in
          omega (arith, at.in_order rs kept changes k n less within, same) in
          good rules.ForwardName i (record { name = name; listed = named.was; holds = inr ((source rs kept j, other.was), all_after) })
    ]

own_group : (rs : List Record) (kept : List Bool) (changes : List Change) → HasGoodNames rs → (k : ℕ) → ¬ IsBrokenAt rules.OwnGroup (rest_records rs kept changes) k
own_group rs kept changes good k broken =
    let named : HasName rs kept changes k broken.name = at.name_from rs kept changes k broken.name broken.listed in
    let group : HasText rs kept changes group_at k broken.name = at.group_from rs kept changes k broken.name broken.holds in
    good rules.OwnGroup (source rs kept k) (record { name = broken.name; listed = named.was; holds = group.was })

group_not_listed : (rs : List Record) (kept : List Bool) (changes : List Change) → HasGoodNames rs → (k : ℕ) → ¬ IsBrokenAt rules.GroupNotListed (rest_records rs kept changes) k
group_not_listed rs kept changes good k broken =
    let rest = rest_records rs kept changes in
    let i = source rs kept k in
    let name = broken.name in
    let named : HasName rs kept changes k name = at.name_from rs kept changes k name broken.listed in
    let (j, less, there, holds) = broken.holds in
    let (group, of_group, (apart, lacks)) = has (group_at rest j) (λ group. ¬ (group_at rest k ≡ Some group) × ¬ Contains (names_at rest k) group) holds in
    let member : HasText rs kept changes id_at j name = at.id_from rs kept changes j name there in
    let other : HasText rs kept changes group_at j group = at.group_from rs kept changes j group of_group in
    let P : List ℕ → Type 0 = λ g. ¬ (group_at rs i ≡ Some g) × ¬ Contains (names_at rs i) g in
    let alone : P group = (
      (λ own. apart (at.group_to rs kept changes k named.within ∙ own)),
      (λ listed. lacks (at.name_to rs kept changes k group named.within listed (group_is_kept rs kept good group (source rs kept j) other.was other.stays))),
    ) in
    good rules.GroupNotListed i (record { name = name; listed = named.was; holds = (source rs kept j, at.in_order rs kept changes j k less named.within, member.was, with (group_at rs (source rs kept j)) P group other.was alone) })

-- ---- references

-- what a URL of the rest refers to is in the rest
kept_reference : (rs : List Record) (kept : List Bool) (changes : List Change) → HasGoodNames rs → HasStayingUrls rs kept changes → (k : ℕ) (id : List ℕ) → HasReference rs kept changes k id → (p : ℕ) → id_at rs p ≡ Some id
    → is_kept rs kept p ≡ true
kept_reference rs kept changes good staying k id refers p here = elim (cases_Bool (is_kept rs kept p)) [
  | inl stays ↦ stays
  | inr leaves ↦ absurd (staying (source rs kept k) p (reference_within rs (source rs kept k) id refers.was) refers.same (record {
    stays = refers.stays;
    refers = ap (option_and_then (position_of rs)) refers.was ∙ position_is rs (good rules.IdTwice) id p here;
    leaves = leaves;
  }))
]

unknown_reference : (rs : List Record) (kept : List Bool) (changes : List Change) → HasGoodNames rs → HasStayingUrls rs kept changes → (k : ℕ) → ¬ IsBrokenAt rules.UnknownReference (rest_records rs kept changes) k
unknown_reference rs kept changes good staying k broken =
    let rest = rest_records rs kept changes in
    let i = source rs kept k in
    let (id, here, unknown) = has (reference_at rest k) (λ id. ¬ IsId rest id) broken in
    let refers : HasReference rs kept changes k id = at.reference_from rs kept changes k id here in
    let none : ¬ IsId rs id = λ known. unknown (id_there rs kept changes known.0 id known.1 (kept_reference rs kept changes good staying k id refers known.0 known.1)) in
    good rules.UnknownReference i (with (reference_at rs i) (λ x. ¬ IsId rs x) id refers.was none)

forward_reference : (rs : List Record) (kept : List Bool) (changes : List Change) → HasGoodNames rs → (k : ℕ) → ¬ IsBrokenAt rules.ForwardReference (rest_records rs kept changes) k
forward_reference rs kept changes good k broken =
    let rest = rest_records rs kept changes in
    let i = source rs kept k in
    let (id, here, (j, upto, there)) = has (reference_at rest k) (λ id. IsIdFrom rest id k) broken in
    let refers : HasReference rs kept changes k id = at.reference_from rs kept changes k id here in
    let other : HasText rs kept changes id_at j id = at.id_from rs kept changes j id there in
    good rules.ForwardReference i (with (reference_at rs i) (λ x. IsIdFrom rs x i) id refers.was (source rs kept j, at.in_order_or_same rs kept changes k j upto other.within, other.was))

reference_not_listed : (rs : List Record) (kept : List Bool) (changes : List Change) → HasGoodNames rs → (k : ℕ) → ¬ IsBrokenAt rules.ReferenceNotListed (rest_records rs kept changes) k
reference_not_listed rs kept changes good k broken =
    let rest = rest_records rs kept changes in
    let i = source rs kept k in
    let (id, here, (j, less, there, apart, unlisted, uncovered)) = has (reference_at rest k) (λ id. (j : ℕ) × (j < k) × (id_at rest j ≡ Some id) × ¬ IsInGroupOf rest k j × ¬ Contains (names_at rest k) id × ¬ NamesGroupOf rest k j) broken in
    let refers : HasReference rs kept changes k id = at.reference_from rs kept changes k id here in
    let other : HasText rs kept changes id_at j id = at.id_from rs kept changes j id there in
    let p = source rs kept j in
    good rules.ReferenceNotListed i (with (reference_at rs i) (λ x. (j : ℕ) × (j < i) × (id_at rs j ≡ Some x) × ¬ IsInGroupOf rs i j × ¬ Contains (names_at rs i) x × ¬ NamesGroupOf rs i j) id refers.was (
      p,
      at.in_order rs kept changes j k less refers.within,
      other.was,
      (λ both. apart (both.0, at.group_to rs kept changes k refers.within ∙ both.1, at.group_to rs kept changes j other.within ∙ both.2)),
      (λ listed. unlisted (at.name_to rs kept changes k id refers.within listed (id_is_kept rs kept good id p other.was other.stays))),
      (λ named. uncovered (named.0, at.group_to rs kept changes j other.within ∙ named.1, at.name_to rs kept changes k named.0 refers.within named.2 (group_is_kept rs kept good named.0 p named.1 other.stays))),
    ))

-- no rule of names is broken in the rest
pub rest_good : (rs : List Record) (kept : List Bool) (changes : List Change) → HasGoodNames rs → HasStayingUrls rs kept changes → HasGoodNames (rest_records rs kept changes)
rest_good rs kept changes good staying rules.IdTwice k = id_twice rs kept changes good k
rest_good rs kept changes good staying rules.IdIsGroup k = id_is_group rs kept changes good k
rest_good rs kept changes good staying rules.GroupSplit k = group_split rs kept changes good k
rest_good rs kept changes good staying rules.UnknownName k = unknown_name rs kept changes k
rest_good rs kept changes good staying rules.ForwardName k = forward_name rs kept changes good k
rest_good rs kept changes good staying rules.OwnGroup k = own_group rs kept changes good k
rest_good rs kept changes good staying rules.GroupNotListed k = group_not_listed rs kept changes good k
rest_good rs kept changes good staying rules.UnknownReference k = unknown_reference rs kept changes good staying k
rest_good rs kept changes good staying rules.ForwardReference k = forward_reference rs kept changes good k
rest_good rs kept changes good staying rules.ReferenceNotListed k = reference_not_listed rs kept changes good k
