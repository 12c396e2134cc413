-- Where units begin, what they are, the order of their numbers, and their positions.
use Rattle.std.proofs.Common.{◌≡◌, ◌≤◌, ◌<◌, ◌⊎◌, ◌+◌, ◌-◌, ℕ, zero, suc, true, not, List, Option, Some, None, refl, sym, ap, ◌∙◌, subst, inl, inr, arith, length}
use Rattle.std.specs.Prelude.{is_some, unwrap_or, option_map, IsSomeAnd}
use Rattle.std.proofs.lemmas.Bool.{cases_lt, cases_Bool}
use Rattle.std.proofs.lemmas.Bool.Decides.{not_from_Decides}
use Rattle.odb_doc.specs.batch.Records.{Record}
use Rattle.odb_check.specs.declared.fault.NameRule.TheVariants.{GroupSplit}
use Rattle.odb_check.specs.Firsts.{is_text}
use Rattle.odb_check.specs.Laws.{HasUnits}
use Rattle.odb_check.specs.NameFaults.{IsBrokenAt}
use Rattle.odb_check.specs.Positions.{group_at, IsGroupBefore, IsInGroupOf}
use Rattle.odb_check.specs.Units.{first_in_group, is_new_group, begins_unit, units_before, begin_in, unit_begin, unit_at, group_begin, unit_of_group}
use Rattle.odb_check.proofs.FirstLemmas.{count_less, count_same, first_alone}
use Rattle.odb_check.proofs.PositionLemmas.{IsFirstAt, text_Decides, text_first, text_none, text_absent, text_some, group_within}

-- the unit of i begins at b
pub record BeginsAt (rs : List Record) (i b : ℕ) : Type 0 where
  pub begins : begins_unit rs b ≡ true
  pub upto : b ≤ i
  pub same : group_at rs b ≡ group_at rs i

-- a unit begins at the first position of a group
pub group_begins : (rs : List Record) (group : List ℕ) (b : ℕ) → IsFirstAt (group_at rs) group b → begins_unit rs b ≡ true
group_begins rs group b first = ap (is_new_group rs b) first.here ∙ ap (λ o. not (is_some o)) (text_absent (group_at rs) group b first.before)

begin_found : (rs : List Record) (i : ℕ) (group : List ℕ) → group_at rs i ≡ Some group → (found : Option ℕ) → first_in_group rs i group ≡ found → BeginsAt rs i (unwrap_or found i)
begin_found rs i group here None e = record { begins = group_begins rs group i (record { here = here; before = text_none (group_at rs) group i e }); upto = omega arith; same = refl }
begin_found rs i group here (Some b) e =
    let first : (b < i) × IsFirstAt (group_at rs) group b = text_first (group_at rs) group i b e in
    record { begins = group_begins rs group b first.1; upto = omega (arith, first.0); same = first.1.here ∙ sym here }

begin_case : (rs : List Record) (i : ℕ) (group : Option (List ℕ)) → group_at rs i ≡ group → BeginsAt rs i (begin_in rs i group)
begin_case rs i None e = record { begins = ap (is_new_group rs i) e; upto = omega arith; same = refl }
begin_case rs i (Some group) e = begin_found rs i group e (first_in_group rs i group) refl

pub unit_begins : (rs : List Record) (i : ℕ) → BeginsAt rs i (unit_begin rs i)
unit_begins rs i = begin_case rs i (group_at rs i) refl

no_earlier : (i : ℕ) (found : Option ℕ) → not (is_some found) ≡ true → found ≡ None
no_earlier i None e = refl
no_earlier i (Some b) e = cc

begins_there : (rs : List Record) (i : ℕ) (group : Option (List ℕ)) → is_new_group rs i group ≡ true → begin_in rs i group ≡ i
begins_there rs i None e = refl
begins_there rs i (Some group) e = ap (λ o. unwrap_or o i) (no_earlier i (first_in_group rs i group) e)

-- the unit that begins at a position is numbered by those before
pub unit_at_begin : (rs : List Record) (b : ℕ) → begins_unit rs b ≡ true → unit_at rs b ≡ units_before rs b
unit_at_begin rs b e = ap (units_before rs) (begins_there rs b (group_at rs b) e)

pub unit_before : (rs : List Record) (i n : ℕ) → i < n → unit_at rs i < units_before rs n
unit_before rs i n h =
    let at_begin : BeginsAt rs i (unit_begin rs i) = unit_begins rs i in
    count_less (begins_unit rs) (unit_begin rs i) n at_begin.begins (omega arith)

-- positions of one unit begin together and have the same group, if any
pub same_begin : (rs : List Record) (i j : ℕ) → unit_at rs i ≡ unit_at rs j → unit_begin rs i ≡ unit_begin rs j
same_begin rs i j e = count_same (begins_unit rs) (unit_begin rs i) (unit_begin rs j) (unit_begins rs i).begins (unit_begins rs j).begins e

pub ruleset where_units_begin = (count_same, unit_begins)

pub same_group : (rs : List Record) (i j : ℕ) → unit_at rs i ≡ unit_at rs j → group_at rs i ≡ group_at rs j
same_group rs i j e = sym (unit_begins rs i).same ∙ ap (group_at rs) (same_begin rs i j e) ∙ (unit_begins rs j).same

-- where the unit of a group begins no earlier position has the group
pub begin_of_group : (rs : List Record) (i : ℕ) (group : List ℕ) → group_at rs i ≡ Some group → IsFirstAt (group_at rs) group (unit_begin rs i)
begin_of_group rs i group here =
    let b = unit_begin rs i in
    let there : group_at rs b ≡ Some group = (unit_begins rs i).same ∙ here in
    record { here = there; before = text_none (group_at rs) group b (no_earlier b (first_in_group rs b group) (sym (ap (is_new_group rs b) there) ∙ (unit_begins rs i).begins)) }

-- positions of one group are in one unit
pub one_unit : (rs : List Record) (i j : ℕ) (group : List ℕ) → group_at rs i ≡ Some group → group_at rs j ≡ Some group → unit_at rs i ≡ unit_at rs j
one_unit rs i j group here there =
    ap (units_before rs) (first_alone (λ k. group_at rs k ≡ Some group) (unit_begin rs i) (unit_begin rs j) (begin_of_group rs i group here) (begin_of_group rs j group there))

-- a unit is one group, or one position without a group
unit_cases : (rs : List Record) (i j : ℕ) → unit_at rs i ≡ unit_at rs j → (group : Option (List ℕ)) → group_at rs i ≡ group → (i ≡ j) ⊎ IsInGroupOf rs i j
unit_cases rs i j same None e =
    let at_i : unit_begin rs i ≡ i = ap (begin_in rs i) e in
    let at_j : unit_begin rs j ≡ j = ap (begin_in rs j) (sym (same_group rs i j same) ∙ e) in
    inl (sym at_i ∙ same_begin rs i j same ∙ at_j)
unit_cases rs i j same (Some group) e = inr (group, e, sym (same_group rs i j same) ∙ e)

pub has_units : (rs : List Record) → HasUnits rs
has_units rs = record {
  together = λ i j. (
    (λ same. unit_cases rs i j same (group_at rs i) refl),
    (λ h. elim h [ inl one ↦ ap (unit_at rs) one | inr both ↦ one_unit rs i j both.0 both.1 both.2 ]),
  );
}

-- the unit of a group
pub record IsUnitOf (rs : List Record) (group : List ℕ) (u : ℕ) : Type 0 where
  pub start : ℕ
  pub within : start < length rs
  pub first : IsFirstAt (group_at rs) group start
  pub number : units_before rs start ≡ u

pub unit_is : (rs : List Record) (group : List ℕ) (u : ℕ) → unit_of_group rs group ≡ Some u → IsUnitOf rs group u
unit_is rs group u some =
    (elim (group_begin rs group) as (λ o. group_begin rs group ≡ o → option_map (units_before rs) o ≡ Some u → IsUnitOf rs group u) [
      | None ↦ λ e none. cc
      | Some b ↦ λ e is. let first : (b < length rs) × IsFirstAt (group_at rs) group b = text_first (group_at rs) group (length rs) b e in record { start = b; within = first.0; first = first.1; number = cc }
    ]) refl some

pub unit_at_start : (rs : List Record) (group : List ℕ) (u : ℕ) (is : IsUnitOf rs group u) → unit_at rs is.start ≡ u
unit_at_start rs group u is = unit_at_begin rs is.start (group_begins rs group is.start is.first) ∙ is.number

-- who is in the unit of a group is in the group, and the other way round
pub in_group : (rs : List Record) (group : List ℕ) (u i : ℕ) → IsUnitOf rs group u → unit_at rs i ≡ u → group_at rs i ≡ Some group
in_group rs group u i is e = same_group rs i is.start (e ∙ sym (unit_at_start rs group u is)) ∙ is.first.here

pub in_unit : (rs : List Record) (group : List ℕ) (u i : ℕ) → IsUnitOf rs group u → group_at rs i ≡ Some group → unit_at rs i ≡ u
in_unit rs group u i is e = one_unit rs i is.start group e is.first.here ∙ unit_at_start rs group u is

-- each group has a unit
pub known_group : (rs : List Record) (group : List ℕ) (i : ℕ) → group_at rs i ≡ Some group → unit_of_group rs group ≡ Some (unit_at rs i)
known_group rs group i here =
    let within : unit_begin rs i < length rs = omega (arith, (unit_begins rs i).upto, group_within rs i group here) in
    ap (option_map (units_before rs)) (text_some (group_at rs) group (length rs) (unit_begin rs i) within (begin_of_group rs i group here))

pub unknown_unit : (rs : List Record) (group : List ℕ) → unit_of_group rs group ≡ None → (i : ℕ) → ¬ (group_at rs i ≡ Some group)
unknown_unit rs group none i here = let some : unit_of_group rs group ≡ Some (unit_at rs i) = known_group rs group i here in cc

one_back : (rs : List Record) → ((i : ℕ) → ¬ IsBrokenAt GroupSplit rs i) → (q k : ℕ) (group : List ℕ) → q < k → group_at rs q ≡ Some group → group_at rs (suc k) ≡ Some group → group_at rs k ≡ Some group
one_back rs adjacent q k group less here there =
    elim (cases_Bool (is_text group (group_at rs k))) [
      | inl same ↦ (text_Decides group (group_at rs k)).0 same
      | inr other ↦
          let P : List ℕ → Type 0 = λ g. (j : ℕ) × (suc k ≡ j + 1) × ¬ (group_at rs j ≡ Some g) × IsGroupBefore rs g j in
          let split : P group = (k, omega arith, not_from_Decides _ (text_Decides group (group_at rs k)) other, (q, less, here)) in
          absurd (adjacent (suc k) (subst (λ o. IsSomeAnd o P) (sym there) split))
    ]

-- between two positions of a group all are in it
between : (rs : List Record) → ((i : ℕ) → ¬ IsBrokenAt GroupSplit rs i) → (q : ℕ) (group : List ℕ) (d k j : ℕ) → k + d ≡ j → q ≤ k → group_at rs q ≡ Some group → group_at rs j ≡ Some group → group_at rs k ≡ Some group
between rs adjacent q group zero k j e h here there = let same : j ≡ k = omega arith in subst (λ n. group_at rs n ≡ Some group) same there
between rs adjacent q group (suc d) k j e h here there =
    let next : group_at rs (suc k) ≡ Some group = between rs adjacent q group d (suc k) j (omega arith) (omega arith) here there in
    elim (cases_lt q k) [
      | inl less ↦ one_back rs adjacent q k group less here next
      | inr more ↦ let same : q ≡ k = omega arith in subst (λ n. group_at rs n ≡ Some group) same here
    ]

in_order_case : (rs : List Record) → ((i : ℕ) → ¬ IsBrokenAt GroupSplit rs i) → (i j : ℕ) → i ≤ j → unit_begin rs j ≤ i → (group : Option (List ℕ)) → group_at rs j ≡ group → unit_at rs i ≡ unit_at rs j
in_order_case rs adjacent i j h begun None e =
    let at_itself : unit_begin rs j ≡ j = ap (begin_in rs j) e in
    let same : i ≡ j = omega arith in
    ap (unit_at rs) same
in_order_case rs adjacent i j h begun (Some group) e =
    let here : group_at rs (unit_begin rs j) ≡ Some group = (unit_begins rs j).same ∙ e in
    one_unit rs i j group (between rs adjacent (unit_begin rs j) group (j - i) i j (omega arith) begun here e) e

-- a later position is in no earlier unit
pub in_order : (rs : List Record) → ((i : ℕ) → ¬ IsBrokenAt GroupSplit rs i) → (i j : ℕ) → i ≤ j → unit_at rs i ≤ unit_at rs j
in_order rs adjacent i j h =
    elim (cases_lt i (unit_begin rs j)) [
      | inl less ↦ omega (arith, unit_before rs i (unit_begin rs j) less)
      | inr begun ↦ omega (arith, in_order_case rs adjacent i j h begun (group_at rs j) refl)
    ]
