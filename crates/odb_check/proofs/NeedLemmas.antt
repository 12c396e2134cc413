-- What names resolve to.
use Rattle.std.proofs.Common.{◌≡◌, ◌<◌, ℕ, List, Option, Some, None, refl, sym, ap, ◌∙◌, subst, inl, inr, arith, length}
use Rattle.std.specs.Prelude.{◌==◌, Contains, IsSomeAnd}
use Rattle.std.specs.Bool.{Decides}
use Rattle.std.specs.List.{list_any}
use Rattle.std.proofs.lemmas.Bool.{cases_order}
use Rattle.std.proofs.lemmas.Bool.Decides.{Decides-eqb, Decides-like}
use Rattle.odb_doc.specs.batch.Records.{Record}
use Rattle.odb_check.specs.declared.fault.NameRule.TheVariants.{IdTwice, IdIsGroup}
use Rattle.odb_check.specs.declared.need.Need.{Need}
use Rattle.odb_check.specs.declared.need.Need.TheVariants.{One, Group}
use Rattle.odb_check.specs.Marks.{same_need}
use Rattle.odb_check.specs.NameFaults.{IsBrokenAt}
use Rattle.odb_check.specs.Needs.{need_at, need_of}
use Rattle.odb_check.specs.Positions.{id_at, group_at, IsIdBefore, IsGroup}
use Rattle.odb_check.specs.PlanGraph.{IsNeedAmong}
use Rattle.odb_check.specs.Units.{begins_unit, unit_at, unit_count, position_of, unit_of_group}
use Rattle.odb_check.proofs.AnyLemmas.{Contains-Decides, Decides-none}
use Rattle.odb_check.proofs.FirstLemmas.{count_less}
use Rattle.odb_check.proofs.PositionLemmas.{IsFirstAt, text_some, text_absent, id_within, position_first, position_none}
use Rattle.odb_check.proofs.UnitLemmas.{IsUnitOf, unit_is, group_begins, known_group, unknown_unit}

-- a name that resolves to a group is not an identifier
pub record IsGroupName (rs : List Record) (name : List ℕ) (u : ℕ) : Type 0 where
  pub no_id : (j : ℕ) → ¬ (id_at rs j ≡ Some name)
  pub unit : IsUnitOf rs name u

-- what a need says of the name that resolves to it
abbrev pub IsMeant : List Record → List ℕ → Need → Type 0
IsMeant rs name (One p) = (p < length rs) × IsFirstAt (id_at rs) name p
IsMeant rs name (Group u) = IsGroupName rs name u

-- what a name resolves to, or that it is no identifier and no group
abbrev Meaning : List Record → List ℕ → Option Need → Type 0
Meaning rs name (Some need) = IsMeant rs name need
Meaning rs name None = ((j : ℕ) → ¬ (id_at rs j ≡ Some name)) × ((j : ℕ) → ¬ (group_at rs j ≡ Some name))

meaning_case : (rs : List Record) (name : List ℕ) (position unit : Option ℕ) → position_of rs name ≡ position → unit_of_group rs name ≡ unit → Meaning rs name (need_at position unit)
meaning_case rs name (Some p) unit e g = position_first rs name p e
meaning_case rs name None (Some u) e g = record { no_id = position_none rs name e; unit = unit_is rs name u g }
meaning_case rs name None None e g = (position_none rs name e, unknown_unit rs name g)

meaning : (rs : List Record) (name : List ℕ) → Meaning rs name (need_of rs name)
meaning rs name = meaning_case rs name (position_of rs name) (unit_of_group rs name) refl refl

pub is_meant : (rs : List Record) (name : List ℕ) (need : Need) → need_of rs name ≡ Some need → IsMeant rs name need
is_meant rs name need e = subst (Meaning rs name) e (meaning rs name)

pub means_nothing : (rs : List Record) (name : List ℕ) → need_of rs name ≡ None → ((j : ℕ) → ¬ (id_at rs j ≡ Some name)) × ((j : ℕ) → ¬ (group_at rs j ≡ Some name))
means_nothing rs name e = subst (Meaning rs name) e (meaning rs name)

pub need_within : (rs : List Record) (name : List ℕ) (need : Need) → need_of rs name ≡ Some need → IsNeedAmong (length rs) (unit_count rs) need
need_within rs name (One p) e = (is_meant rs name (One p) e).0
need_within rs name (Group u) e =
    let is : IsUnitOf rs name u = (is_meant rs name (Group u) e).unit in
    subst (λ v. v < unit_count rs) is.number (count_less (begins_unit rs) is.start (length rs) (group_begins rs name is.start is.first) is.within)

same_Decides : (need other : Need) → Decides (same_need need other) (other ≡ need)
same_Decides (One p) (One q) = Decides-like (p == q) (λ e. ap One (sym e)) (λ e. cc) (Decides-eqb p q)
same_Decides (One p) (Group v) = Decides-none (λ e. cc)
same_Decides (Group u) (One q) = Decides-none (λ e. cc)
same_Decides (Group u) (Group v) = Decides-like (u == v) (λ e. ap Group (sym e)) (λ e. cc) (Decides-eqb u v)

pub need_listed : (need : Need) (needs : List Need) → Decides (list_any (same_need need) needs) (Contains needs need)
need_listed need needs = Contains-Decides (same_need need) need (same_Decides need) needs

-- no identifier comes twice
pub one_id : (rs : List Record) → ((i : ℕ) → ¬ IsBrokenAt IdTwice rs i) → (id : List ℕ) (i j : ℕ) → id_at rs i ≡ Some id → id_at rs j ≡ Some id → i ≡ j
one_id rs once id i j here there =
    let twice : (k l : ℕ) → k < l → id_at rs k ≡ Some id → id_at rs l ≡ Some id → ⊥ =
    λ k l less first second. once l (subst (λ o. IsSomeAnd o (λ x. IsIdBefore rs x l)) (sym second) (k, less, first)) in
    elim (cases_order i j) [
      | inl same ↦ same
      | inr (inl less) ↦ absurd (twice i j less here there)
      | inr (inr more) ↦ absurd (twice j i more there here)
    ]

-- no identifier is a group
pub no_group : (rs : List Record) → ((i : ℕ) → ¬ IsBrokenAt IdIsGroup rs i) → (name : List ℕ) (i j : ℕ) → id_at rs i ≡ Some name → group_at rs j ≡ Some name → ⊥
no_group rs apart name i j here there = apart i (subst (λ o. IsSomeAnd o (λ x. IsGroup rs x)) (sym here) (j, there))

-- each identifier has its position
pub position_is : (rs : List Record) → ((i : ℕ) → ¬ IsBrokenAt IdTwice rs i) → (name : List ℕ) (p : ℕ) → id_at rs p ≡ Some name → position_of rs name ≡ Some p
position_is rs once name p here =
    text_some (id_at rs) name (length rs) p (id_within rs p name here) (record { here = here; before = λ k less there. let same : k ≡ p = one_id rs once name k p there here in omega arith })

pub id_need : (rs : List Record) → ((i : ℕ) → ¬ IsBrokenAt IdTwice rs i) → (name : List ℕ) (p : ℕ) → id_at rs p ≡ Some name → need_of rs name ≡ Some (One p)
id_need rs once name p here = ap (λ o. need_at o (unit_of_group rs name)) (position_is rs once name p here)

pub group_need : (rs : List Record) → ((i : ℕ) → ¬ IsBrokenAt IdIsGroup rs i) → (name : List ℕ) (j : ℕ) → group_at rs j ≡ Some name → need_of rs name ≡ Some (Group (unit_at rs j))
group_need rs apart name j here =
    let none : position_of rs name ≡ None = text_absent (id_at rs) name (length rs) (λ k less there. no_group rs apart name k j there here) in
    ap (λ o. need_at o (unit_of_group rs name)) none ∙ ap (need_at None) (known_group rs name j here)
