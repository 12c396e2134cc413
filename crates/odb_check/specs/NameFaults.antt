-- Where each rule on names is broken, over all pairs of positions (OData JSON Format 4.01, sections 19.1
-- and 19.2).
use Rattle.std.specs.Prelude.{◌≡◌, ◌<◌, ◌⊎◌, ◌+◌, ℕ, List, Some, Contains, IsSomeAnd}
use Rattle.odb_doc.specs.batch.Records.{Record}
use Rattle.odb_check.specs.declared.fault.NameRule.{NameRule}
use Rattle.odb_check.specs.declared.fault.NameRule.TheVariants as rules
use Rattle.odb_check.specs.Positions.{id_at, group_at, names_at, reference_at, IsId, IsIdBefore, IsIdFrom, IsGroup, IsGroupBefore, IsGroupAfter, IsInGroupOf, NamesGroupOf}

-- this is true of one of the names at position i
pub record SomeName (rs : List Record) (i : ℕ) (P : List ℕ → Type 0) : Type 0 where
  pub name : List ℕ
  pub listed : Contains (names_at rs i) name
  pub holds : P name

-- the name is an earlier request in another group, which the names at i lack
abbrev pub IsMemberAlone : List Record → ℕ → List ℕ → Type 0
IsMemberAlone rs i name = (j : ℕ) × (j < i) × (id_at rs j ≡ Some name) × IsSomeAnd (group_at rs j) (λ group. ¬ (group_at rs i ≡ Some group) × ¬ Contains (names_at rs i) group)

-- the rule is broken at position i
abbrev pub IsBrokenAt : NameRule → List Record → ℕ → Type 0
IsBrokenAt rules.IdTwice rs i = IsSomeAnd (id_at rs i) (λ id. IsIdBefore rs id i)
IsBrokenAt rules.IdIsGroup rs i = IsSomeAnd (id_at rs i) (λ id. IsGroup rs id)
IsBrokenAt rules.GroupSplit rs i = IsSomeAnd (group_at rs i) (λ group. (j : ℕ) × (i ≡ j + 1) × ¬ (group_at rs j ≡ Some group) × IsGroupBefore rs group j)
IsBrokenAt rules.UnknownName rs i = SomeName rs i (λ name. ¬ IsId rs name × ¬ IsGroup rs name)
IsBrokenAt rules.ForwardName rs i = SomeName rs i (λ name. IsIdFrom rs name i ⊎ IsGroupAfter rs name i)
IsBrokenAt rules.OwnGroup rs i = SomeName rs i (λ name. group_at rs i ≡ Some name)
IsBrokenAt rules.GroupNotListed rs i = SomeName rs i (IsMemberAlone rs i)
IsBrokenAt rules.UnknownReference rs i = IsSomeAnd (reference_at rs i) (λ id. ¬ IsId rs id)
IsBrokenAt rules.ForwardReference rs i = IsSomeAnd (reference_at rs i) (λ id. IsIdFrom rs id i)
IsBrokenAt rules.ReferenceNotListed rs i = IsSomeAnd (reference_at rs i) (λ id. (j : ℕ) × (j < i) × (id_at rs j ≡ Some id) × ¬ IsInGroupOf rs i j × ¬ Contains (names_at rs i) id × ¬ NamesGroupOf rs i j)
