-- Where the names of the request that is checked break a rule.
use Rattle.std.proofs.Common.{◌≡◌, ◌≤◌, ◌<◌, ◌+◌, ◌⊎◌, ℕ, Bool, true, false, not, List, Option, Some, None, refl, sym, ◌∙◌, subst, inl, inr, arith, length, get_or}
use Rattle.std.specs.Prelude.{◌==◌, ◌↔◌, MatchBool, nat_lt, nat_le, is_some, slice_index, Contains, IsSomeAnd}
use Rattle.std.specs.Bool.{Decides}
use Rattle.std.specs.List.{list_any, IsAnyAnswer}
use Rattle.std.proofs.lemmas.Bool.{cases_lt, eqb-true, eq-eqb, ltb-true, lt-ltb, leb-true, le-leb, false≢true}
use Rattle.std.proofs.lemmas.Bool.Decides.{Decides-at, Decides-eqb, Decides-like, Decides-not}
use Rattle.std.proofs.lemmas.List.Elements.{Contains-get_or}
use Rattle.std.proofs.lemmas.Option.{same_Some}
use Rattle.odb_doc.specs.batch.Records.{Record}
use Rattle.odb_check.specs.declared.fault.NameRule.TheVariants.{IdTwice, IdIsGroup, GroupSplit, UnknownName}
use Rattle.odb_check.specs.declared.names.Resolved.{Resolved}
use Rattle.odb_check.specs.declared.need.Need.{Need}
use Rattle.odb_check.specs.declared.need.Need.TheVariants.{One, Group}
use Rattle.odb_check.specs.Resolved.{BreaksByName, IsAnswer, MissesGroupOf, batch_of}
use Rattle.odb_check.specs.Walks.{HasValidIds, named_at}
use Rattle.odb_check.specs.Marks.{same_need}
use Rattle.odb_check.specs.NameFaults.{SomeName, IsBrokenAt, IsMemberAlone}
use Rattle.odb_check.specs.Needs.{need_of}
use Rattle.odb_check.specs.Positions.{id_at, group_at, names_at, IsId, IsIdFrom, IsGroup, IsGroupAfter, IsInGroupOf, NamesGroupOf}
use Rattle.odb_check.specs.Units.{unit_begin, unit_at}
use Rattle.odb_check.proofs.AnyLemmas.{ElementMeaning, Decides-none, element_meaning, Contains-meaning}
use Rattle.odb_check.proofs.NeedLemmas.{IsMeant, is_meant, group_need, means_nothing, need_listed, no_group, one_id}
use Rattle.odb_check.proofs.PositionLemmas.{IsFirstAt}
use Rattle.odb_check.proofs.UnitLemmas.{unit_before, has_units, begin_of_group, in_group, in_unit, in_order}

pub once : (rs : List Record) → HasValidIds rs → (i : ℕ) → ¬ IsBrokenAt IdTwice rs i
once rs sound i h = sound IdTwice i (refl, h)

pub apart : (rs : List Record) → HasValidIds rs → (i : ℕ) → ¬ IsBrokenAt IdIsGroup rs i
apart rs sound i h = sound IdIsGroup i (refl, h)

-- a later unit has later positions
pub later_unit : (rs : List Record) → HasValidIds rs → (i j : ℕ) → unit_at rs i < unit_at rs j → i < j
later_unit rs sound i j less =
    elim (cases_lt i j) [ inl before ↦ before | inr more ↦ absurd (omega (arith, in_order rs (λ k h. sound GroupSplit k (refl, h)) j i more)) ]

-- ---- names that are unknown

pub unknown : (rs : List Record) (i : ℕ) (name : List ℕ) → Contains (names_at rs i) name → need_of rs name ≡ None → IsBrokenAt UnknownName rs i
unknown rs i name listed e =
    let nothing : ((j : ℕ) → ¬ (id_at rs j ≡ Some name)) × ((j : ℕ) → ¬ (group_at rs j ≡ Some name)) = means_nothing rs name e in
    record { name = name; listed = listed; holds = ((λ h. nothing.0 h.0 h.1), (λ h. nothing.1 h.0 h.1)) }

pub meant_known : (rs : List Record) (name : List ℕ) (need : Need) → IsMeant rs name need → ¬ IsId rs name → ¬ IsGroup rs name → ⊥
meant_known rs name (One p) is no_id not_group = no_id (p, is.1.here)
meant_known rs name (Group u) is no_id not_group = not_group (is.unit.start, is.unit.first.here)

-- ---- any of the names

answered_yes : (rs : List Record) (i k : ℕ) (P : List ℕ → Type 0) → k < length (named_at rs i) → ((d : Need) → IsAnswer rs (get_or (named_at rs i) k d) true P) → SomeName rs i P
answered_yes rs i k P within answers =
    let need = get_or (named_at rs i) k (One 0) in
    let name : ElementMeaning (need_of rs) (names_at rs i) need = element_meaning (need_of rs) (names_at rs i) need (Contains-get_or (named_at rs i) k (One 0) within) in
    record { name = name.element; listed = name.inside; holds = (answers (One 0) name.element name.means).0 refl }

-- each name with the property is an identifier or a group
abbrev pub AreKnown : List Record → (List ℕ → Type 0) → Type 0
AreKnown rs P = (name : List ℕ) → P name → IsId rs name ⊎ IsGroup rs name

pub later_known : (rs : List Record) (i : ℕ) → AreKnown rs (λ name. IsIdFrom rs name i ⊎ IsGroupAfter rs name i)
later_known rs i name h = elim h [ inl from ↦ inl (from.0, from.2) | inr after ↦ inr after.0 ]

pub own_known : (rs : List Record) (i : ℕ) → AreKnown rs (λ name. group_at rs i ≡ Some name)
own_known rs i name h = inr (i, h)

pub alone_known : (rs : List Record) (i : ℕ) → AreKnown rs (IsMemberAlone rs i)
alone_known rs i name h = inl (h.0, h.2)

pub breaks_known : (rs : List Record) (i : ℕ) → AreKnown rs (BreaksByName rs i)
breaks_known rs i name (inl later) = later_known rs i name later
breaks_known rs i name (inr (inl own)) = own_known rs i name own
breaks_known rs i name (inr (inr alone)) = alone_known rs i name alone

answered_no : (rs : List Record) (i : ℕ) (P : List ℕ → Type 0) → AreKnown rs P → ((k : ℕ) (d : Need) → 0 ≤ k → k < length (named_at rs i) → IsAnswer rs (get_or (named_at rs i) k d) false P)
    → (some : SomeName rs i P) → (found : Option Need) → need_of rs some.name ≡ found → ⊥
answered_no rs i P known answers some None e =
    let nothing : ((j : ℕ) → ¬ (id_at rs j ≡ Some some.name)) × ((j : ℕ) → ¬ (group_at rs j ≡ Some some.name)) = means_nothing rs some.name e in
    elim (known some.name some.holds) [ inl is ↦ nothing.0 is.0 is.1 | inr is ↦ nothing.1 is.0 is.1 ]
answered_no rs i P known answers some (Some need) e =
    let inside : Contains (named_at rs i) need = Contains-meaning (need_of rs) (names_at rs i) some.name need some.listed e in
    let answer : IsAnswer rs need false P = subst (λ x. IsAnswer rs x false P) inside.2 (answers inside.0 need (omega arith) inside.1) in
    false≢true ((answer some.name e).1 some.holds)

any_case : (rs : List Record) (i : ℕ) (P : List ℕ → Type 0) → AreKnown rs P → (answer : Bool) → IsAnyAnswer (λ need b. IsAnswer rs need b P) (named_at rs i) answer → Decides answer (SomeName rs i P)
any_case rs i P known true h = ((λ e. answered_yes rs i h.0 P h.1 h.2), λ some. refl)
any_case rs i P known false h = Decides-none (λ some. answered_no rs i P known h some (need_of rs some.name) refl)

-- what is answered of the needs holds of the names, if those with the property are known
pub any_Decides : (j : Resolved) (P : List ℕ → Type 0) → AreKnown (batch_of j) P → (answer : Bool) → IsAnyAnswer (λ need b. IsAnswer (batch_of j) need b P) j.named.now answer → Decides answer (SomeName (batch_of j) j.i P)
any_Decides j P known answer h = any_case (batch_of j) j.i P known answer (subst (λ xs. IsAnyAnswer (λ need b. IsAnswer (batch_of j) need b P) xs answer) j.names h)

-- ---- names that appear later

pub later_one : (j : Resolved) (p : ℕ) (name : List ℕ) → IsMeant (batch_of j) name (One p) → Decides (nat_le j.i p) (IsIdFrom (batch_of j) name j.i ⊎ IsGroupAfter (batch_of j) name j.i)
later_one j p name is = (
  (λ e. inl (p, leb-true j.i p e, is.1.here)),
  (λ h. elim h [
    | inl from ↦ let same : p ≡ from.0 = one_id (batch_of j) (once (batch_of j) j.valid_ids) name p from.0 is.1.here from.2 in le-leb j.i p (omega (arith, from.1))
    | inr after ↦ absurd (no_group (batch_of j) (apart (batch_of j) j.valid_ids) name p after.0.0 is.1.here after.0.1)
  ]),
)

start_unit : (rs : List Record) (name : List ℕ) (i j : ℕ) → group_at rs j ≡ Some name → ((k : ℕ) → group_at rs k ≡ Some name → i < k) → unit_at rs i < unit_at rs j
start_unit rs name i j there after =
    let first : IsFirstAt (group_at rs) name (unit_begin rs j) = begin_of_group rs j name there in
    unit_before rs i (unit_begin rs j) (after (unit_begin rs j) first.here)

pub later_group : (j : Resolved) (u : ℕ) (name : List ℕ) → IsMeant (batch_of j) name (Group u) → Decides (nat_lt (unit_at (batch_of j) j.i) u) (IsIdFrom (batch_of j) name j.i ⊎ IsGroupAfter (batch_of j) name j.i)
later_group j u name is =
    let rs = batch_of j in (
      (λ e.
          let less : unit_at rs j.i < u = ltb-true (unit_at rs j.i) u e in
          inr ((is.unit.start, is.unit.first.here), (λ k there. later_unit rs j.valid_ids j.i k (let at_u : unit_at rs k ≡ u = in_unit rs name u k is.unit there in omega arith)))),
      (λ h. elim h [
        | inl from ↦ absurd (is.no_id from.0 from.2)
        | inr after ↦ lt-ltb (unit_at rs j.i) u (subst (λ v. unit_at rs j.i < v) (in_unit rs name u after.0.0 is.unit after.0.1) (start_unit rs name j.i after.0.0 after.0.1 after.1))
      ]),
    )

-- ---- the own group

pub own_one : (j : Resolved) (p : ℕ) (name : List ℕ) → IsMeant (batch_of j) name (One p) → ¬ (group_at (batch_of j) j.i ≡ Some name)
own_one j p name is = no_group (batch_of j) (apart (batch_of j) j.valid_ids) name p j.i is.1.here

pub own_group : (j : Resolved) (u : ℕ) (name : List ℕ) → IsMeant (batch_of j) name (Group u) → Decides (u == unit_at (batch_of j) j.i) (group_at (batch_of j) j.i ≡ Some name)
own_group j u name is =
    let rs = batch_of j in
    ((λ e. in_group rs name u j.i is.unit (sym (eqb-true u (unit_at rs j.i) e))), (λ here. eq-eqb u (unit_at rs j.i) (sym (in_unit rs name u j.i is.unit here))))

-- ---- members of other groups

-- p precedes i and the two are not in one group
pub outside_Decides : (rs : List Record) (i p : ℕ) → p < i → Decides (not (unit_at rs p == unit_at rs i)) ((p < i) × ¬ IsInGroupOf rs i p)
outside_Decides rs i p less = Decides-like (not (unit_at rs p == unit_at rs i)) (λ other. (less, (λ both. other (sym (((has_units rs).together i p).1 (inr both))))))
    (λ h same. elim (((has_units rs).together i p).0 (sym same)) [ inl one ↦ absurd (omega arith) | inr both ↦ h.1 both ])
    (Decides-not (unit_at rs p == unit_at rs i) (Decides-eqb (unit_at rs p) (unit_at rs i)))

group_listed : (rs : List Record) → HasValidIds rs → (i p : ℕ) → Decides (list_any (same_need (Group (unit_at rs p))) (named_at rs i)) (NamesGroupOf rs i p)
group_listed rs sound i p = Decides-like _
    (λ inside.
    let u = unit_at rs p in
    let name : ElementMeaning (need_of rs) (names_at rs i) (Group u) = element_meaning (need_of rs) (names_at rs i) (Group u) inside in
    (name.element, in_group rs name.element u p (is_meant rs name.element (Group u) name.means).unit refl, name.inside))
    (λ h. Contains-meaning (need_of rs) (names_at rs i) h.0 (Group (unit_at rs p)) h.2 (group_need rs (apart rs sound) h.0 p h.1))
    (need_listed (Group (unit_at rs p)) (named_at rs i))

-- a group is listed where its unit has the stamp
pub group_marked : (j : Resolved) (p : ℕ) → Decides (slice_index j.marks.now.groups.items (unit_at (batch_of j) p) == j.i + 1) (NamesGroupOf (batch_of j) j.i p)
group_marked j p = Decides-at _ _ (j.marked.groups_are (unit_at (batch_of j) p)) (group_listed (batch_of j) j.valid_ids j.i p)

-- p is in a group that is neither that of i nor listed
alone_cases : (rs : List Record) (i p : ℕ) (group : Option (List ℕ)) → group_at rs p ≡ group
    → ((is_some group ≡ true) × ¬ IsInGroupOf rs i p × ¬ NamesGroupOf rs i p) ↔ IsSomeAnd group (λ g. ¬ (group_at rs i ≡ Some g) × ¬ Contains (names_at rs i) g)
alone_cases rs i p None e = ((λ m. absurd (false≢true m.0)), (λ h. absurd h))
alone_cases rs i p (Some g) e = (
  (λ m. ((λ here. m.1 (g, here, e)), (λ h. m.2 (g, e, h)))),
  (λ h. (
    refl,
    (λ both. h.0 (subst (λ x. group_at rs i ≡ Some x) (same_Some both.0 g (sym both.2 ∙ e)) both.1)),
    (λ named. h.1 (subst (Contains (names_at rs i)) (same_Some named.0 g (sym named.1 ∙ e)) named.2)),
  )),
)

pub alone_Decides : (j : Resolved) (p : ℕ) (name : List ℕ) (answer : Bool) → IsMeant (batch_of j) name (One p) → Decides answer (MissesGroupOf (batch_of j) j.i p × (is_some (group_at (batch_of j) p) ≡ true))
    → Decides answer (IsMemberAlone (batch_of j) j.i name)
alone_Decides j p name answer is =
    let rs = batch_of j in
    Decides-like answer (λ m. (p, m.0.0, is.1.here, (alone_cases rs j.i p (group_at rs p) refl).0 (m.1, m.0.1, m.0.2)))
    (λ h.
    let same : h.0 ≡ p = one_id rs (once rs j.valid_ids) name h.0 p h.2 is.1.here in
    let there : IsSomeAnd (group_at rs p) (λ g. ¬ (group_at rs j.i ≡ Some g) × ¬ Contains (names_at rs j.i) g) = rw same at h.3 in
    let missed = (alone_cases rs j.i p (group_at rs p) refl).1 there in
    ((omega (arith, h.1), missed.1, missed.2), missed.0))

-- ---- names that break no rule

-- an earlier request in no group breaks none
pub plain_one : (j : Resolved) (p : ℕ) (name : List ℕ) → IsMeant (batch_of j) name (One p) → p < j.i → group_at (batch_of j) p ≡ None → ¬ BreaksByName (batch_of j) j.i name
plain_one j p name is less none (inl later) = omega (arith, leb-true j.i p ((later_one j p name is).1 later), less)
plain_one j p name is less none (inr (inl own)) = own_one j p name is own
plain_one j p name is less none (inr (inr alone)) =
    let rs = batch_of j in
    let same : alone.0 ≡ p = one_id rs (once rs j.valid_ids) name alone.0 p alone.2 is.1.here in
    let free : group_at rs alone.0 ≡ None = subst (λ k. group_at rs k ≡ None) (sym same) none in
    subst (λ o. IsSomeAnd o (λ group. ¬ (group_at rs j.i ≡ Some group) × ¬ Contains (names_at rs j.i) group)) free alone.3

-- a group that begins earlier breaks none
pub plain_group : (j : Resolved) (u : ℕ) (name : List ℕ) → IsMeant (batch_of j) name (Group u) → u < unit_at (batch_of j) j.i → ¬ BreaksByName (batch_of j) j.i name
plain_group j u name is less (inl later) = omega (arith, ltb-true (unit_at (batch_of j) j.i) u ((later_group j u name is).1 later), less)
plain_group j u name is less (inr (inl own)) = omega (arith, eqb-true u (unit_at (batch_of j) j.i) ((own_group j u name is).1 own), less)
plain_group j u name is less (inr (inr alone)) = is.no_id alone.0 alone.2

-- no name breaks a rule if none of the needs may
pub none_breaks : (j : Resolved) (P : List ℕ → Type 0) → AreKnown (batch_of j) P → (X : Type 0) (r : Bool) → MatchBool r X (IsAnyAnswer (λ need b. IsAnswer (batch_of j) need b P) j.named.now false) → r ≡ false → ¬ SomeName (batch_of j) j.i P
none_breaks j P known X true cases e some = false≢true (sym e)
none_breaks j P known X false cases e some = false≢true ((any_Decides j P known false cases).1 some)
