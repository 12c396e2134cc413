-- Where the reference of the request that is checked breaks a rule, and what it adds to the needs.
use Rattle.std.proofs.Common.{◌≡◌, ◌<◌, ◌+◌, ℕ, Bool, true, false, cond, List, [], ◌∷◌, Some, None, refl, sym, ap, ◌∙◌, subst, arith, length}
use Rattle.std.specs.Prelude.{◌==◌, nat_le, is_some, slice_index, option_and_then, Contains, bytes_eq, IsSomeAnd}
use Rattle.std.specs.Bool.{Decides}
use Rattle.std.specs.List.{list_any, filter_map, cons_option}
use Rattle.std.proofs.lemmas.Option.{option_and_then_some, same_Some}
use Rattle.std.proofs.lemmas.Bool.{leb-true, le-leb}
use Rattle.std.proofs.lemmas.Bool.Decides.{Decides-at, Decides-like, same_from_decides}
use Rattle.odb_doc.specs.batch.Records.{Record}
use Rattle.odb_check.specs.declared.fault.NameRule.TheVariants.{UnknownReference, ForwardReference, ReferenceNotListed}
use Rattle.odb_check.specs.declared.names.Resolved.{Resolved}
use Rattle.odb_check.specs.declared.need.Need.TheVariants.{One}
use Rattle.odb_check.specs.Resolved.{MissesGroupOf, batch_of, referred_by}
use Rattle.odb_check.specs.Walks.{HasValidIds, further_needs, named_at}
use Rattle.odb_check.specs.Marks.{same_need}
use Rattle.odb_check.specs.NameFaults.{IsBrokenAt}
use Rattle.odb_check.specs.Needs.{need_of, further_names}
use Rattle.odb_check.specs.Positions.{id_at, names_at, reference_at, IsId, IsIdFrom, IsInGroupOf, NamesGroupOf}
use Rattle.odb_check.specs.Units.{position_of}
use Rattle.odb_check.proofs.AnyLemmas.{ElementMeaning, Decides-none, some_Decides, element_meaning, Contains-meaning, text_listed}
use Rattle.odb_check.proofs.NameLemmas.{once}
use Rattle.odb_check.proofs.NeedLemmas.{is_meant, id_need, need_listed, one_id}
use Rattle.odb_check.proofs.PositionLemmas.{IsFirstAt, position_first, position_none}

-- the request refers to p
pub record RefersTo (j : Resolved) (p : ℕ) : Type 0 where
  pub id : List ℕ
  pub here : reference_at (batch_of j) j.i ≡ Some id
  pub within : p < length (batch_of j)
  pub there : id_at (batch_of j) p ≡ Some id

pub refers : (j : Resolved) (p : ℕ) → referred_by j ≡ Some p → RefersTo j p
refers j p found = option_and_then_some (position_of (batch_of j)) (reference_at (batch_of j) j.i) p found (λ id here at_p.
    let first : (p < length (batch_of j)) × IsFirstAt (id_at (batch_of j)) id p = position_first (batch_of j) id p at_p in
    record { id = id; here = here; within = first.0; there = first.1.here })

-- where the request refers to none its reference is not an identifier
refers_nowhere : (j : Resolved) (id : List ℕ) → referred_by j ≡ None → reference_at (batch_of j) j.i ≡ Some id → ¬ IsId (batch_of j) id
refers_nowhere j id none here h = position_none (batch_of j) id (sym (ap (option_and_then (position_of (batch_of j))) here) ∙ none) h.0 h.1

-- what would make its reference an identifier does not hold
pub nowhere : (j : Resolved) (P : List ℕ → Type 0) → referred_by j ≡ None → ((id : List ℕ) → P id → IsId (batch_of j) id) → ¬ IsSomeAnd (reference_at (batch_of j) j.i) P
nowhere j P none is_id h =
    (elim (reference_at (batch_of j) j.i) as (λ o. reference_at (batch_of j) j.i ≡ o → IsSomeAnd o P → ⊥) [ None ↦ λ e none. none | Some id ↦ λ e holds. refers_nowhere j id none e (is_id id holds) ]) refl h

-- ---- an unknown reference

pub unknown_Decides : (j : Resolved) → referred_by j ≡ None → Decides (is_some (reference_at (batch_of j) j.i)) (IsBrokenAt UnknownReference (batch_of j) j.i)
unknown_Decides j none =
    (elim (reference_at (batch_of j) j.i) as (λ o. reference_at (batch_of j) j.i ≡ o → Decides (is_some o) (IsSomeAnd o (λ id. ¬ IsId (batch_of j) id))) [
      | None ↦ λ e. Decides-none (λ h. h)
      | Some id ↦ λ e. ((λ yes. refers_nowhere j id none e), λ h. refl)
    ]) refl

-- ---- a reference that does not precede

pub forward_Decides : (j : Resolved) (p : ℕ) → RefersTo j p → Decides (nat_le j.i p) (IsBrokenAt ForwardReference (batch_of j) j.i)
forward_Decides j p to = some_Decides (reference_at (batch_of j) j.i) to.id (λ id. IsIdFrom (batch_of j) id j.i) (nat_le j.i p) to.here (
  (λ e. (p, leb-true j.i p e, to.there)),
  (λ h. let same : p ≡ h.0 = one_id (batch_of j) (once (batch_of j) j.valid_ids) to.id p h.0 to.there h.2 in le-leb j.i p (omega (arith, h.1))),
)

pub ruleset where_it_refers = (refers, forward_Decides, nowhere)

-- ---- a reference that is not listed

-- what such a reference says of its position
abbrev IsNotListed : List Record → ℕ → List ℕ → Type 0
IsNotListed rs i id = (j : ℕ) × (j < i) × (id_at rs j ≡ Some id) × ¬ IsInGroupOf rs i j × ¬ Contains (names_at rs i) id × ¬ NamesGroupOf rs i j

pub unlisted_at : (j : Resolved) (p : ℕ) (to : RefersTo j p) → IsBrokenAt ReferenceNotListed (batch_of j) j.i → MissesGroupOf (batch_of j) j.i p × ¬ Contains (names_at (batch_of j) j.i) to.id
unlisted_at j p to h =
    let rs = batch_of j in
    let at_id : IsNotListed rs j.i to.id = subst (λ o. IsSomeAnd o (IsNotListed rs j.i)) to.here h in
    let same : at_id.0 ≡ p = one_id rs (once rs j.valid_ids) to.id at_id.0 p at_id.2 to.there in
    ((omega (arith, at_id.1), subst (λ k. ¬ IsInGroupOf rs j.i k) same at_id.3, subst (λ k. ¬ NamesGroupOf rs j.i k) same at_id.5), at_id.4)

pub unlisted_Decides : (j : Resolved) (p : ℕ) (to : RefersTo j p) → ¬ Contains (names_at (batch_of j) j.i) to.id → (misses : Bool) → Decides misses (MissesGroupOf (batch_of j) j.i p) → Decides misses (IsBrokenAt ReferenceNotListed (batch_of j) j.i)
unlisted_Decides j p to lacks misses decides = some_Decides (reference_at (batch_of j) j.i) to.id (IsNotListed (batch_of j) j.i) misses to.here
    (Decides-like misses (λ m. (p, m.0, to.there, m.1, lacks, m.2)) (λ h. (unlisted_at j p to (subst (λ o. IsSomeAnd o (IsNotListed (batch_of j) j.i)) (sym to.here) h)).0) decides)

-- ---- among the names

-- the names resolve to a position if and only if its identifier is among them
one_listed : (rs : List Record) → HasValidIds rs → (i : ℕ) (id : List ℕ) (p : ℕ) → id_at rs p ≡ Some id → Decides (list_any (same_need (One p)) (named_at rs i)) (Contains (names_at rs i) id)
one_listed rs sound i id p here = Decides-like _
    (λ inside.
    let name : ElementMeaning (need_of rs) (names_at rs i) (One p) = element_meaning (need_of rs) (names_at rs i) (One p) inside in
    let there : id_at rs p ≡ Some name.element = (is_meant rs name.element (One p) name.means).1.here in
    subst (Contains (names_at rs i)) (same_Some name.element id (sym there ∙ here)) name.inside)
    (λ h. Contains-meaning (need_of rs) (names_at rs i) id (One p) h (id_need rs (once rs sound) id p here))
    (need_listed (One p) (named_at rs i))

-- an identifier is listed where its position has the stamp
pub one_marked : (j : Resolved) (p : ℕ) (id : List ℕ) → id_at (batch_of j) p ≡ Some id → Decides (slice_index j.marks.now.ones.items p == j.i + 1) (Contains (names_at (batch_of j) j.i) id)
one_marked j p id here = Decides-at _ _ (j.marked.ones_are p) (one_listed (batch_of j) j.valid_ids j.i id p here)

-- ---- what a reference adds

-- a reference that is known adds its position, unless that is listed
pub further_is : (j : Resolved) (p : ℕ) (to : RefersTo j p) (listed : Bool) → Decides listed (Contains (names_at (batch_of j) j.i) to.id) → further_needs (batch_of j) j.i ≡ cond listed [] (One p ∷ [])
further_is j p to listed decides =
    let rs = batch_of j in
    let same : list_any (bytes_eq to.id) (names_at rs j.i) ≡ listed = same_from_decides (list_any (bytes_eq to.id) (names_at rs j.i)) listed (text_listed to.id (names_at rs j.i)) decides in
    ap (λ o. filter_map (need_of rs) (further_names (names_at rs j.i) o)) to.here ∙ ap (λ v. filter_map (need_of rs) (cond v [] (to.id ∷ []))) same
    ∙ elim listed as (λ v. filter_map (need_of rs) (cond v [] (to.id ∷ [])) ≡ cond v [] (One p ∷ [])) [ true ↦ refl | false ↦ ap (λ o. cons_option o []) (id_need rs (once rs j.valid_ids) to.id p to.there) ]

pub further_none : (j : Resolved) → referred_by j ≡ None → ¬ IsBrokenAt UnknownReference (batch_of j) j.i → further_needs (batch_of j) j.i ≡ []
further_none j none is_known =
    let rs = batch_of j in
    (elim (reference_at rs j.i) as (λ o. reference_at rs j.i ≡ o → filter_map (need_of rs) (further_names (names_at rs j.i) o) ≡ []) [
      | None ↦ λ e. refl
      | Some id ↦ λ e. absurd (is_known (subst (λ o. IsSomeAnd o (λ x. ¬ IsId rs x)) (sym e) (refers_nowhere j id none e)))
    ]) refl
