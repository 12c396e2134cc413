-- The different groups of the first requests: how many they are, and that in the end they are all.
use Rattle.std.proofs.Common.{◌≡◌, ◌∙◌, ◌||◌, ◌+◌, ◌≤◌, ℕ, zero, suc, Bool, true, false, cond, is_some, Option, None, Some, List, [], ◌∷◌, ◌++◌, length, slice_get, take, fold, if◌then◌else◌, refl, ap, sym, inl, inr, bytes_eq, arith, length-append}
use Rattle.std.specs.Prelude.{Contains, option_and_then}
use Rattle.std.specs.List.{list_any, filter_map, cons_option}
use Rattle.std.proofs.Math.Bool.{or-false}
use Rattle.std.proofs.Math.Seq.{take-suc}
use Rattle.std.proofs.lemmas.Bool.{cases_Bool}
use Rattle.std.proofs.lemmas.List.{take_all}
use Rattle.std.proofs.lemmas.List.Elements.{filter_map-append}
use Rattle.std.proofs.lemmas.List.Sums.{fold-append}
use Rattle.std.proofs.lemmas.Option.{get_or_from_slice_get, option_and_then_some, slice_get_cases, slice_get_within}
use Rattle.std.proofs.lemmas.Slice.Eq.{bytes_eq-Decides}
use Rattle.odb_doc.specs.Names.{distinct, with_name}
use Rattle.odb_doc.specs.batch.Records.{Record}
use Rattle.odb_check.specs.Firsts.{or_else, is_text}
use Rattle.odb_check.specs.Units.{groups_of, first_in_group}
use Rattle.odb_check.specs.Positions.{group_at, IsGroup}
use Rattle.odb_check.specs.Tables.{with_group, groups_below}
use Rattle.odb_check.proofs.AnyLemmas.{any_more, Contains-meaning, Contains-none}

-- ---- a group is among those of the first n requests where one of these is in it

any-with_group : (names : List (List ℕ)) (group : Option (List ℕ)) (q : List ℕ) → list_any (bytes_eq q) (with_group names group) ≡ (list_any (bytes_eq q) names || is_text q group)
any-with_group names None q = sym (or-false (list_any (bytes_eq q) names))
any-with_group names (Some group) q =
    elim (cases_Bool (list_any (bytes_eq group) names)) [
      | inl among ↦ rw among (elim (cases_Bool (bytes_eq q group)) [
        | inl same ↦ let found : list_any (bytes_eq q) names ≡ true = rw ((bytes_eq-Decides q group).0 same) among in rw found refl
        | inr other ↦ rw other (sym (or-false (list_any (bytes_eq q) names)))
      ])
      | inr new ↦ rw new (any_more (bytes_eq q) names group)
    ]

some_or : (found : Option ℕ) (b : Bool) (n : ℕ) → (is_some found || b) ≡ is_some (or_else found (cond b (Some n) None))
some_or None true n = refl
some_or None false n = refl
some_or (Some f) b n = refl

pub any-groups_below : (rs : List Record) (n : ℕ) (q : List ℕ) → list_any (bytes_eq q) (groups_below rs n) ≡ is_some (first_in_group rs n q)
any-groups_below rs zero q = refl
any-groups_below rs (suc n) q =
    any-with_group (groups_below rs n) (group_at rs n) q ∙ ap (λ b. b || is_text q (group_at rs n)) (any-groups_below rs n q) ∙ some_or (first_in_group rs n q) (is_text q (group_at rs n)) n

-- ---- how many they are

pub length-with : (among : Bool) (names : List (List ℕ)) (group : List ℕ) → length (if among then names else names ++ group ∷ []) ≡ length names + cond among 0 1
length-with true names group = omega arith
length-with false names group = length-append names (group ∷ [])

length-with_group : (names : List (List ℕ)) (group : Option (List ℕ)) → length (with_group names group) ≤ length names + 1
length-with_group names None = omega arith
length-with_group names (Some group) =
    elim (list_any (bytes_eq group) names) as (λ b. length (if b then names else names ++ group ∷ []) ≤ length names + 1) [
      | true ↦ omega arith
      | false ↦ omega (arith, length-append names (group ∷ []))
    ]

pub length-groups_below : (rs : List Record) (n : ℕ) → length (groups_below rs n) ≤ n
length-groups_below rs zero = omega arith
length-groups_below rs (suc n) = omega (arith, length-groups_below rs n, length-with_group (groups_below rs n) (group_at rs n))

-- ---- in the end they are all

put_one : (names : List (List ℕ)) (group : Option (List ℕ)) → with_group names group ≡ fold with_name names (cons_option group [])
put_one names None = refl
put_one names (Some group) = refl

groups_so_far : (rs : List Record) (n : ℕ) → n ≤ length rs → groups_below rs n ≡ fold with_name [] (filter_map (λ (r : Record). r.group) (take n rs))
groups_so_far rs zero within = refl
groups_so_far rs (suc n) within =
    let groups : List Record → List (List ℕ) = filter_map (λ (r : Record). r.group) in
    elim (slice_get_cases rs n).1 [
      | inl (r, _, here, there) ↦
          let more : groups (take (suc n) rs) ≡ groups (take n rs) ++ groups (r ∷ []) =
          ap groups (take-suc rs n r (omega arith) ∙ ap (λ x. take n rs ++ x ∷ []) there) ∙ filter_map-append (λ (x : Record). x.group) (take n rs) (r ∷ []) in
          ap (λ names. with_group names (group_at rs n)) (groups_so_far rs n (omega arith)) ∙ ap (λ o. with_group (fold with_name [] (groups (take n rs))) (option_and_then (λ x. x.group) o)) here
          ∙ put_one (fold with_name [] (groups (take n rs))) r.group ∙ sym (ap (fold with_name []) more ∙ fold-append with_name [] (groups (take n rs)) (groups (r ∷ [])))
      | inr (past, _) ↦ absurd (omega arith)
    ]

-- what is assumed is a law of the names of a list
pub groups_below-all : (rs : List Record) → ((names : List (List ℕ)) → fold with_name [] names ≡ distinct names) → groups_below rs (length rs) ≡ groups_of rs
groups_below-all rs law = groups_so_far rs (length rs) (omega arith) ∙ ap (λ xs. fold with_name [] (filter_map (λ (r : Record). r.group) xs)) (take_all (length rs) rs (omega arith)) ∙ law (filter_map (λ (r : Record). r.group) rs)

-- ---- without groups no request is in one

some_distinct : (names : List (List ℕ)) (name : List ℕ) → Contains names name → length (distinct names) ≡ 0 → ⊥
some_distinct [] name has none = Contains-none name has
some_distinct (x ∷ names) name has none = omega (arith, none)

pub in_no_group : (rs : List Record) (name : List ℕ) → length (groups_of rs) ≡ 0 → ¬ IsGroup rs name
in_no_group rs name none (j, here) =
    option_and_then_some (λ (r : Record). r.group) (slice_get rs j) name here (λ r is grouped.
    let has : Contains rs r = (j, slice_get_within rs j r is, get_or_from_slice_get rs j r r is) in
    some_distinct _ name (Contains-meaning (λ (request : Record). request.group) rs r name has grouped) none)
