-- No name is twice among the distinct names, and a name that comes among distinct ones is new.
use Rattle.std.proofs.Common.{◌≡◌, ◌∙◌, Bool, true, false, not, Option, None, Some, option_map, ℕ, List, [], ◌∷◌, ◌++◌, fold, bytes_eq, if◌then◌else◌, refl, subst}
use Rattle.std.specs.List.{AllByRecursion, IsDistinct, list_any}
use Rattle.std.proofs.lemmas.Cmp.{nat_list_eq_equiv}
use Rattle.std.proofs.lemmas.Map.Keys.{IsDistinct-push}
use Rattle.odb_doc.specs.Names.{distinct, with_name}
use Rattle.odb_doc.proofs.NameLemmas.{fold-with_name-nil}

distinct-put : (among : Bool) (names : List (List ℕ)) (name : List ℕ) → list_any (bytes_eq name) names ≡ among → IsDistinct bytes_eq names → IsDistinct bytes_eq (if among then names else names ++ name ∷ [])
distinct-put true names name is apart = apart
distinct-put false names name is apart = IsDistinct-push nat_list_eq_equiv names name apart is

distinct-fold : (names added : List (List ℕ)) → IsDistinct bytes_eq names → IsDistinct bytes_eq (fold with_name names added)
distinct-fold names [] apart = apart
distinct-fold names (name ∷ added) apart = distinct-fold (with_name names name) added (distinct-put _ names name refl apart)

IsDistinct-distinct : (names : List (List ℕ)) → IsDistinct bytes_eq (distinct names)
unfolding IsDistinct
IsDistinct-distinct names = subst (IsDistinct bytes_eq) (fold-with_name-nil names) (distinct-fold [] names tt)

pub IsDistinct-listed : (found : List (List ℕ)) (listed : Option (List (List ℕ))) → Some found ≡ option_map distinct listed → IsDistinct bytes_eq found
IsDistinct-listed found None is = absurd (cc (is))
IsDistinct-listed found (Some names) is = let same : distinct names ≡ found = cc (is) in subst (IsDistinct bytes_eq) same (IsDistinct-distinct names)

-- ---- a name among distinct ones

pub all_at : {X : Type 0} (P : X → Type 0) (xs : List X) (x : X) (ys : List X) → AllByRecursion P (xs ++ x ∷ ys) → P x
all_at P [] x ys all = all.0
all_at P (y ∷ xs) x ys all = all_at P xs x ys all.1

-- no earlier one is equal
pub distinct_new : (before : List (List ℕ)) (name : List ℕ) (rest : List (List ℕ)) → IsDistinct bytes_eq (before ++ name ∷ rest) → true ≡ not (list_any (bytes_eq name) before)
unfolding IsDistinct
distinct_new [] name rest distinct = refl
distinct_new (other ∷ before) name rest distinct =
    let apart : bytes_eq name other ≡ false = nat_list_eq_equiv.symm name other ∙ all_at (λ y. bytes_eq other y ≡ false) before name rest distinct.0 in
    rw apart (distinct_new before name rest distinct.1)
