-- The value that a look-up finds in an object that was read is that of its last member of the name.
use Rattle.std.proofs.Common.{◌≡◌, ◌∙◌, ℕ, List, Bool, true, false, cond, Option, Some, None, Ordering, Less, Equal, Greater, option_and_then, bytes_eq, refl, sym, ap}
use Rattle.std.specs.Cmp.Lexicographic.{slice_cmp}
use Rattle.std.specs.Ordering.{nat_cmp, match_ordering}
use Rattle.std.proofs.lemmas.Bool.{true≢false}
use Rattle.std.proofs.lemmas.Cmp.{nat_list_cmp_total, tied_itself}
use Rattle.std.proofs.lemmas.Slice.Eq.{bytes_eq-Decides}
use Rattle.std.proofs.lemmas.Map.Text.{is_eq-slice_cmp}
use Rattle.std.specs.Ordering.{is_eq}
use Rattle.json.specs.Json as json
use Rattle.json.specs.Find.{later_or}
use Rattle.json.specs.Find as tree
use Rattle.serde_json.specs.Data.{Data, Members, no_members, member, put}
use Rattle.serde_json.specs.Find.{get_member}
use Rattle.serde_json.specs.Read.{of_json, of_members}

skip : {X : Type 0} (o : Ordering) (a b : X) → (o ≡ Equal → ⊥) → match_ordering o a b a ≡ a
skip Less a b other = refl
skip Equal a b other = absurd (other refl)
skip Greater a b other = refl

equal-text : (xs ys : List ℕ) → slice_cmp nat_cmp xs ys ≡ Equal → xs ≡ ys
equal-text xs ys equal = (bytes_eq-Decides xs ys).0 (sym (is_eq-slice_cmp xs ys) ∙ ap is_eq equal)

-- ---- a member that was put in

module _ (name : List ℕ) (d : Data) where
  itself : slice_cmp nat_cmp name name ≡ Equal
  itself = tied_itself nat_list_cmp_total name

  same-at : (o : Ordering) (l : List ℕ) (e : Data) (ms : Members) → slice_cmp nat_cmp name l ≡ o → get_member name (put name d ms) ≡ Some d
      → get_member name (match_ordering o (member name d (member l e ms)) (member l d ms) (member l e (put name d ms))) ≡ Some d
  same-at Less l e ms is more = ap (λ o. match_ordering o (get_member name (member l e ms)) (Some d) (get_member name (member l e ms))) itself
  same-at Equal l e ms is more = ap (λ o. match_ordering o (get_member name ms) (Some d) (get_member name ms)) is
  same-at Greater l e ms is more = ap (λ o. match_ordering o (get_member name (put name d ms)) (Some e) (get_member name (put name d ms))) is ∙ more

  get-same : (ms : Members) → get_member name (put name d ms) ≡ Some d
  get-same no_members = ap (λ o. match_ordering o None (Some d) None) itself
  get-same (member l e ms) = same-at _ l e ms refl (get-same ms)

module _ (name k : List ℕ) (d : Data) (other : name ≡ k → ⊥) where
  apart : slice_cmp nat_cmp name k ≡ Equal → ⊥
  apart is = other (equal-text name k is)

  other-at : (o : Ordering) (l : List ℕ) (e : Data) (ms : Members) → slice_cmp nat_cmp k l ≡ o → get_member name (put k d ms) ≡ get_member name ms
      → get_member name (match_ordering o (member k d (member l e ms)) (member l d ms) (member l e (put k d ms))) ≡ get_member name (member l e ms)
  other-at Less l e ms is more = skip (slice_cmp nat_cmp name k) (get_member name (member l e ms)) (Some d) apart
  other-at Equal l e ms is more =
      let away : slice_cmp nat_cmp name l ≡ Equal → ⊥ = λ same. other (equal-text name l same ∙ sym (equal-text k l is)) in
      skip (slice_cmp nat_cmp name l) (get_member name ms) (Some d) away ∙ sym (skip (slice_cmp nat_cmp name l) (get_member name ms) (Some e) away)
  other-at Greater l e ms is more = ap (λ g. match_ordering (slice_cmp nat_cmp name l) g (Some e) g) more

  get-other : (ms : Members) → get_member name (put k d ms) ≡ get_member name ms
  get-other no_members = skip (slice_cmp nat_cmp name k) None (Some d) apart
  get-other (member l e ms) = other-at _ l e ms refl (get-other ms)

-- ---- all members that were read

-- the value o of the tree is p of the data, or q if there is none
pub record IsReadAs (j : json.Json) (p : Option Data) : Type 0 where
  pub value : Data
  pub read : of_json j ≡ Some value
  pub is : p ≡ Some value

abbrev pub Corresponds : Option json.Json → Option Data → Option Data → Type 0
Corresponds None p q = p ≡ q
Corresponds (Some j) p q = IsReadAs j p

one-more : (name k : List ℕ) (j : json.Json) (d : Data) (found : Members) (p : Option Data) (b : Bool) (o : Option json.Json) → bytes_eq k name ≡ b → of_json j ≡ Some d → Corresponds o p (get_member name (put k d found))
    → Corresponds (later_or o (cond b (Some j) None)) p (get_member name found)
one-more name k j d found p b (Some i) is reads h = h
one-more name k j d found p true None is reads h =
    let same : k ≡ name = (bytes_eq-Decides k name).0 is in
    record { value = d; read = reads; is = h ∙ ap (λ n. get_member name (put n d found)) same ∙ get-same name d found }
one-more name k j d found p false None is reads h =
    let other : name ≡ k → ⊥ = λ same. true≢false (sym ((bytes_eq-Decides k name).1 (sym same)) ∙ is) in
    h ∙ get-other name k d other found

first-member : (name k : List ℕ) (j : json.Json) (ms : json.Members) (found all : Members) (o : Option Data) → of_json j ≡ o → option_and_then (λ d. of_members ms (put k d found)) o ≡ Some all
    → ((more : Members) → of_members ms more ≡ Some all → Corresponds (tree.get_member name ms) (get_member name all) (get_member name more))
    → Corresponds (later_or (tree.get_member name ms) (cond (bytes_eq k name) (Some j) None)) (get_member name all) (get_member name found)
first-member name k j ms found all None reads e more = absurd (cc (e))
first-member name k j ms found all (Some d) reads e more = one-more name k j d found (get_member name all) (bytes_eq k name) (tree.get_member name ms) refl reads (more (put k d found) e)

get-members : (name : List ℕ) (ms : json.Members) (found all : Members) → of_members ms found ≡ Some all → Corresponds (tree.get_member name ms) (get_member name all) (get_member name found)
get-members name json.no_members found all e = let same : found ≡ all = cc (e) in ap (get_member name) (sym same)
get-members name (json.member k j ms) found all e = first-member name k j ms found all (of_json j) refl e (λ more f. get-members name ms more all f)

-- the look-up of a name in an object that was read
pub get-read : (name : List ℕ) (ms : json.Members) (all : Members) → of_members ms no_members ≡ Some all → Corresponds (tree.get_member name ms) (get_member name all) None
get-read name ms all e = get-members name ms no_members all e
