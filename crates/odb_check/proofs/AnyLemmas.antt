-- What decides a fact; elements of lists, and what elements mean.
use Rattle.std.proofs.Common.{◌≡◌, ◌⊎◌, ◌||◌, ℕ, Bool, false, List, [], ◌∷◌, ◌++◌, Option, Some, None, refl, sym, ap, ◌∙◌, subst, inl, inr, arith}
use Rattle.std.specs.Borrow.{Bor}
use Rattle.std.specs.Prelude.{Contains, bytes_eq, IsSomeAnd, is_some, option_copied}
use Rattle.std.specs.Bool.{Decides}
use Rattle.std.specs.List.{list_any, filter_map, cons_option}
use Rattle.std.proofs.Math.Bool.{or-false}
use Rattle.std.proofs.lemmas.List.Elements.{Decides-contains}
use Rattle.std.proofs.lemmas.List.Folds.{list_any-append}
use Rattle.std.proofs.lemmas.Bool.{cases_Bool, false≢true}
use Rattle.std.proofs.lemmas.Bool.Decides.{Decides-by_or, Decides-like, not_from_Decides}
use Rattle.std.proofs.lemmas.Slice.Eq.{bytes_eq-Decides}
use Rattle.odb_doc.proofs.ElementLemmas.{Contains-head, Contains-tail, Contains-cases}

pub Decides-none : {P : Type 0} → ¬ P → Decides false P
Decides-none never = (λ e. absurd (false≢true e), λ p. absurd (never p))

pub some_Decides : {X : Type 0} (found : Option X) (x : X) (P : X → Type 0) (answer : Bool) → found ≡ Some x → Decides answer (P x) → Decides answer (IsSomeAnd found P)
some_Decides found x P answer here decides = subst (λ o. Decides answer (IsSomeAnd o P)) (sym here) decides

pub copied_some : {X : Type 0} (found : Option (Bor X)) → is_some found ≡ is_some (option_copied found)
copied_some None = refl
copied_some (Some x) = refl

pub Contains-none : {X : Type 0} (x : X) → Contains [] x → ⊥
Contains-none x h = omega (arith, h.1)

-- one more element, which passes or not
pub any_more : {X : Type 0} (test : X → Bool) (xs : List X) (x : X) → list_any test (xs ++ x ∷ []) ≡ (list_any test xs || test x)
any_more test xs x = list_any-append test xs (x ∷ []) ∙ ap (λ v. list_any test xs || v) (or-false (test x))

-- a test that only one value passes finds it in a list
pub Contains-Decides : {X : Type 0} (test : X → Bool) (x : X) → ((y : X) → Decides (test y) (y ≡ x)) → (xs : List X) → Decides (list_any test xs) (Contains xs x)
Contains-Decides test x decides xs = Decides-contains xs x (list_any test xs) (Decides-by_or test (λ y. y ≡ x) (list_any test) decides refl (λ _ _. refl) xs)

pub text_listed : (text : List ℕ) (texts : List (List ℕ)) → Decides (list_any (bytes_eq text) texts) (Contains texts text)
text_listed text texts = Contains-Decides (bytes_eq text) text (λ other. Decides-like (bytes_eq text other) (λ e. sym e) (λ e. sym e) (bytes_eq-Decides text other)) texts

pub listed_cases : (text : List ℕ) (texts : List (List ℕ)) → Contains texts text ⊎ (¬ Contains texts text)
listed_cases text texts =
    elim (cases_Bool (list_any (bytes_eq text) texts)) [ inl found ↦ inl ((text_listed text texts).0 found) | inr missing ↦ inr (not_from_Decides _ (text_listed text texts) missing) ]

-- an element of the list means y
pub record ElementMeaning {X Y : Type 0} (meaning : X → Option Y) (xs : List X) (y : Y) : Type 0 where
  pub element : X
  pub inside : Contains xs element
  pub means : meaning element ≡ Some y

pub element_meaning : {X Y : Type 0} (meaning : X → Option Y) (xs : List X) (y : Y) → Contains (filter_map meaning xs) y → ElementMeaning meaning xs y
element_meaning meaning [] y h = absurd (Contains-none y h)
element_meaning {X} {Y} meaning (x ∷ xs) y h =
    let later : Contains (filter_map meaning xs) y → ElementMeaning meaning (x ∷ xs) y = λ more.
    let rest : ElementMeaning meaning xs y = element_meaning meaning xs y more in
    record { element = rest.element; inside = Contains-tail x rest.element xs rest.inside; means = rest.means } in
    (elim (meaning x) as (λ o. meaning x ≡ o → Contains (cons_option o (filter_map meaning xs)) y → ElementMeaning meaning (x ∷ xs) y) [
      | None ↦ λ e. later
      | Some z ↦ λ e inside. elim (Contains-cases z y (filter_map meaning xs) inside) [ inl same ↦ record { element = x; inside = Contains-head x xs; means = e ∙ ap Some same } | inr more ↦ later more ]
    ]) refl h

-- what an element means is in the list of what elements mean
pub Contains-meaning : {X Y : Type 0} (meaning : X → Option Y) (xs : List X) (x : X) (y : Y) → Contains xs x → meaning x ≡ Some y → Contains (filter_map meaning xs) y
Contains-meaning meaning [] x y h e = absurd (Contains-none x h)
Contains-meaning meaning (z ∷ zs) x y h e =
    elim (Contains-cases z x zs h) [
      | inl same ↦ subst (λ o. Contains (cons_option o (filter_map meaning zs)) y) (sym (ap meaning same ∙ e)) (Contains-head y (filter_map meaning zs))
      | inr more ↦ elim (meaning z) as (λ o. Contains (cons_option o (filter_map meaning zs)) y) [ None ↦ Contains-meaning meaning zs x y more e | Some w ↦ Contains-tail w y _ (Contains-meaning meaning zs x y more e) ]
    ]
