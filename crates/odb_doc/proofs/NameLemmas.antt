-- Names appended one by one, each unless the list has it, are the distinct names.
use Rattle.std.proofs.Common.{◌≡◌, ◌∙◌, ◌||◌, ◌&&◌, ℕ, Bool, true, false, cond, not, List, [], ◌∷◌, ◌++◌, fold, filter, bytes_eq, if◌then◌else◌, refl, ap, sym, append_assoc, append-nil, Bor}
use Rattle.std.specs.List.{list_any}
use Rattle.std.proofs.lemmas.List.Elements.{filter_agree}
use Rattle.std.proofs.lemmas.List.Folds.{list_any-append}
use Rattle.std.proofs.lemmas.Bool.Decides.{same_from_decides}
use Rattle.std.proofs.lemmas.Slice.Eq.{bytes_eq-Decides}
use Rattle.odb_doc.specs.Names.{without, distinct, with_name, texts_in}

-- ---- filters

filter-filter : {X : Type 0} (p q : X → Bool) (xs : List X) → filter p (filter q xs) ≡ filter (λ x. q x && p x) xs
filter-filter p q [] = refl
filter-filter p q (x ∷ xs) =
    elim (q x) as (λ b. filter p (cond b (x ∷ filter q xs) (filter q xs)) ≡ cond (b && p x) (x ∷ filter (λ y. q y && p y) xs) (filter (λ y. q y && p y) xs)) [
      | true ↦ ap (λ rest. cond (p x) (x ∷ rest) rest) (filter-filter p q xs)
      | false ↦ filter-filter p q xs
    ]

filter-all : {X : Type 0} (xs : List X) → filter (λ _. true) xs ≡ xs
filter-all [] = refl
filter-all (x ∷ xs) = ap (λ rest. x ∷ rest) (filter-all xs)

-- ---- distinct names

-- the name is not one of these
is_new : List (List ℕ) → List ℕ → Bool
is_new names name = not (list_any (bytes_eq name) names)

-- a name of the list is not new, so leaving it out beforehand changes nothing
stays_out_by : (same : Bool) (names : List (List ℕ)) (name other : List ℕ) → (same ≡ true → other ≡ name) → list_any (bytes_eq name) names ≡ true
    → (not same && not (list_any (bytes_eq other) names)) ≡ not (list_any (bytes_eq other) names)
stays_out_by true names name other equal among =
    let found : list_any (bytes_eq other) names ≡ true = rw (equal refl) among in
    rw found refl
stays_out_by false names name other equal among = refl

stays_out : (names : List (List ℕ)) (name : List ℕ) → list_any (bytes_eq name) names ≡ true → (other : List ℕ)
    → (not (bytes_eq other name) && is_new names other) ≡ is_new names other
unfolding is_new
stays_out names name among other = stays_out_by (bytes_eq other name) names name other (bytes_eq-Decides other name).0 among

-- a name is new to the names and this one if it is neither
not-or : (a b : Bool) → not (a || (b || false)) ≡ (not b && not a)
not-or true true = refl
not-or true false = refl
not-or false true = refl
not-or false false = refl

is_new-push : (names : List (List ℕ)) (name other : List ℕ) → is_new (names ++ name ∷ []) other ≡ (not (bytes_eq other name) && is_new names other)
unfolding is_new
is_new-push names name other =
    rw (list_any-append (bytes_eq other) names (name ∷ [])) (not-or (list_any (bytes_eq other) names) (bytes_eq other name))

-- one name, by whether the list has it
fold-with_name_step : (among : Bool) (names added : List (List ℕ)) (name : List ℕ) → list_any (bytes_eq name) names ≡ among
    → ((ns : List (List ℕ)) → fold with_name ns added ≡ ns ++ filter (is_new ns) (distinct added))
    → fold with_name (if among then names else names ++ name ∷ []) added
    ≡ names ++ cond (not among) (name ∷ filter (is_new names) (without name (distinct added))) (filter (is_new names) (without name (distinct added)))
fold-with_name_step true names added name among rest =
    rest names ∙ ap (λ xs. names ++ xs) (
    sym (filter_agree _ _ (stays_out names name among) (distinct added))
    ∙ sym (filter-filter (is_new names) (λ other. not (bytes_eq other name)) (distinct added))
    )
fold-with_name_step false names added name among rest =
    rest (names ++ name ∷ []) ∙ append_assoc names (name ∷ []) _ ∙ ap (λ xs. names ++ name ∷ xs) (
    filter_agree _ _ (is_new-push names name) (distinct added)
    ∙ sym (filter-filter (is_new names) (λ other. not (bytes_eq other name)) (distinct added))
    )

-- what the fold adds to the names are the distinct ones among the new
fold-with_name : (names added : List (List ℕ)) → fold with_name names added ≡ names ++ filter (is_new names) (distinct added)
unfolding is_new
fold-with_name names [] = sym (append-nil names)
fold-with_name names (name ∷ added) =
    fold-with_name_step (list_any (bytes_eq name) names) names added name refl (λ ns. fold-with_name ns added)

pub fold-with_name-nil : (names : List (List ℕ)) → fold with_name [] names ≡ distinct names
unfolding is_new
fold-with_name-nil names = fold-with_name [] names ∙ filter-all (distinct names)

-- ---- names as a list of references holds them

pub list_any-texts_in : (name : List ℕ) (keys : List (Bor (List ℕ))) → list_any (bytes_eq name) (texts_in keys) ≡ list_any (λ key. bytes_eq name key.now) keys
list_any-texts_in name [] = refl
list_any-texts_in name (key ∷ keys) = ap (λ b. bytes_eq name key.now || b) (list_any-texts_in name keys)

bytes_eq-comm : (xs ys : List ℕ) → bytes_eq xs ys ≡ bytes_eq ys xs
bytes_eq-comm xs ys =
    let other = bytes_eq-Decides ys xs in
    same_from_decides (bytes_eq xs ys) (bytes_eq ys xs) (bytes_eq-Decides xs ys) (λ is. sym (other.0 is), λ same. other.1 (sym same))

pub list_any-comm : (name : List ℕ) (keys : List (Bor (List ℕ))) → list_any (λ key. bytes_eq key.now name) keys ≡ list_any (λ key. bytes_eq name key.now) keys
list_any-comm name [] = refl
list_any-comm name (key ∷ keys) = rw (bytes_eq-comm key.now name, list_any-comm name keys) refl
