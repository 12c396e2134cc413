-- The first of a list that passes a test, by what is looked at of each.
use Rattle.std.proofs.Common.{◌≡◌, ◌∙◌, Bool, true, false, cond, List, [], ◌∷◌, Option, Some, None, find, map, option_map, refl, ap}

found-by : {A B : Type 0} (f : A → B) (b : Bool) (x : A) (found : Option A) → option_map f (cond b (Some x) found) ≡ cond b (Some (f x)) (option_map f found)
found-by f true x found = refl
found-by f false x found = refl

pub find-map : {A B : Type 0} (f : A → B) (p : B → Bool) (xs : List A) → option_map f (find (λ x. p (f x)) xs) ≡ find p (map f xs)
find-map f p [] = refl
find-map f p (x ∷ xs) = found-by f (p (f x)) x (find (λ y. p (f y)) xs) ∙ ap (cond (p (f x)) (Some (f x))) (find-map f p xs)

-- what was found, by that
pub found-as : {A B : Type 0} (f : A → B) (p : B → Bool) (xs : List A) (found : Option A) → found ≡ find (λ x. p (f x)) xs → option_map f found ≡ find p (map f xs)
found-as f p xs found is = ap (option_map f) is ∙ find-map f p xs
