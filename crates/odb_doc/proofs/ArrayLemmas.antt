-- The strings of an array, read one by one.
use Rattle.std.proofs.Common.{◌≡◌, ◌∙◌, ◌+◌, ◌<◌, ℕ, Option, None, Some, option_map, List, [], ◌∷◌, ◌++◌, length, drop, get_or, refl, ap, sym, append_assoc, append-nil}
use Rattle.std.proofs.lemmas.List.{at_drop_more}
use Rattle.serde_json.specs.Find.{as_str}
use Rattle.serde_json.specs.View.{view, items_view}
use Rattle.serde_json.specs.declared.value.Value.{Value}
use Rattle.odb_doc.specs.batch.Shapes.{texts_of}

abbrev pub texts_on : List (List ℕ) → List Value → Option (List (List ℕ))
texts_on texts vs = option_map (λ more. texts ++ more) (texts_of (items_view vs))

map-same : (o : Option (List (List ℕ))) → option_map (λ more. [] ++ more) o ≡ o
map-same None = refl
map-same (Some texts) = refl

pub texts_on-zero : (vs : List Value) → texts_on [] vs ≡ texts_of (items_view vs)
texts_on-zero vs = map-same (texts_of (items_view vs))

map-push : (texts : List (List ℕ)) (text : List ℕ) (o : Option (List (List ℕ)))
    → option_map (λ more. texts ++ more) (option_map (λ rest. text ∷ rest) o) ≡ option_map (λ more. (texts ++ text ∷ []) ++ more) o
map-push texts text None = refl
map-push texts text (Some rest) = ap Some (sym (append_assoc texts (text ∷ []) rest))

pub texts_on-text : (texts : List (List ℕ)) (v : Value) (vs : List Value) (text : List ℕ) → as_str (view v) ≡ Some text → texts_on texts (v ∷ vs) ≡ texts_on (texts ++ text ∷ []) vs
texts_on-text texts v vs text is = rw is (map-push texts text (texts_of (items_view vs)))

pub texts_on-other : (texts : List (List ℕ)) (v : Value) (vs : List Value) → as_str (view v) ≡ None → texts_on texts (v ∷ vs) ≡ None
texts_on-other texts v vs is = rw is refl

pub texts_on-nil : (texts : List (List ℕ)) → texts_on texts [] ≡ Some texts
texts_on-nil texts = ap Some (append-nil texts)

pub texts_on-drop : (texts : List (List ℕ)) (vs : List Value) (i : ℕ) (v : Value) → i < length vs → v ≡ get_or vs i v → texts_on texts (drop i vs) ≡ texts_on texts (v ∷ drop (i + 1) vs)
texts_on-drop texts vs i v within is = at_drop_more (texts_on texts) vs i v within ∙ ap (λ x. texts_on texts (x ∷ drop (i + 1) vs)) (sym is)
