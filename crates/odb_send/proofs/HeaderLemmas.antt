-- The headers of a request of the rest, by those of the batch.
use Rattle.std.proofs.Common.{◌≡◌, ◌∙◌, ◌++◌, ℕ, Bool, true, false, cond, List, [], ◌∷◌, map, Option, None, Some, unwrap_or, inl, inr, refl, ap, ap₂, sym, subst, codes, bytes_eq}
use Rattle.std.proofs.lemmas.Slice.Eq.{bytes_eq-Decides}
use Rattle.std.proofs.lemmas.Bool.{cases_Bool, true≢false}
use Rattle.std.specs.Cmp.Lexicographic.{slice_cmp}
use Rattle.std.specs.List.Sorted.{IsStrictlySortedBy}
use Rattle.std.specs.Map.{keys_of, lookup}
use Rattle.std.specs.Ordering.{nat_cmp}
use Rattle.std.specs.Str.{str_to_ascii_lowercase}
use Rattle.odb_doc.specs.Headers.{Header, IsInOrder, folded}
use Rattle.odb_doc.specs.batch.Bodies.{content_type}
use Rattle.odb_send.specs.Rests.{Change, header_if, rest_header}

-- their names stay
names-stay : (change : Change) (headers : List Header) → keys_of (map (rest_header change) headers) ≡ keys_of headers
names-stay change [] = refl
names-stay change (header ∷ headers) = ap (λ names. header.0 ∷ names) (names-stay change headers)

-- so does their order
pub in-order : (change : Change) (headers : List Header) → IsInOrder headers → IsInOrder (map (rest_header change) headers)
in-order change headers ordered = subst (IsStrictlySortedBy (slice_cmp nat_cmp)) (sym (names-stay change headers)) ordered

-- and that they are in lower case
pub in-lower : (change : Change) (headers : List Header) → map folded headers ≡ headers → map folded (map (rest_header change) headers) ≡ map (rest_header change) headers
in-lower change [] is = refl
in-lower change (header ∷ headers) is =
    let first : folded header ≡ header = cc (is) in
    let others : map folded headers ≡ headers = cc (is) in
    let name : str_to_ascii_lowercase header.0 ≡ header.0 = ap (λ (h : Header). h.0) first in
    ap₂ (λ (h : Header) hs. h ∷ hs) (ap (λ n. (n, (rest_header change header).1)) name) (in-lower change headers others)

-- ---- the value of a header, by its name

same-name : (known name : List ℕ) → bytes_eq known name ≡ true → known ≡ name
same-name known name is = (bytes_eq-Decides known name).0 is

other-name : (known name : List ℕ) → bytes_eq known name ≡ false → bytes_eq name known ≡ false
other-name known name isnt = elim (cases_Bool (bytes_eq name known)) [
  | inl is ↦ absurd (true≢false (sym ((bytes_eq-Decides known name).1 (sym (same-name name known is))) ∙ isnt))
  | inr other ↦ other
]

-- a condition gets its new value, if it has one
pub if_match_value : (change : Change) (name value : List ℕ) → bytes_eq (codes "if-match") name ≡ true → (rest_header change (name, value)).1 ≡ unwrap_or change.if_match value
if_match_value change name value is = subst (λ n. (rest_header change (n, value)).1 ≡ unwrap_or change.if_match value) (same-name (codes "if-match") name is) (by_values change.if_match change.if_none_match)
  where
    by_values : (first second : Option (List ℕ)) → unwrap_or (lookup (bytes_eq (codes "if-match")) (header_if (codes "if-match") first ++ header_if (codes "if-none-match") second)) value ≡ unwrap_or first value
    by_values None None = refl
    by_values None (Some tag) = refl
    by_values (Some tag) second = refl

pub if_none_match_value : (change : Change) (name value : List ℕ) → bytes_eq (codes "if-none-match") name ≡ true → (rest_header change (name, value)).1 ≡ unwrap_or change.if_none_match value
if_none_match_value change name value is = subst (λ n. (rest_header change (n, value)).1 ≡ unwrap_or change.if_none_match value) (same-name (codes "if-none-match") name is) (by_values change.if_match change.if_none_match)
  where
    by_values : (first second : Option (List ℕ)) → unwrap_or (lookup (bytes_eq (codes "if-none-match")) (header_if (codes "if-match") first ++ header_if (codes "if-none-match") second)) value ≡ unwrap_or second value
    by_values None None = refl
    by_values None (Some tag) = refl
    by_values (Some other) None = refl
    by_values (Some other) (Some tag) = refl

-- any other header keeps its value
pub other_value : (change : Change) (name value : List ℕ) → bytes_eq (codes "if-match") name ≡ false → bytes_eq (codes "if-none-match") name ≡ false → (rest_header change (name, value)).1 ≡ value
other_value change name value first second = by_values change.if_match change.if_none_match (other-name (codes "if-match") name first) (other-name (codes "if-none-match") name second)
  where
    by_values : (one other : Option (List ℕ)) → bytes_eq name (codes "if-match") ≡ false → bytes_eq name (codes "if-none-match") ≡ false
        → unwrap_or (lookup (bytes_eq name) (header_if (codes "if-match") one ++ header_if (codes "if-none-match") other)) value ≡ value
    by_values None None isnt neither = refl
    by_values None (Some tag) isnt neither = ap (λ b. unwrap_or (cond b (Some tag) None) value) neither
    by_values (Some tag) None isnt neither = ap (λ b. unwrap_or (cond b (Some tag) None) value) isnt
    by_values (Some one) (Some other) isnt neither = ap (λ b. unwrap_or (cond b (Some one) (cond (bytes_eq name (codes "if-none-match")) (Some other) None)) value) isnt ∙ ap (λ b. unwrap_or (cond b (Some other) None) value) neither

-- ---- the media type of the body stays

type-value : (change : Change) (name value : List ℕ) → bytes_eq (codes "content-type") name ≡ true → (rest_header change (name, value)).1 ≡ value
type-value change name value is = subst (λ n. (rest_header change (n, value)).1 ≡ value) (same-name (codes "content-type") name is) (other_value change (codes "content-type") value refl refl)

found-stays : (change : Change) (headers : List Header) → lookup (bytes_eq (codes "content-type")) (map (rest_header change) headers) ≡ lookup (bytes_eq (codes "content-type")) headers
found-stays change [] = refl
found-stays change (header ∷ headers) = by_name (found-stays change headers) (bytes_eq (codes "content-type") header.0) refl
  where
    by_name : lookup (bytes_eq (codes "content-type")) (map (rest_header change) headers) ≡ lookup (bytes_eq (codes "content-type")) headers → (b : Bool) → bytes_eq (codes "content-type") header.0 ≡ b → cond b (Some (rest_header change header).1) (lookup (bytes_eq (codes "content-type")) (map (rest_header change) headers)) ≡ cond b (Some header.1) (lookup (bytes_eq (codes "content-type")) headers)
    by_name more true is = ap Some (type-value change header.0 header.1 is)
    by_name more false is = more

pub type-stays : (change : Change) (headers : List Header) → content_type (map (rest_header change) headers) ≡ content_type headers
type-stays change headers = ap (λ o. unwrap_or o []) (found-stays change headers)
