-- The ids and groups of the requests of a batch, and their positions in the order of their ids.
use Rattle.std.proofs.Common.{◌≡◌, ◌∙◌, ◌↔◌, ℕ, ◌+◌, ◌<◌, List, [], ◌∷◌, ◌++◌, length, take, Option, Some, None, option_map, unwrap_or, All, Contains, IfSome, Err, false, string_bytes, refl, sym, ap, subst, arith, add-one, append_assoc, inl, inr, get_or, slice_get, slice_index_or}
use Rattle.std.specs.Cmp.Lexicographic.{bytes_decides, slice_cmp}
use Rattle.std.specs.List.Sorted.{IsBinarySearchResult, IsSortedBy}
use Rattle.std.specs.Ordering.{is_eq, is_lt, nat_cmp}
use Rattle.std.specs.declared.cmp.Ordering.{Ordering}
use Rattle.std.specs.declared.cmp.Ordering.TheVariants.{Less, Equal, Greater}
use Rattle.std.proofs.lemmas.Bool.{cases_lt}
use Rattle.std.proofs.lemmas.Cmp.{nat_list_cmp_total}
use Rattle.std.proofs.lemmas.List.{length-map, map-append, take_more}
use Rattle.std.proofs.lemmas.List.Elements.{All-contains, Contains-append_left, Contains-push}
use Rattle.std.proofs.lemmas.List.Sorted.{searchable_from_sorted}
use Rattle.std.proofs.lemmas.Map.Text.{is_eq-slice_cmp}
use Rattle.std.proofs.lemmas.Option.{get_or_from_slice_get, slice_get-map, slice_get_cases, slice_get_read, slice_get_within}
use Rattle.odb_doc.specs.batch.Records.{Record}
use Rattle.odb_check.specs.Firsts.{first_below, is_text, joined_below}
use Rattle.odb_check.specs.Laws.{HasPositions}
use Rattle.odb_check.specs.Positions as records
use Rattle.odb_check.specs.Texts.{newline}
use Rattle.odb_check.specs.Units as units
use Rattle.odb_live.specs.declared.run.labels.OwnedLabel.{OwnedLabel}
use Rattle.odb_live.specs.LabelTables.{id_or_empty, owned_value, values_of}
use Rattle.odb_live.specs.Labels.{id_at, id_line, position_of}
use Rattle.odb_reply.specs.Responses.{LabelValue, label_of, labels_of}

abbrev cmp : List ℕ → List ℕ → Ordering
cmp = slice_cmp nat_cmp

-- ---- a search

pub same-text : (xs ys : List ℕ) → cmp xs ys ≡ Equal → xs ≡ ys
same-text xs ys equal = (bytes_decides xs ys).0 (sym (is_eq-slice_cmp xs ys) ∙ ap is_eq equal)

other-text : (xs ys : List ℕ) (o : Ordering) → is_eq o ≡ false → cmp xs ys ≡ o → ¬ (xs ≡ ys)
other-text xs ys o apart is same = let hit = is_eq-slice_cmp xs ys ∙ (bytes_decides xs ys).1 same in absurd (cc (ap is_eq is, hit, apart))

module _ (key : ℕ → List ℕ) (positions : List ℕ) (sorted : IsSortedBy (λ i j. is_lt (cmp (key i) (key j))) positions) (id : List ℕ) where
  -- no position has an id that is not found
  pub not-found : (at : ℕ) → IsBinarySearchResult (λ i. cmp (key i) id) positions (Err at) → (i : ℕ) → Contains positions i → ¬ (key i ≡ id)
  not-found at found i (k, within, is) =
      let parts = found (searchable_from_sorted nat_list_cmp_total key positions id sorted) in
      let here = λ (o : Ordering) (apart : is_eq o ≡ false) (so : cmp (key (slice_index_or positions k i)) id ≡ o). subst (λ p. ¬ (key p ≡ id)) is (other-text _ id o apart so) in
      elim (cases_lt k at) [
        | inl below ↦ here Less refl (parts.0 k i (omega arith) below)
        | inr above ↦ here Greater refl (parts.1 k i above within)
      ]

-- ---- the labels of a batch

pub labels-push : (rs : List Record) (labels : List OwnedLabel) (i : ℕ) (label : OwnedLabel) (r : Record) → values_of labels ≡ labels_of (take i rs) → slice_get rs i ≡ Some r → owned_value label ≡ label_of r
    → values_of (labels ++ label ∷ []) ≡ labels_of (take (i + 1) rs)
labels-push rs labels i label r so at is =
    map-append owned_value labels (label ∷ []) ∙ ap (λ (ls : List LabelValue). ls ++ owned_value label ∷ []) so ∙ ap (λ (l : LabelValue). labels_of (take i rs) ++ l ∷ []) is ∙ sym (map-append label_of (take i rs) (r ∷ []))
    ∙ ap labels_of (sym (take_more rs i r (slice_get_within rs i r at) ∙ ap (λ (x : Record). take i rs ++ x ∷ []) (get_or_from_slice_get rs i r r at)))

pub all-below-push : (xs : List ℕ) (n : ℕ) → ((k : ℕ) → k < n → Contains xs k) → (k : ℕ) → k < n + 1 → Contains (xs ++ n ∷ []) k
all-below-push xs n all k below =
    elim (cases_lt k n) [
      | inl less ↦ Contains-append_left xs (n ∷ []) k (all k less)
      | inr more ↦ let same : n ≡ k = omega arith in subst (λ j. Contains (xs ++ n ∷ []) j) same (Contains-push xs n)
    ]

-- the ids of a batch are those of its labels
id-of : (rs : List Record) (i : ℕ) → id_at (labels_of rs) i ≡ records.id_at rs i
id-of rs i = ap (option_map (λ (l : LabelValue). l.id)) (slice_get-map label_of rs i) ∙ at (slice_get rs i)
  where
    at : (r : Option Record) → option_map (λ (l : LabelValue). l.id) (option_map label_of r) ≡ option_map (λ (x : Record). x.id) r
    at None = refl
    at (Some r) = refl

pub position-of : (rs : List Record) (id : List ℕ) → position_of (labels_of rs) id ≡ units.position_of rs id
position-of rs id = λ k. first_below (length-map rs label_of k) (λ i. is_text id (id-of rs i k))

-- no two of its labels have one id
pub labels-apart : (rs : List Record) → HasPositions rs → (labels : List LabelValue) → labels ≡ labels_of rs → (id : List ℕ) (i : ℕ) → (position_of labels id ≡ Some i) ↔ (id_at labels i ≡ Some id)
labels-apart rs positions labels same id i =
    let found = positions.found id i in
    let to : (position_of (labels_of rs) id ≡ Some i) ↔ (id_at (labels_of rs) i ≡ Some id) = (λ is. id-of rs i ∙ found.0 (sym (position-of rs id) ∙ is), λ is. position-of rs id ∙ found.1 (sym (id-of rs i) ∙ is)) in
    subst (λ (ls : List LabelValue). (position_of ls id ≡ Some i) ↔ (id_at ls i ≡ Some id)) (sym same) to

-- as many labels as requests
pub labels-count : (rs : List Record) (labels : List OwnedLabel) → values_of labels ≡ labels_of rs → length labels ≡ length rs
labels-count rs labels same = sym (length-map labels owned_value) ∙ ap (λ (ls : List LabelValue). length ls) same ∙ length-map rs label_of

-- one more line
pub lines-push : (labels : List OwnedLabel) (i : ℕ) (label : OwnedLabel) (before : List ℕ) → i < length labels → label ≡ get_or labels i label → before ≡ joined_below i (id_line (values_of labels))
    → (before ++ string_bytes label.id) ++ newline ∷ [] ≡ joined_below (i + 1) (id_line (values_of labels))
lines-push labels i label before within is so =
    let got = slice_get-map owned_value labels i ∙ ap (option_map owned_value) (slice_get_read labels (length labels) i label refl within is) in
    let id : unwrap_or (id_at (values_of labels) i) [] ≡ string_bytes label.id = ap (λ (l : Option LabelValue). unwrap_or (option_map (λ (x : LabelValue). x.id) l) []) got in
    rw add-one (append_assoc before (string_bytes label.id) (newline ∷ []) ∙ ap (λ bs. bs ++ (string_bytes label.id ++ newline ∷ [])) so ∙ ap (λ bs. joined_below i (id_line (values_of labels)) ++ (bs ++ newline ∷ [])) (sym id))

-- ---- what is found

module _ (labels : List OwnedLabel) (id : List ℕ) (apart : (i : ℕ) → (position_of (values_of labels) id ≡ Some i) ↔ (id_at (values_of labels) i ≡ Some id)) where
  known : (i : ℕ) → i < length labels → id_or_empty labels i ≡ id → id_at (values_of labels) i ≡ Some id
  known i within is =
      elim ((slice_get_cases (values_of labels) i).1) [
        | inl (label, _, got, _) ↦ let at : id_at (values_of labels) i ≡ Some label.id = ap (option_map (λ (l : LabelValue). l.id)) got in at ∙ ap Some (sym (ap (λ (o : Option (List ℕ)). unwrap_or o []) at) ∙ is)
        | inr (past, _) ↦ absurd (omega (arith, within, past, length-map labels owned_value))
      ]

  within-of : (i : ℕ) → id_at (values_of labels) i ≡ Some id → i < length labels
  within-of i is =
      elim ((slice_get_cases (values_of labels) i).1) [
        | inl (label, within, _, _) ↦ omega (arith, within, length-map labels owned_value)
        | inr (_, none) ↦ let at : id_at (values_of labels) i ≡ None = ap (option_map (λ (l : LabelValue). l.id)) none in absurd (cc (at, is))
      ]

  pub looked-up : (positions : List ℕ) → ((i : ℕ) → i < length labels → Contains positions i) → All (λ i. i < length labels) positions → (found : Option ℕ) → IfSome found (λ i. id_or_empty labels i ≡ id) → IfSome found (Contains positions)
      → (found ≡ None → (i : ℕ) → Contains positions i → ¬ (id_or_empty labels i ≡ id)) → found ≡ position_of (values_of labels) id
  looked-up positions all within (Some i) is among none = sym ((apart i).1 (known i (All-contains (λ j. j < length labels) positions i within among) is))
  looked-up positions all within None is among none = at (position_of (values_of labels) id) refl
    where
      at : (found : Option ℕ) → position_of (values_of labels) id ≡ found → None ≡ found
      at None same = refl
      at (Some i) same = let held = (apart i).0 same in absurd (none refl i (all i (within-of i held)) (ap (λ (o : Option (List ℕ)). unwrap_or o []) held))
