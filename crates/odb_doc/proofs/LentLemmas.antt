-- Headers lent from an object, once they are in order of their names.
use Rattle.std.proofs.Common.{◌≡◌, ◌∙◌, ◌+◌, ◌<◌, ◌≤◌, ℕ, Bool, true, false, cond, None, Some, Option, List, [], ◌∷◌, ◌++◌, string_bytes, length, drop, get_or, map, bytes_eq, codes, refl, ap, sym, subst, arith, IsPermutation}
use Rattle.std.specs.declared.cmp.Ordering.{Ordering}
use Rattle.std.specs.declared.cmp.Ordering.TheVariants.{Less, Equal, Greater}
use Rattle.std.specs.Char.{to_ascii_lowercase}
use Rattle.std.specs.Cmp.{IsTotalOrder, on_total}
use Rattle.std.specs.Cmp.Lexicographic.{slice_cmp}
use Rattle.std.specs.List.{AllByRecursion, IsAllAdjacentAnswer, IsDistinct}
use Rattle.std.specs.List.Sorted.{IsSorted, IsStrictlySortedBy}
use Rattle.std.specs.Map.{keys_of, lookup}
use Rattle.std.specs.Ordering.{is_eq, is_lt, nat_cmp, ordering_reverse, ordering_then}
use Rattle.std.specs.Str.{str_to_ascii_lowercase}
use Rattle.std.proofs.Math.ListN.{drop_of_length-le}
use Rattle.std.proofs.lemmas.Cmp.{nat_list_cmp_total, nat_list_eq_equiv}
use Rattle.std.proofs.lemmas.List.{at_drop_more, get_or-map, length-map, map-append}
use Rattle.std.proofs.lemmas.List.Sorted.{IsPermutation-map, IsPermutation-refl, IsPermutation-sym}
use Rattle.std.proofs.lemmas.Map.Keys.{IsDistinct-IsPermutation, apart_from_distinct, sorted_from_all_adjacent}
use Rattle.std.proofs.lemmas.Map.Text.{is_eq-slice_cmp}
use Rattle.serde_json.specs.Data.{Data}
use Rattle.serde_json.specs.Find.{get}
use Rattle.serde_json.specs.View.{members_view}
use Rattle.odb_doc.specs.declared.fault.RequestRule.TheVariants as rules
use Rattle.odb_doc.specs.batch.Shapes.{BreaksRequest}
use Rattle.odb_doc.specs.HeaderMaps.{Entry, Lent, HasUnordered, by_name, written}
use Rattle.odb_doc.specs.Headers.{Header, HoldsHeaders, IsInOrder, folded, header_names, lent_header, listed_headers, listed_in, text_members_in}
use Rattle.odb_doc.specs.Members.{given, names_of}
use Rattle.odb_doc.proofs.FoldedNames.{names_in-text_members_in, names_of-more}
use Rattle.odb_doc.proofs.ApartLemmas.{distinct-sorted}
use Rattle.odb_doc.proofs.RepeatLemmas.{less_from}

-- ---- names in order

abbrev pub no_header : Lent
no_header = record { written = record { ref_ptr = (0, 0); now = [] }; value = record { ref_ptr = (0, 0); now = [] } }

by_name_total : IsTotalOrder by_name
by_name_total = on_total (λ (x : Lent). str_to_ascii_lowercase x.written.now) nat_list_cmp_total

below_names : (x : Lent) (xs : List Lent) → AllByRecursion (λ y. by_name x y ≡ Less) xs → AllByRecursion (λ name. slice_cmp nat_cmp (str_to_ascii_lowercase x.written.now) name ≡ Less) (keys_of (map lent_header xs))
below_names x [] all = tt
below_names x (y ∷ ys) all = (all.0, below_names x ys all.1)

names_in_order : (xs : List Lent) → IsStrictlySortedBy by_name xs → IsInOrder (map lent_header xs)
unfolding IsStrictlySortedBy
names_in_order [] ordered = tt
names_in_order (x ∷ xs) ordered = (below_names x xs ordered.0, names_in_order xs ordered.1)

pub ordered_from_rising : (r : Bool) (xs : List Lent) → r ≡ true → IsAllAdjacentAnswer (λ x y b. b ≡ is_lt (by_name x y)) xs r → IsInOrder (map lent_header xs)
ordered_from_rising true xs all answer = names_in_order xs (sorted_from_all_adjacent by_name_total xs no_header (λ k h. less_from _ (answer k no_header h)))
ordered_from_rising false xs all answer = absurd (cc (all))

pub unordered_from_falling : (r : Bool) (xs : List Lent) → r ≡ false → IsAllAdjacentAnswer (λ x y b. b ≡ is_lt (by_name x y)) xs r → HasUnordered xs
unordered_from_falling true xs none answer = absurd (cc (none))
unordered_from_falling false xs none answer = answer

-- ---- two headers of one name

tied : (o p : Ordering) → o ≡ ordering_reverse p → false ≡ is_lt o → is_lt p ≡ false → is_eq o ≡ true
tied Less p turned here back = cc
tied Equal p turned here back = refl
tied Greater Less turned here back = cc
tied Greater Equal turned here back = cc
tied Greater Greater turned here back = cc

name_at : (xs : List Lent) (k : ℕ) (d : Lent) → k < length xs → get_or (keys_of (map lent_header xs)) k [] ≡ str_to_ascii_lowercase (get_or xs k d).written.now
name_at xs k d within =
    let longer : k < length (map lent_header xs) = omega (arith, length-map xs lent_header) in
    get_or-map (λ (h : Header). h.0) (map lent_header xs) k ([], []) [] longer ∙ ap (λ (h : Header). h.0) (get_or-map lent_header xs k d ([], []) within)

pub twice_from_unordered : (xs : List Lent) → IsSorted by_name xs → HasUnordered xs → ¬ IsDistinct bytes_eq (keys_of (map lent_header xs))
twice_from_unordered xs sorted unordered apart =
    let k = unordered.0 in
    let x = get_or xs k no_header in
    let y = get_or xs (k + 1) no_header in
    let here : false ≡ is_lt (by_name x y) = unordered.2 no_header in
    let back : is_lt (by_name y x) ≡ false = sorted k no_header (omega arith) unordered.1 in
    let same = sym (is_eq-slice_cmp (str_to_ascii_lowercase x.written.now) (str_to_ascii_lowercase y.written.now)) ∙ tied (by_name x y) (by_name y x) (by_name_total.antisymm x y) here back in
    let long : k + 1 < length (keys_of (map lent_header xs)) = omega (arith, length-map xs lent_header, length-map (map lent_header xs) (λ (h : Header). h.0), unordered.1) in
    let within : k + 1 < length xs = unordered.1 in
    let other : bytes_eq (get_or (keys_of (map lent_header xs)) k []) (get_or (keys_of (map lent_header xs)) (k + 1) []) ≡ false = apart_from_distinct bytes_eq (keys_of (map lent_header xs)) k (k + 1) [] apart (omega arith) long in
    let names : bytes_eq (str_to_ascii_lowercase x.written.now) (str_to_ascii_lowercase y.written.now) ≡ false =
    rw (name_at xs k no_header (omega (arith, within)), name_at xs (k + 1) no_header within) at other in
    cc (same, names)

pub twice_from_sorted : (hs sorted : List Lent) → IsPermutation hs sorted → IsSorted by_name sorted → HasUnordered sorted → ¬ IsDistinct bytes_eq (keys_of (map lent_header hs))
twice_from_sorted hs sorted same rises unordered apart =
    let names = IsPermutation-map (λ (h : Header). h.0) (map lent_header hs) (map lent_header sorted) (IsPermutation-map lent_header hs sorted same) in
    twice_from_unordered sorted rises unordered (IsDistinct-IsPermutation bytes_eq nat_list_eq_equiv.symm (keys_of (map lent_header hs)) (keys_of (map lent_header sorted)) names apart)

-- ---- what the headers are

folded-written : (hs : List Lent) → map folded (map written hs) ≡ map lent_header hs
folded-written [] = refl
folded-written (h ∷ hs) = ap (λ rest. lent_header h ∷ rest) (folded-written hs)

pub HoldsHeaders-lent : (o : Option Data) (hs sorted : List Lent) → listed_in o ≡ Some (map written hs) → IsPermutation hs sorted → IsInOrder (map lent_header sorted) → HoldsHeaders o (map lent_header sorted)
HoldsHeaders-lent o hs sorted are same ordered = record {
  listed = map written hs;
  are = are;
  same = rw (folded-written hs) (IsPermutation-map lent_header hs sorted same);
  ordered = ordered;
}

-- no value, and null
pub HoldsHeaders-none : (o : Option Data) (hs : List Lent) → given o ≡ None → hs ≡ [] → HoldsHeaders o (map lent_header hs)
unfolding IsStrictlySortedBy
HoldsHeaders-none o hs absent none = rw none (record { listed = []; are = ap text_members_in absent; same = IsPermutation-refl []; ordered = tt })

-- two headers of one name
pub twice_broken : (d : Data) (hs : List Lent) → listed_headers d ≡ Some (map written hs) → ¬ IsDistinct bytes_eq (keys_of (map lent_header hs)) → BreaksRequest rules.HeaderTwice d
twice_broken d hs are twice =
    let names : header_names d ≡ keys_of (map lent_header hs) = names_in-text_members_in (get (codes "headers") d) (map written hs) are ∙ ap keys_of (folded-written hs) in
    λ apart. twice (subst (IsDistinct bytes_eq) names apart)

-- ---- texts compared byte by byte

abbrev pub cmp_from : List ℕ → List ℕ → ℕ → Ordering
cmp_from xs ys k = slice_cmp nat_cmp (str_to_ascii_lowercase (drop k xs)) (str_to_ascii_lowercase (drop k ys))

pub cmp_more : (xs ys : List ℕ) (k : ℕ) → k < length xs → k < length ys → cmp_from xs ys k ≡ ordering_then (nat_cmp (to_ascii_lowercase (get_or xs k 0)) (to_ascii_lowercase (get_or ys k 0))) (cmp_from xs ys (k + 1))
cmp_more xs ys k here there =
    at_drop_more (λ (zs : List ℕ). slice_cmp nat_cmp (str_to_ascii_lowercase zs) (str_to_ascii_lowercase (drop k ys))) xs k 0 here
    ∙ at_drop_more (λ (zs : List ℕ). slice_cmp nat_cmp (str_to_ascii_lowercase (get_or xs k 0 ∷ drop (k + 1) xs)) (str_to_ascii_lowercase zs)) ys k 0 there

pub cmp_longer : (xs ys : List ℕ) (k : ℕ) → k < length xs → length ys ≤ k → cmp_from xs ys k ≡ Greater
cmp_longer xs ys k here past =
    ap (λ (zs : List ℕ). slice_cmp nat_cmp (str_to_ascii_lowercase (drop k xs)) (str_to_ascii_lowercase zs)) (drop_of_length-le ys past)
    ∙ at_drop_more (λ (zs : List ℕ). slice_cmp nat_cmp (str_to_ascii_lowercase zs) []) xs k 0 here

pub cmp_shorter : (xs ys : List ℕ) (k : ℕ) → length xs ≤ k → k < length ys → cmp_from xs ys k ≡ Less
cmp_shorter xs ys k past there =
    ap (λ (zs : List ℕ). slice_cmp nat_cmp (str_to_ascii_lowercase zs) (str_to_ascii_lowercase (drop k ys))) (drop_of_length-le xs past)
    ∙ at_drop_more (λ (zs : List ℕ). slice_cmp nat_cmp [] (str_to_ascii_lowercase zs)) ys k 0 there

pub cmp_same : (xs ys : List ℕ) (k : ℕ) → length xs ≤ k → length ys ≤ k → cmp_from xs ys k ≡ Equal
cmp_same xs ys k past past' =
    ap (λ (zs : List ℕ). slice_cmp nat_cmp (str_to_ascii_lowercase zs) (str_to_ascii_lowercase (drop k ys))) (drop_of_length-le xs past)
    ∙ ap (λ (zs : List ℕ). slice_cmp nat_cmp [] (str_to_ascii_lowercase zs)) (drop_of_length-le ys past')

pub then_other : (o rest : Ordering) → (o ≡ Equal → ⊥) → ordering_then o rest ≡ o
then_other Less rest other = refl
then_other Equal rest other = absurd (other refl)
then_other Greater rest other = refl

pub then_rest : (o rest : Ordering) → o ≡ Equal → ordering_then o rest ≡ rest
then_rest o rest is = rw is refl

-- ---- a look-up by name

pub find_more : (test : List ℕ → Bool) (hs : List Lent) (k : ℕ) (d : Lent) → k < length hs
    → lookup test (map lent_header (drop k hs)) ≡ cond (test (str_to_ascii_lowercase (get_or hs k d).written.now)) (Some (get_or hs k d).value.now) (lookup test (map lent_header (drop (k + 1) hs)))
find_more test hs k d within = at_drop_more (λ (gs : List Lent). lookup test (map lent_header gs)) hs k d within

-- ---- the names of an object

pub names-more : (done : List Entry) (e : Entry) (hs more : List Lent) (h : Lent) → more ≡ hs ++ h ∷ [] → h.written.now ≡ string_bytes e.0
    → keys_of (map lent_header hs) ≡ map str_to_ascii_lowercase (names_of (members_view done))
    → keys_of (map lent_header more) ≡ map str_to_ascii_lowercase (names_of (members_view (done ++ e ∷ [])))
names-more done e hs more h is name are =
    let last : keys_of (map lent_header (hs ++ h ∷ [])) ≡ keys_of (map lent_header hs) ++ str_to_ascii_lowercase h.written.now ∷ [] =
    ap keys_of (map-append lent_header hs (h ∷ [])) ∙ map-append (λ (g : Header). g.0) (map lent_header hs) (lent_header h ∷ []) in
    let names : map str_to_ascii_lowercase (names_of (members_view (done ++ e ∷ []))) ≡ map str_to_ascii_lowercase (names_of (members_view done)) ++ str_to_ascii_lowercase (string_bytes e.0) ∷ [] =
    ap (map str_to_ascii_lowercase) (names_of-more done e) ∙ map-append str_to_ascii_lowercase (names_of (members_view done)) (string_bytes e.0 ∷ []) in
    ap (λ (gs : List Lent). keys_of (map lent_header gs)) is ∙ last ∙ ap (λ names. names ++ str_to_ascii_lowercase h.written.now ∷ []) are
    ∙ ap (λ name. map str_to_ascii_lowercase (names_of (members_view done)) ++ str_to_ascii_lowercase name ∷ []) name ∙ sym names

-- a list in which no name stands twice, and one in which two do
pub apart-from_order : (hs sorted : List Lent) → IsPermutation hs sorted → IsInOrder (map lent_header sorted) → IsDistinct bytes_eq (keys_of (map lent_header hs))
apart-from_order hs sorted same ordered =
    let names = IsPermutation-map (λ (h : Header). h.0) (map lent_header sorted) (map lent_header hs) (IsPermutation-map lent_header sorted hs (IsPermutation-sym hs sorted same)) in
    IsDistinct-IsPermutation bytes_eq nat_list_eq_equiv.symm (keys_of (map lent_header sorted)) (keys_of (map lent_header hs)) names (distinct-sorted (keys_of (map lent_header sorted)) ordered)
