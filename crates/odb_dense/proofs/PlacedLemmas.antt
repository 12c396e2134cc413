-- The places of a set through its steps.
use Rattle.std.proofs.Common.{◌≡◌, ◌≢◌, ℕ, zero, suc, min, ◌<◌, ◌≤◌, ◌+◌, ◌-◌, ◌==◌, ◌&&◌, ◌∙◌, sym, ap, refl, subst, arith, inl, inr, Bool, true, false, cond, List, [], ◌∷◌, Option, Some, None, is_some, length, get_or, take, set, map, replicate, All, count_by, nat_lt, if◌then◌else◌}
use Rattle.std.proofs.lemmas.Bool.{cond-true, cond-false, cases_eq, cases_lt, ne_eqb, eq-eqb, lt-ltb, and_from, and_right}
use Rattle.std.proofs.lemmas.Option.{none-some, same_Some}
use Rattle.std.proofs.lemmas.List.{get_or_read, get_or-take, get_or_default, get_or_past, get_or-map, get_or-set_same, get_or-set_other, length-set, length-map, length-replicate, length-take, length-take-le, map-set, set-get_or}
use Rattle.std.proofs.lemmas.List.Sums.{count_by-le-length}
use Rattle.odb_dense.specs.Lists.{ListsOnce}
use Rattle.odb_dense.specs.Places.{ArePlaced, place_of, places_of}
use Rattle.odb_dense.proofs.CountLemmas.{count_none, count_one, count_set, count_below}

pub members_none : (n : ℕ) → map is_some (places_of (replicate n 4294967295)) ≡ replicate n false
members_none zero = refl
members_none (suc n) = ap (λ (rest : List Bool). false ∷ rest) (members_none n)

-- a number below the greatest stands for itself
pub place_below : (n : ℕ) → n < 4294967295 → place_of n ≡ Some n
place_below n less = cond-false (n == 4294967295) None (Some n) (ne_eqb n 4294967295 (λ e. omega (arith, e, less)))

-- the greatest stands for none
pub place_absent : (n : ℕ) → n ≡ 4294967295 → place_of n ≡ None
place_absent n same = cond-true (n == 4294967295) None (Some n) (eq-eqb n 4294967295 same)

-- what was read stands for the place of its number
pub read_number : (numbers : List ℕ) (i n : ℕ) → i < length (places_of numbers) → n ≡ get_or numbers i n → get_or (places_of numbers) i None ≡ place_of n
read_number numbers i n within read =
    let below : i < length numbers = omega (arith, length-map numbers place_of) in
    get_or-map place_of numbers i 0 None below ∙ ap place_of (sym (get_or_read numbers i n below read 0))

-- a number other than the greatest is the place that it stands for
pub read_place : (numbers : List ℕ) (i n : ℕ) → i < length (places_of numbers) → n ≡ get_or numbers i n → n ≢ 4294967295 → get_or (places_of numbers) i None ≡ Some n
read_place numbers i n within read other = read_number numbers i n within read ∙ cond-false (n == 4294967295) None (Some n) (ne_eqb n 4294967295 other)

-- the greatest tells that there is no place
pub read_free : (numbers : List ℕ) (i n : ℕ) → i < length (places_of numbers) → n ≡ get_or numbers i n → n ≡ 4294967295 → get_or (places_of numbers) i None ≡ None
read_free numbers i n within read absent = read_number numbers i n within read ∙ place_absent n absent

-- a place below the greatest that is written
pub written : (numbers : List ℕ) (i n : ℕ) → n < 4294967295 → places_of (set numbers i n) ≡ set (places_of numbers) i (Some n)
written numbers i n less = map-set place_of numbers i n ∙ ap (set (places_of numbers) i) (place_below n less)

-- a place that goes from one number to another
pub removed : (numbers : List ℕ) (last i place : ℕ) → place < 4294967295 → places_of (set (set numbers last place) i 4294967295) ≡ set (set (places_of numbers) last (Some place)) i None
removed numbers last i place less = map-set place_of (set numbers last place) i 4294967295 ∙ ap (λ ps. set ps i None) (written numbers last place less)

absent_each : (n : ℕ) → places_of (replicate n 4294967295) ≡ replicate n None
absent_each zero = refl
absent_each (suc n) = ap (λ (rest : List (Option ℕ)). None ∷ rest) (absent_each n)

read_absent : (n i : ℕ) → get_or (replicate {A = Option ℕ} n None) i None ≡ None
read_absent zero i = refl
read_absent (suc n) zero = refl
read_absent (suc n) (suc i) = read_absent n i

count_absent : (n : ℕ) → count_by is_some (replicate {A = Option ℕ} n None) ≡ 0
count_absent n = count_none is_some (replicate n None) (λ k d less. ap is_some (get_or_default (replicate n None) k d None less ∙ read_absent n k))

-- before the first number has a place
pub none_placed : (items : List ℕ) (n : ℕ) → n ≤ 4294967295 → length items ≡ n → ArePlaced items (places_of (replicate n 4294967295)) 0
none_placed items n few room = subst (λ places. ArePlaced items places 0) (sym (absent_each n)) (record {
  few = omega (arith, few, length-replicate {A = Option ℕ} n None);
  room = room ∙ sym (length-replicate n None);
  counted = sym (count_absent n);
  placed = λ k less. absurd (omega arith);
  listed = λ i k at. absurd (none-some k (sym (read_absent n i) ∙ at));
})

-- a number with a place is below the bound
placed_within : (places : List (Option ℕ)) (i k : ℕ) → get_or places i None ≡ Some k → i < length places
placed_within places i k e = elim (cases_lt i (length places)) [
  | inl within ↦ within
  | inr past ↦ absurd (none-some k (sym (get_or_past places i None past) ∙ e))
]

-- whether a number is in the set
pub read_members : (places : List (Option ℕ)) (i : ℕ) → get_or (map is_some places) i false ≡ is_some (get_or places i None)
read_members [] i = refl
read_members (place ∷ places) zero = refl
read_members (place ∷ places) (suc i) = read_members places i

-- what is in the list has a place, so what has none is not there
not_listed : (items : List ℕ) (places : List (Option ℕ)) (count i : ℕ) → ArePlaced items places count → get_or places i None ≡ None → All (λ x. (x == i) ≡ false) (take count items)
not_listed items places count i kept free k d within =
    let long : length (take count items) ≡ min count (length items) = length-take count items in
    let less : k < count = omega arith in
    let below : k < length items = omega arith in
    let read : get_or (take count items) k d ≡ get_or items k 0 = get_or-take count items k d less ∙ get_or_default items k d 0 below in
    ne_eqb _ i (λ e. none-some k (sym free ∙ subst (λ x. get_or places x None ≡ Some k) (sym read ∙ e) (kept.placed k less)))

-- what has a place is in the list there, and nowhere else
listed_at : (items : List ℕ) (places : List (Option ℕ)) (count i place : ℕ) → ArePlaced items places count → get_or places i None ≡ Some place → count_by (λ x. x == i) (take count items) ≡ 1
listed_at items places count i place kept at =
    let (less, here) = kept.listed i place at in
    let few : count ≤ length places = subst (λ n. n ≤ length places) (sym kept.counted) (count_by-le-length is_some places) in
    let room = kept.room in
    let long : length (take count items) ≡ count = length-take-le count items (omega arith) in
    count_one (λ x. x == i) (take count items) place 0 (omega arith) (eq-eqb _ i (get_or-take count items place 0 less ∙ here)) (λ j e within other. apart j e (omega arith) (omega arith) other)
  where
    apart : (j e : ℕ) → j < count → j < length items → j ≢ place → (get_or (take count items) j e == i) ≡ false
    apart j e less below other =
        let read : get_or (take count items) j e ≡ get_or items j 0 = get_or-take count items j e less ∙ get_or_default items j e 0 below in
        ne_eqb _ i (λ same. other (same_Some j place (sym (subst (λ x. get_or places x None ≡ Some j) (sym read ∙ same) (kept.placed j less)) ∙ at)))

-- the prefix of the list up to the count has each number of the set once
pub listed_once : (items : List ℕ) (places : List (Option ℕ)) (count : ℕ) → ArePlaced items places count → ListsOnce (length (map is_some places)) (λ i. get_or (map is_some places) i false) (take count items)
listed_once items places count kept i = by (get_or places i None) refl
  where
    by : (place : Option ℕ) → get_or places i None ≡ place → count_by (λ x. x == i) (take count items) ≡ (if nat_lt i (length (map is_some places)) && get_or (map is_some places) i false then 1 else 0)
    by None free =
        let out : (nat_lt i (length (map is_some places)) && get_or (map is_some places) i false) ≡ false = and_right _ _ (read_members places i ∙ ap is_some free) in
        rw out (count_none (λ x. x == i) (take count items) (not_listed items places count i kept free))
    by (Some place) at =
        let within : i < length places = placed_within places i place at in
        let same : length (map is_some places) ≡ length places = length-map places is_some in
        let inside : (nat_lt i (length (map is_some places)) && get_or (map is_some places) i false) ≡ true = and_from _ _ (lt-ltb i _ (omega arith)) (read_members places i ∙ ap is_some at) in
        rw inside (listed_at items places count i place kept at)

-- a number that has no place leaves room for one more
pub has_room : (items : List ℕ) (places : List (Option ℕ)) (count i : ℕ) → ArePlaced items places count → i < length places → get_or places i None ≡ None → count < length items
has_room items places count i kept within free =
    let less : count_by is_some places < length places = count_below is_some places i (Some 0) None within (ap is_some free) refl in
    let room = kept.room in
    let counted = kept.counted in
    omega arith

-- a number that has no place is put at the end of the list
pub placed_more : (items : List ℕ) (places : List (Option ℕ)) (count i : ℕ) → ArePlaced items places count → i < length places → get_or places i None ≡ None → ArePlaced (set items count i) (set places i (Some count)) (count + 1)
placed_more items places count i kept within free =
    let more : count < length items = has_room items places count i kept within free in
    let few = kept.few in
    let room = kept.room in
    let counted = kept.counted in
    let change : count_by is_some (set places i (Some count)) + cond (is_some (get_or places i None)) 1 0 ≡ count_by is_some places + 1 = count_set is_some places i (Some count) None within in
    let none : cond {A = ℕ} (is_some (get_or places i None)) 1 0 ≡ 0 = cond-false (is_some (get_or places i None)) 1 0 (ap is_some free) in
    let as_many : length (set places i (Some count)) ≡ length places = length-set places i (Some count) in
    let as_long : length (set items count i) ≡ length items = length-set items count i in
    record {
      few = omega arith;
      room = omega arith;
      counted = omega arith;
      placed = λ k less. elim (cases_eq k count) [
        | inl here ↦ subst (λ m. get_or (set places i (Some count)) (get_or (set items count i) m 0) None ≡ Some m) (sym here) (ap (λ x. get_or (set places i (Some count)) x None) (get_or-set_same items count i 0 more) ∙ get_or-set_same places i (Some count) None within)
        | inr other ↦ before k (omega arith) other
      ];
      listed = λ j k at. elim (cases_eq j i) [
        | inl here ↦ last j k here at more
        | inr other ↦ former j k (sym (get_or-set_other places i j (Some count) None other) ∙ at)
      ];
    }
  where
    before : (k : ℕ) → k < count → k ≢ count → get_or (set places i (Some count)) (get_or (set items count i) k 0) None ≡ Some k
    before k less other =
        let at : get_or places (get_or items k 0) None ≡ Some k = kept.placed k less in
        ap (λ x. get_or (set places i (Some count)) x None) (get_or-set_other items count k i 0 other) ∙ (get_or-set_other places i (get_or items k 0) (Some count) None (λ e. none-some k (sym free ∙ ap (λ x. get_or places x None) (sym e) ∙ at)) ∙ at)

    last : (j k : ℕ) → j ≡ i → get_or (set places i (Some count)) j None ≡ Some k → count < length items → (k < count + 1) × (get_or (set items count i) k 0 ≡ j)
    last j k here at more =
        let is : count ≡ k = same_Some count k (sym (ap (λ x. get_or (set places i (Some count)) x None) here ∙ get_or-set_same places i (Some count) None within) ∙ at) in
        (omega arith, ap (λ m. get_or (set items count i) m 0) (sym is) ∙ (get_or-set_same items count i 0 more ∙ sym here))

    former : (j k : ℕ) → get_or places j None ≡ Some k → (k < count + 1) × (get_or (set items count i) k 0 ≡ j)
    former j k at =
        let (less, is) = kept.listed j k at in
        (omega arith, get_or-set_other items count k i 0 (omega arith) ∙ is)

-- a number below the bound has an entry
pub in_bound : (places : List (Option ℕ)) (value : List Bool) (i : ℕ) → map is_some places ≡ value → i < length value → i < length places
in_bound places value i view within = omega (arith, length-map places (is_some {T = ℕ}), ap length view)

-- nothing is to be done if the number is in or out already
pub members_same : (places : List (Option ℕ)) (value : List Bool) (i : ℕ) (place : Option ℕ) → map is_some places ≡ value → get_or places i None ≡ place → value ≡ set value i (is_some place)
members_same places value i place view here =
    let holds : get_or value i false ≡ is_some place = ap (λ (v : List Bool). get_or v i false) (sym view) ∙ (read_members places i ∙ ap is_some here) in
    sym (ap (λ x. set value i x) (sym holds) ∙ set-get_or value i false)

-- what the set is after what was written
pub members_more : (places : List (Option ℕ)) (value : List Bool) (i k : ℕ) → map is_some places ≡ value → map is_some (set places i (Some k)) ≡ set value i true
members_more places value i k view = map-set is_some places i (Some k) ∙ ap (λ (v : List Bool). set v i true) view

-- a place in the list, and the last of the list, which takes it
pub last_below : (items : List ℕ) (places : List (Option ℕ)) (count i place : ℕ) → ArePlaced items places count → get_or places i None ≡ Some place → (place < count) × (count ≤ length items)
last_below items places count i place kept at =
    let few : count ≤ length places = subst (λ n. n ≤ length places) (sym kept.counted) (count_by-le-length is_some places) in
    let room = kept.room in
    ((kept.listed i place at).0, omega arith)

-- the last of the list has a place, at the end
pub last_at : (items : List ℕ) (places : List (Option ℕ)) (count last : ℕ) → ArePlaced items places count → 0 < count → count ≤ length items → last ≡ get_or items (count - 1) last → get_or places last None ≡ Some (count - 1)
last_at items places count last kept some few read =
    subst (λ x. get_or places x None ≡ Some (count - 1)) (sym (get_or_read items (count - 1) last (omega arith) read 0)) (kept.placed (count - 1) (omega arith))

pub last_within : (items : List ℕ) (places : List (Option ℕ)) (count last : ℕ) → ArePlaced items places count → 0 < count → count ≤ length items → last ≡ get_or items (count - 1) last → last < length places
last_within items places count last kept some few read = placed_within places last (count - 1) (last_at items places count last kept some few read)

-- the last of the list takes the place of a number that is removed
pub placed_less : (items : List ℕ) (places : List (Option ℕ)) (count i place last : ℕ) → ArePlaced items places count → i < length places → get_or places i None ≡ Some place → last ≡ get_or items (count - 1) last → ArePlaced (set items place last) (set (set places last (Some place)) i None) (count - 1)
placed_less items places count i place last kept within at read =
    let (less, few_items) = last_below items places count i place kept at in
    let there : get_or places last None ≡ Some (count - 1) = last_at items places count last kept (omega arith) few_items read in
    let last_in : last < length places = placed_within places last (count - 1) there in
    let few = kept.few in
    let room = kept.room in
    let counted = kept.counted in
    let moved : count_by is_some (set places last (Some place)) + cond {A = ℕ} (is_some (get_or places last None)) 1 0 ≡ count_by is_some places + 1 = count_set is_some places last (Some place) None last_in in
    let was : cond {A = ℕ} (is_some (get_or places last None)) 1 0 ≡ 1 = cond-true (is_some (get_or places last None)) 1 0 (ap is_some there) in
    let same : length (set places last (Some place)) ≡ length places = length-set places last (Some place) in
    let removed : count_by is_some (set (set places last (Some place)) i None) + cond {A = ℕ} (is_some (get_or (set places last (Some place)) i None)) 1 0 ≡ count_by is_some (set places last (Some place)) + 0 = count_set is_some (set places last (Some place)) i None None (omega arith) in
    let had : cond {A = ℕ} (is_some (get_or (set places last (Some place)) i None)) 1 0 ≡ 1 = cond-true (is_some (get_or (set places last (Some place)) i None)) 1 0 (still last_in) in
    let as_many : length (set (set places last (Some place)) i None) ≡ length (set places last (Some place)) = length-set (set places last (Some place)) i None in
    let as_long : length (set items place last) ≡ length items = length-set items place last in
    record {
      few = omega arith;
      room = omega arith;
      counted = omega arith;
      placed = λ k below. elim (cases_eq k place) [
        | inl here ↦ moves k here below there last_in (omega arith)
        | inr other ↦ stays k other below there
      ];
      listed = λ j k now. elim (cases_eq j i) [
        | inl here ↦ absurd (none-some k (sym (ap (λ x. get_or (set (set places last (Some place)) i None) x None) here ∙ get_or-set_same (set places last (Some place)) i None None (omega arith)) ∙ now))
        | inr other ↦ elim (cases_eq j last) [
          | inl here ↦ found_last j k here other (sym (get_or-set_other (set places last (Some place)) i j None None other) ∙ now) there last_in (omega arith)
          | inr apart ↦ found j k other apart (sym (get_or-set_other places last j (Some place) None apart) ∙ (sym (get_or-set_other (set places last (Some place)) i j None None other) ∙ now))
        ]
      ];
    }
  where
    still : last < length places → is_some (get_or (set places last (Some place)) i None) ≡ true
    still last_in = elim (cases_eq i last) [
      | inl here ↦ ap (λ x. is_some (get_or (set places last (Some place)) x None)) here ∙ ap is_some (get_or-set_same places last (Some place) None last_in)
      | inr other ↦ ap is_some (get_or-set_other places last i (Some place) None other ∙ at)
    ]

    -- if the last one is not the one that is removed, it is elsewhere
    apart_last : get_or places last None ≡ Some (count - 1) → place < count - 1 → last ≢ i
    apart_last there less same = let e : count - 1 ≡ place = same_Some (count - 1) place (sym there ∙ (ap (λ x. get_or places x None) same ∙ at)) in absurd (omega arith)

    moves : (k : ℕ) → k ≡ place → k < count - 1 → get_or places last None ≡ Some (count - 1) → last < length places → place < length items → get_or (set (set places last (Some place)) i None) (get_or (set items place last) k 0) None ≡ Some k
    moves k here below there last_in place_in =
        let e : get_or (set items place last) k 0 ≡ last = ap (λ m. get_or (set items place last) m 0) here ∙ get_or-set_same items place last 0 place_in in
        ap (λ x. get_or (set (set places last (Some place)) i None) x None) e ∙ (get_or-set_other (set places last (Some place)) i last None None (apart_last there (omega arith)) ∙ (get_or-set_same places last (Some place) None last_in ∙ ap Some (sym here)))

    not_last : (k : ℕ) → k < count - 1 → k ≡ count - 1 → ⊥
    not_last k below e = omega arith

    stays : (k : ℕ) → k ≢ place → k < count - 1 → get_or places last None ≡ Some (count - 1) → get_or (set (set places last (Some place)) i None) (get_or (set items place last) k 0) None ≡ Some k
    stays k other below there =
        let was : get_or places (get_or items k 0) None ≡ Some k = kept.placed k (omega arith) in
        ap (λ x. get_or (set (set places last (Some place)) i None) x None) (get_or-set_other items place k last 0 other)
        ∙ (get_or-set_other (set places last (Some place)) i (get_or items k 0) None None (λ e. other (same_Some k place (sym was ∙ (ap (λ x. get_or places x None) e ∙ at))))
        ∙ (get_or-set_other places last (get_or items k 0) (Some place) None (λ e. not_last k below (same_Some k (count - 1) (sym was ∙ (ap (λ x. get_or places x None) e ∙ there))))
        ∙ was))

    found_last : (j k : ℕ) → j ≡ last → j ≢ i → get_or (set places last (Some place)) j None ≡ Some k → get_or places last None ≡ Some (count - 1) → last < length places → place < length items → (k < count - 1) × (get_or (set items place last) k 0 ≡ j)
    found_last j k here other now there last_in place_in =
        let is : place ≡ k = same_Some place k (sym (ap (λ x. get_or (set places last (Some place)) x None) here ∙ get_or-set_same places last (Some place) None last_in) ∙ now) in
        let (less, item) = kept.listed i place at in
        let (last_less, last_item) = kept.listed last (count - 1) there in
        let inner : place ≢ count - 1 = λ e. other (here ∙ (sym last_item ∙ (ap (λ m. get_or items m 0) (sym e) ∙ item))) in
        (omega arith, ap (λ m. get_or (set items place last) m 0) (sym is) ∙ (get_or-set_same items place last 0 place_in ∙ sym here))

    found : (j k : ℕ) → j ≢ i → j ≢ last → get_or places j None ≡ Some k → (k < count - 1) × (get_or (set items place last) k 0 ≡ j)
    found j k other apart now =
        let (less, item) = kept.listed j k now in
        let (place_less, place_item) = kept.listed i place at in
        let (last_below, few_items) = last_below items places count i place kept at in
        let end : last ≡ get_or items (count - 1) 0 = get_or_read items (count - 1) last (omega arith) read 0 in
        let inner : k ≢ count - 1 = λ e. apart (sym item ∙ (ap (λ m. get_or items m 0) e ∙ sym end)) in
        let elsewhere : k ≢ place = λ e. other (sym item ∙ (ap (λ m. get_or items m 0) e ∙ place_item)) in
        (omega arith, get_or-set_other items place k last 0 elsewhere ∙ item)

-- what the set is after a number went
pub members_less : (places : List (Option ℕ)) (value : List Bool) (i place last rest : ℕ) → map is_some places ≡ value → get_or places last None ≡ Some rest → map is_some (set (set places last (Some place)) i None) ≡ set value i false
members_less places value i place last rest view there =
    map-set is_some (set places last (Some place)) i None
    ∙ ap (λ (v : List Bool). set v i false) (map-set is_some places last (Some place)
    ∙ (ap (λ b. set (map is_some places) last b) (sym (read_members places last ∙ ap is_some there))
    ∙ (set-get_or (map is_some places) last false ∙ view)))
