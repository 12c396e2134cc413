-- What the positions of the rest have, by the positions of the batch that they come from.
use Rattle.std.proofs.Common.{◌≡◌, ◌∙◌, ◌+◌, ◌<◌, ◌≤◌, ℕ, Bool, true, false, cond, List, [], ◌∷◌, length, Option, None, Some, option_map, option_and_then, unwrap_or, slice_get, inl, inr, refl, ap, sym, subst, arith, Contains}
use Rattle.std.specs.List.{filter}
use Rattle.std.proofs.lemmas.Bool.{cases_order, true≢false}
use Rattle.std.proofs.lemmas.Option.{slice_get_within, slice_get_cases}
use Rattle.odb_doc.specs.batch.Records.{Record}
use Rattle.odb_doc.proofs.ElementLemmas.{Contains-head, Contains-tail, Contains-cases}
use Rattle.odb_check.specs.Positions.{id_at, group_at, names_at, reference_at}
use Rattle.odb_check.proofs.AnyLemmas.{Contains-none}
use Rattle.odb_send.specs.Rests.{Change, change_at, is_kept, is_kept_name, rest_record, rest_records, with_url}
use Rattle.odb_send.proofs.SelectLemmas.{place, Comes, comes, place_order, selected}

-- ---- elements that pass a test

pub filter-from : {X : Type 0} (test : X → Bool) (xs : List X) (x : X) → Contains (filter test xs) x → Contains xs x × (test x ≡ true)
filter-from test [] x inside = absurd (Contains-none x inside)
filter-from {X} test (y ∷ xs) x inside = by_first (λ more. filter-from test xs x more) (test y) refl inside
  where
    by_first : (Contains (filter test xs) x → Contains xs x × (test x ≡ true)) → (b : Bool) → test y ≡ b → Contains (cond b (y ∷ filter test xs) (filter test xs)) x → Contains (y ∷ xs) x × (test x ≡ true)
    by_first later true is inside = elim (Contains-cases y x (filter test xs) inside) [
      | inl same ↦ (subst (Contains (y ∷ xs)) same (Contains-head y xs), ap test (sym same) ∙ is)
      | inr more ↦ let found = later more in (Contains-tail y x xs found.0, found.1)
    ]
    by_first later false is inside = let found = later inside in (Contains-tail y x xs found.0, found.1)

pub filter-to : {X : Type 0} (test : X → Bool) (xs : List X) (x : X) → Contains xs x → test x ≡ true → Contains (filter test xs) x
filter-to test [] x inside passes = absurd (Contains-none x inside)
filter-to {X} test (y ∷ xs) x inside passes = by_first (λ more. filter-to test xs x more passes) (test y) refl
  where
    by_first : (Contains xs x → Contains (filter test xs) x) → (b : Bool) → test y ≡ b → Contains (cond b (y ∷ filter test xs) (filter test xs)) x
    by_first later true is = elim (Contains-cases y x xs inside) [
      | inl same ↦ subst (Contains (y ∷ filter test xs)) same (Contains-head y (filter test xs))
      | inr more ↦ Contains-tail y x (filter test xs) (later more)
    ]
    by_first later false is = elim (Contains-cases y x xs inside) [
      | inl same ↦ absurd (true≢false (sym passes ∙ ap test (sym same) ∙ is))
      | inr more ↦ later more
    ]

-- ---- a request of the rest

id_moved : (url : Option (List ℕ)) (r : Record) → (with_url url r).id ≡ r.id
id_moved None r = refl
id_moved (Some url) r = refl

group_moved : (url : Option (List ℕ)) (r : Record) → (with_url url r).group ≡ r.group
group_moved None r = refl
group_moved (Some url) r = refl

names_moved : (url : Option (List ℕ)) (r : Record) → (with_url url r).names ≡ r.names
names_moved None r = refl
names_moved (Some url) r = refl

reference_moved : (url : Option (List ℕ)) (r : Record) (id : List ℕ) → (with_url url r).reference ≡ Some id → (url ≡ None) × (r.reference ≡ Some id)
reference_moved None r id is = (refl, is)
reference_moved (Some url) r id is = absurd (cc (is))

id_kept : (rs : List Record) (kept : List Bool) (change : Change) (r : Record) → (rest_record rs kept change r).id ≡ r.id
id_kept rs kept change r = id_moved change.url _

group_kept : (rs : List Record) (kept : List Bool) (change : Change) (r : Record) → (rest_record rs kept change r).group ≡ r.group
group_kept rs kept change r = group_moved change.url _

names_kept : (rs : List Record) (kept : List Bool) (change : Change) (r : Record) → (rest_record rs kept change r).names ≡ filter (is_kept_name rs kept) r.names
names_kept rs kept change r = names_moved change.url _

reference_kept : (rs : List Record) (kept : List Bool) (change : Change) (r : Record) (id : List ℕ) → (rest_record rs kept change r).reference ≡ Some id → (change.url ≡ None) × (r.reference ≡ Some id)
reference_kept rs kept change r id is = reference_moved change.url _ id is

-- ---- where it comes from

-- the position of the batch that a position of the rest comes from
abbrev pub source : List Record → List Bool → ℕ → ℕ
source rs kept k = place (is_kept rs kept) 0 rs k

-- the request at k in the rest
pub record IsFrom (rs : List Record) (kept : List Bool) (changes : List Change) (k : ℕ) (y : Record) : Type 0 where
  pub within : k < length (rest_records rs kept changes)
  pub request : Record
  pub is : slice_get rs (source rs kept k) ≡ Some request
  pub made : y ≡ rest_record rs kept (change_at changes (source rs kept k)) request
  pub stays : is_kept rs kept (source rs kept k) ≡ true

pub is_from : (rs : List Record) (kept : List Bool) (changes : List Change) (k : ℕ) (y : Record) → slice_get (rest_records rs kept changes) k ≡ Some y → IsFrom rs kept changes k y
is_from rs kept changes k y here =
    let from : Comes (is_kept rs kept) (λ i r. rest_record rs kept (change_at changes i) r) 0 rs (source rs kept k) y = comes (is_kept rs kept) (λ i r. rest_record rs kept (change_at changes i) r) 0 rs k y here in
    let same : source rs kept k ≡ from.offset = omega (arith, from.at_is) in
    record {
      within = slice_get_within (rest_records rs kept changes) k y here;
      request = from.element;
      is = ap (slice_get rs) same ∙ from.is;
      made = from.made;
      stays = from.passed;
    }

-- a position of the rest has a request
pub there_is : (rs : List Record) (kept : List Bool) (changes : List Change) (k : ℕ) → k < length (rest_records rs kept changes) → (y : Record) × (slice_get (rest_records rs kept changes) k ≡ Some y)
there_is rs kept changes k within = elim ((slice_get_cases (rest_records rs kept changes) k).1) [
  | inl (y, _, got, _) ↦ (y, got)
  | inr (past, _) ↦ absurd (omega (arith, within, past))
]

-- a request that is kept has a position in the rest
pub kept_at : (rs : List Record) (kept : List Bool) (changes : List Change) (j : ℕ) → j < length rs → is_kept rs kept j ≡ true → (k : ℕ) × (k < length (rest_records rs kept changes)) × (source rs kept k ≡ j)
kept_at rs kept changes j within stays =
    let same : j ≡ 0 + j = omega arith in
    let found = selected (is_kept rs kept) (λ i r. rest_record rs kept (change_at changes i) r) 0 rs j within (subst (λ i. is_kept rs kept i ≡ true) same stays) in
    (found.0, found.1, found.2 ∙ sym same)

-- the rest has the order of the batch
pub in_order : (rs : List Record) (kept : List Bool) (changes : List Change) (k m : ℕ) → k < m → m < length (rest_records rs kept changes) → source rs kept k < source rs kept m
in_order rs kept changes k m less within = place_order (is_kept rs kept) (λ i r. rest_record rs kept (change_at changes i) r) 0 rs k m less within

pub in_order_or_same : (rs : List Record) (kept : List Bool) (changes : List Change) (k m : ℕ) → k ≤ m → m < length (rest_records rs kept changes) → source rs kept k ≤ source rs kept m
in_order_or_same rs kept changes k m upto within = elim (cases_order k m) [
  | inl same ↦ let e : source rs kept k ≡ source rs kept m = ap (source rs kept) same in omega (arith, e)
  | inr (inl less) ↦ omega (arith, in_order rs kept changes k m less within)
  | inr (inr more) ↦ absurd (omega (arith, more, upto))
]

-- the batch has the order of the rest
pub order_back : (rs : List Record) (kept : List Bool) (changes : List Change) (k m : ℕ) → k < length (rest_records rs kept changes) → source rs kept k < source rs kept m → k < m
order_back rs kept changes k m within less = elim (cases_order k m) [
  | inl same ↦ let e : source rs kept k ≡ source rs kept m = ap (source rs kept) same in absurd (omega (arith, e, less))
  | inr (inl before) ↦ before
  | inr (inr after) ↦ absurd (omega (arith, in_order rs kept changes m k after within, less))
]

-- ---- what a position of the rest has

-- something that is made of an option comes from what is there
some_of : {X Y : Type 0} (f : X → Y) (o : Option X) (y : Y) → option_map f o ≡ Some y → (x : X) × (o ≡ Some x) × (f x ≡ y)
some_of f None y is = absurd (cc (is))
some_of f (Some x) y is = (x, refl, cc (is))

some_from : {X Y : Type 0} (f : X → Option Y) (o : Option X) (y : Y) → option_and_then f o ≡ Some y → (x : X) × (o ≡ Some x) × (f x ≡ Some y)
some_from f None y is = absurd (cc (is))
some_from f (Some x) y is = (x, refl, is)

-- the identifier at a position of the rest
pub record HasText (rs : List Record) (kept : List Bool) (changes : List Change) (what : List Record → ℕ → Option (List ℕ)) (k : ℕ) (text : List ℕ) : Type 0 where
  pub within : k < length (rest_records rs kept changes)
  pub was : what rs (source rs kept k) ≡ Some text
  pub stays : is_kept rs kept (source rs kept k) ≡ true

pub id_from : (rs : List Record) (kept : List Bool) (changes : List Change) (k : ℕ) (id : List ℕ) → id_at (rest_records rs kept changes) k ≡ Some id → HasText rs kept changes id_at k id
id_from rs kept changes k id here =
    let (y, got, is) = some_of (λ (r : Record). r.id) (slice_get (rest_records rs kept changes) k) id here in
    let from = is_from rs kept changes k y got in
    record {
      within = from.within;
      was = ap (option_map (λ (r : Record). r.id)) from.is ∙ ap Some (sym (id_kept rs kept (change_at changes (source rs kept k)) from.request) ∙ ap (λ (r : Record). r.id) (sym from.made) ∙ is);
      stays = from.stays;
    }

pub group_from : (rs : List Record) (kept : List Bool) (changes : List Change) (k : ℕ) (group : List ℕ) → group_at (rest_records rs kept changes) k ≡ Some group → HasText rs kept changes group_at k group
group_from rs kept changes k group here =
    let (y, got, is) = some_from (λ (r : Record). r.group) (slice_get (rest_records rs kept changes) k) group here in
    let from = is_from rs kept changes k y got in
    record {
      within = from.within;
      was = ap (option_and_then (λ (r : Record). r.group)) from.is ∙ (sym (group_kept rs kept (change_at changes (source rs kept k)) from.request) ∙ ap (λ (r : Record). r.group) (sym from.made) ∙ is);
      stays = from.stays;
    }

-- what a request in the batch has, the rest has too
pub id_to : (rs : List Record) (kept : List Bool) (changes : List Change) (k : ℕ) → k < length (rest_records rs kept changes) → id_at (rest_records rs kept changes) k ≡ id_at rs (source rs kept k)
id_to rs kept changes k within =
    let (y, got) = there_is rs kept changes k within in
    let from = is_from rs kept changes k y got in
    ap (option_map (λ (r : Record). r.id)) got ∙ ap Some (ap (λ (r : Record). r.id) from.made ∙ id_kept rs kept (change_at changes (source rs kept k)) from.request) ∙ sym (ap (option_map (λ (r : Record). r.id)) from.is)

pub group_to : (rs : List Record) (kept : List Bool) (changes : List Change) (k : ℕ) → k < length (rest_records rs kept changes) → group_at (rest_records rs kept changes) k ≡ group_at rs (source rs kept k)
group_to rs kept changes k within =
    let (y, got) = there_is rs kept changes k within in
    let from = is_from rs kept changes k y got in
    ap (option_and_then (λ (r : Record). r.group)) got ∙ (ap (λ (r : Record). r.group) from.made ∙ group_kept rs kept (change_at changes (source rs kept k)) from.request) ∙ sym (ap (option_and_then (λ (r : Record). r.group)) from.is)

pub names_to : (rs : List Record) (kept : List Bool) (changes : List Change) (k : ℕ) → k < length (rest_records rs kept changes) → names_at (rest_records rs kept changes) k ≡ filter (is_kept_name rs kept) (names_at rs (source rs kept k))
names_to rs kept changes k within =
    let (y, got) = there_is rs kept changes k within in
    let from = is_from rs kept changes k y got in
    let names : Option Record → List (List ℕ) = λ o. unwrap_or (option_map (λ (r : Record). r.names) o) [] in
    ap names got ∙ (ap (λ (r : Record). r.names) from.made ∙ names_kept rs kept (change_at changes (source rs kept k)) from.request) ∙ sym (ap (λ o. filter (is_kept_name rs kept) (names o)) from.is)

-- a name of a request in the rest
pub record HasName (rs : List Record) (kept : List Bool) (changes : List Change) (k : ℕ) (name : List ℕ) : Type 0 where
  pub within : k < length (rest_records rs kept changes)
  pub was : Contains (names_at rs (source rs kept k)) name
  pub is_kept : is_kept_name rs kept name ≡ true

pub names_within : (rs : List Record) (i : ℕ) (name : List ℕ) → Contains (names_at rs i) name → i < length rs
names_within rs i name inside = grind (arith, slice_get_cases rs i, Contains-none)

pub name_from : (rs : List Record) (kept : List Bool) (changes : List Change) (k : ℕ) (name : List ℕ) → Contains (names_at (rest_records rs kept changes) k) name → HasName rs kept changes k name
name_from rs kept changes k name inside =
    let within = names_within (rest_records rs kept changes) k name inside in
    let found = filter-from (is_kept_name rs kept) (names_at rs (source rs kept k)) name (subst (λ xs. Contains xs name) (names_to rs kept changes k within) inside) in
    record { within = within; was = found.0; is_kept = found.1 }

pub name_to : (rs : List Record) (kept : List Bool) (changes : List Change) (k : ℕ) (name : List ℕ) → k < length (rest_records rs kept changes) → Contains (names_at rs (source rs kept k)) name → is_kept_name rs kept name ≡ true
    → Contains (names_at (rest_records rs kept changes) k) name
name_to rs kept changes k name within inside stays = subst (λ xs. Contains xs name) (sym (names_to rs kept changes k within)) (filter-to (is_kept_name rs kept) (names_at rs (source rs kept k)) name inside stays)

-- the reference of a request in the rest
pub record HasReference (rs : List Record) (kept : List Bool) (changes : List Change) (k : ℕ) (id : List ℕ) : Type 0 where
  pub within : k < length (rest_records rs kept changes)
  pub was : reference_at rs (source rs kept k) ≡ Some id
  pub stays : is_kept rs kept (source rs kept k) ≡ true
  pub same : (change_at changes (source rs kept k)).url ≡ None

pub reference_from : (rs : List Record) (kept : List Bool) (changes : List Change) (k : ℕ) (id : List ℕ) → reference_at (rest_records rs kept changes) k ≡ Some id → HasReference rs kept changes k id
reference_from rs kept changes k id here =
    let (y, got, is) = some_from (λ (r : Record). r.reference) (slice_get (rest_records rs kept changes) k) id here in
    let from = is_from rs kept changes k y got in
    let both = reference_kept rs kept (change_at changes (source rs kept k)) from.request id (ap (λ (r : Record). r.reference) (sym from.made) ∙ is) in
    record {
      within = from.within;
      was = ap (option_and_then (λ (r : Record). r.reference)) from.is ∙ both.1;
      stays = from.stays;
      same = both.0;
    }
