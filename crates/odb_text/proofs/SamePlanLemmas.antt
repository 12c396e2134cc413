-- A need of a request is found by its name, so plans that show the same have the same needs; and plans as JSON.
use Rattle.std.proofs.Common.{◌≡◌, ◌∙◌, ◌<◌, ◌≤◌, ℕ, zero, suc, not, is_some, List, [], ◌∷◌, length, map, get_or, slice_get, Option, None, Some, option_map, option_and_then, unwrap_or, refl, sym, ap, arith, inl, inr, codes}
use Rattle.std.specs.Prelude.{◌==◌}
use Rattle.std.specs.List.{filter_map, cons_option}
use Rattle.std.proofs.lemmas.Option.{same_Some}
use Rattle.std.proofs.lemmas.Bool.{cases_lt}
use Rattle.std.proofs.lemmas.Bool.Decides.{Decides-eqb}
use Rattle.serde_json.specs.Data.{Data, Items, Members, item, member, no_items, no_members, put, string, null, boolean, number, unsigned, array, object}
use Rattle.serde_json.specs.View.{items_of}
use Rattle.serde_json.proofs.OnLiterals.{serde_json_on_literals}
use Rattle.odb_doc.specs.batch.Records.{Record}
use Rattle.odb_doc.specs.canonical.Canonical.{with_some}
use Rattle.odb_check.specs.declared.need.Need.{Need}
use Rattle.odb_check.specs.declared.need.Need.TheVariants.{One, Group}
use Rattle.odb_check.specs.Firsts.{count_below, first_below, is_text, list_below}
use Rattle.odb_check.specs.Levels.{level_at}
use Rattle.odb_check.specs.Needs.{need_at, need_of, needed_names, needs_at}
use Rattle.odb_check.specs.Positions.{group_at, id_at}
use Rattle.odb_check.specs.Texts.{group_text, need_name}
use Rattle.odb_check.specs.Units.{begins_unit, is_new_group, unit_at, units_before}
use Rattle.odb_check.proofs.BelowLemmas.{get_or-list_below, length-list_below}
use Rattle.odb_check.proofs.FirstLemmas.{FirstCases, first_cases}
use Rattle.odb_check.proofs.NeedLemmas.{is_meant}
use Rattle.odb_check.proofs.UnitLemmas.{IsUnitOf, in_group, unit_at_start}
use Rattle.odb_text.specs.Lines.{id_text}
use Rattle.odb_text.specs.Results.{need_values, plan_value, planned}
use Rattle.odb_text.specs.SamePlans.{IsSamePlan}

-- ---- the name of a need resolves to it

named : (rs : List Record) (name : List ℕ) (u : ℕ) → IsUnitOf rs name u → (found : Option ℕ) → FirstCases (length rs) (λ j. unit_at rs j ≡ u) found → group_text (option_and_then (group_at rs) found) ≡ name
named rs name u unit None none = absurd (none unit.start unit.within (unit_at_start rs name u unit))
named rs name u unit (Some b) first = ap group_text (in_group rs name u b unit first.1.here)

name-of : (rs : List Record) (name : List ℕ) (need : Need) → need_of rs name ≡ Some need → need_name rs need ≡ name
name-of rs name (One p) is = ap (λ (o : Option (List ℕ)). unwrap_or o []) (is_meant rs name (One p) is).1.here
name-of rs name (Group u) is =
    named rs name u (is_meant rs name (Group u) is).unit (first_below (length rs) (λ j. unit_at rs j == u))
    (first_cases (length rs) (λ j. unit_at rs j == u) (λ j. unit_at rs j ≡ u) (λ j. Decides-eqb (unit_at rs j) u))

abbrev pub AreKnown : List Record → List Need → Type 0
AreKnown rs [] = Unit {0}
AreKnown rs (need ∷ needs) = (need_of rs (need_name rs need) ≡ Some need) × AreKnown rs needs

known-more : (rs : List Record) (name : List ℕ) (needs : List Need) → AreKnown rs needs → (found : Option Need) → need_of rs name ≡ found → AreKnown rs (cons_option found needs)
known-more rs name needs rest None is = rest
known-more rs name needs rest (Some need) is = (ap (need_of rs) (name-of rs name need is) ∙ is, rest)

pub known : (rs : List Record) (names : List (List ℕ)) → AreKnown rs (filter_map (need_of rs) names)
known rs [] = tt
known rs (name ∷ names) = known-more rs name (filter_map (need_of rs) names) (known rs names) (need_of rs name) refl

-- ---- what a name resolves to depends on the identifiers and the groups alone

module _ (rs os : List Record) (count : length rs ≡ length os) (ids : (i : ℕ) → id_at rs i ≡ id_at os i) (groups : (i : ℕ) → group_at rs i ≡ group_at os i) where
  new-same : (i : ℕ) (group : Option (List ℕ)) → is_new_group rs i group ≡ is_new_group os i group
  new-same i None = refl
  new-same i (Some group) = λ k. not (is_some (first_below i (λ j. is_text group (groups j k))))

  begins-same : (i : ℕ) → begins_unit rs i ≡ begins_unit os i
  begins-same i = new-same i (group_at rs i) ∙ ap (is_new_group os i) (groups i)

  before-same : (i : ℕ) → units_before rs i ≡ units_before os i
  before-same i = λ k. count_below i (λ j. begins-same j k)

  need-same : (name : List ℕ) → need_of rs name ≡ need_of os name
  need-same name = λ k. need_at (first_below (count k) (λ j. is_text name (ids j k))) (option_map (λ i. before-same i k) (first_below (count k) (λ j. is_text name (groups j k))))

  -- needs that are known, and have the same names, are the same
  needs-one : (xs ys : List Need) → AreKnown rs xs → AreKnown os ys → map (need_name rs) xs ≡ map (need_name os) ys → xs ≡ ys
  needs-one [] [] a b same = refl
  needs-one [] (y ∷ ys) a b same = absurd (cc same)
  needs-one (x ∷ xs) [] a b same = absurd (cc same)
  needs-one (x ∷ xs) (y ∷ ys) (here, rest) (there, more) same =
      let names : need_name rs x ≡ need_name os y = cc same in
      let left : map (need_name rs) xs ≡ map (need_name os) ys = cc same in
      let first : x ≡ y = same_Some x y (sym here ∙ need-same (need_name rs x) ∙ ap (need_of os) names ∙ there) in
      λ k. first k ∷ needs-one xs ys rest more left k

  pub same-needs : (i : ℕ) → map (need_name rs) (needs_at rs i) ≡ map (need_name os) (needs_at os i) → needs_at rs i ≡ needs_at os i
  same-needs i same = needs-one (needs_at rs i) (needs_at os i) (known rs (needed_names rs i)) (known os (needed_names os i)) same

-- ---- identifiers and groups by their positions

pub id-some : (rs : List Record) (i : ℕ) → i < length rs → id_at rs i ≡ Some (id_text rs i)
id-some [] i less = absurd (omega (arith, less))
id-some (r ∷ rs) zero less = refl
id-some (r ∷ rs) (suc i) less = id-some rs i (omega (arith, less))

none-beyond : (rs : List Record) (i : ℕ) → length rs ≤ i → slice_get rs i ≡ None
none-beyond [] i more = refl
none-beyond (r ∷ rs) zero more = absurd (omega (arith, more))
none-beyond (r ∷ rs) (suc i) more = none-beyond rs i (omega (arith, more))

-- what is equal at each request of two batches of one length is equal at each position
everywhere : {X : Type 0} (of : Option Record → Option X) (rs os : List Record) → length rs ≡ length os → ((i : ℕ) → i < length rs → of (slice_get rs i) ≡ of (slice_get os i)) → (i : ℕ) → of (slice_get rs i) ≡ of (slice_get os i)
everywhere of rs os count each i = elim (cases_lt i (length rs)) [
  | inl less ↦ each i less
  | inr more ↦ ap of (none-beyond rs i more ∙ sym (none-beyond os i (omega (arith, more, count))))
]

-- plans with the same identifiers, groups and names of dependencies are the same
pub same-plan : (rs os : List Record) → length rs ≡ length os → ((i : ℕ) → i < length rs → (group_at rs i ≡ group_at os i) × ((id_text rs i ≡ id_text os i) × (map (need_name rs) (needs_at rs i) ≡ map (need_name os) (needs_at os i)))) → IsSamePlan rs os
same-plan rs os count each =
    let ids : (i : ℕ) → id_at rs i ≡ id_at os i = everywhere (option_map (λ (r : Record). r.id)) rs os count (λ i less. id-some rs i less ∙ ap Some (each i less).1.0 ∙ sym (id-some os i (omega (arith, less, count)))) in
    let groups : (i : ℕ) → group_at rs i ≡ group_at os i = everywhere (option_and_then (λ (r : Record). r.group)) rs os count (λ i less. (each i less).0) in
    record { count = count; ids = ids; groups = groups; needs = λ i less. same-needs rs os count ids groups i (each i less).1.1 }

-- what is equal as a list of the numbers below a bound is equal at each
pub below-one : {X : Type 0} (n m : ℕ) (f g : ℕ → X) (d : X) → list_below n f ≡ list_below m g → (n ≡ m) × ((i : ℕ) → i < n → f i ≡ g i)
below-one n m f g d same =
    let count : n ≡ m = sym (length-list_below n f) ∙ ap length same ∙ length-list_below m g in
    (count, λ i less. sym (get_or-list_below n f i d less) ∙ ap (λ xs. get_or xs i d) same ∙ get_or-list_below m g i d (omega (arith, count, less)))

-- ---- plans as JSON

abbrev members_in : Data → Members
members_in null = no_members
members_in (boolean b) = no_members
members_in (number n) = no_members
members_in (string s) = no_members
members_in (array ds) = no_members
members_in (object ms) = ms

abbrev items_in : Data → Items
items_in null = no_items
items_in (boolean b) = no_items
items_in (number n) = no_items
items_in (string s) = no_items
items_in (array ds) = ds
items_in (object ms) = no_items

abbrev text_in : Data → List ℕ
text_in null = []
text_in (boolean b) = []
text_in (number n) = []
text_in (string s) = s
text_in (array ds) = []
text_in (object ms) = []

abbrev first_in : Members → Data
first_in no_members = null
first_in (member name d ms) = d

abbrev further : Members → Members
further no_members = no_members
further (member name d ms) = ms

abbrev count_of : Members → ℕ
count_of no_members = 0
count_of (member name d ms) = suc (count_of ms)

abbrev list_in : Items → List Data
list_in no_items = []
list_in (item d ds) = d ∷ list_in ds

list-items : (ds : List Data) → list_in (items_of ds) ≡ ds
list-items [] = refl
list-items (d ∷ ds) = ap (λ (rest : List Data). d ∷ rest) (list-items ds)

abbrev shown_request : Option (List ℕ) → List ℕ → ℕ → List Data → Data
shown_request group id level needs =
    object (with_some (codes "group") (option_map string group) (put (codes "id") (string id) (put (codes "level") (number (unsigned level)) (put (codes "needs") (array (items_of needs)) no_members))))

request-one : (group other : Option (List ℕ)) (id id' : List ℕ) (level level' : ℕ) (needs needs' : List Data) → shown_request group id level needs ≡ shown_request other id' level' needs' → (group ≡ other) × ((id ≡ id') × (needs ≡ needs'))
unfolding serde_json_on_literals
request-one None None id id' level level' needs needs' same =
    (refl, (ap (λ (d : Data). text_in (first_in (members_in d))) same, sym (list-items needs) ∙ ap (λ (d : Data). list_in (items_in (first_in (further (further (members_in d)))))) same ∙ list-items needs'))
request-one (Some g) (Some h) id id' level level' needs needs' same = (
  ap (λ (d : Data). Some (text_in (first_in (members_in d)))) same,
  (
    ap (λ (d : Data). text_in (first_in (further (members_in d)))) same,
    sym (list-items needs) ∙ ap (λ (d : Data). list_in (items_in (first_in (further (further (further (members_in d))))))) same ∙ list-items needs',
  ),
)
request-one None (Some h) id id' level level' needs needs' same = absurd (omega (arith, ap (λ (d : Data). count_of (members_in d)) same))
request-one (Some g) None id id' level level' needs needs' same = absurd (omega (arith, ap (λ (d : Data). count_of (members_in d)) same))

planned-one : (rs os : List Record) (i : ℕ) → planned rs i ≡ planned os i → (group_at rs i ≡ group_at os i) × ((id_text rs i ≡ id_text os i) × (need_values rs (needs_at rs i) ≡ need_values os (needs_at os i)))
unfolding planned
planned-one rs os i same = request-one (group_at rs i) (group_at os i) (id_text rs i) (id_text os i) (level_at rs i) (level_at os i) (need_values rs (needs_at rs i)) (need_values os (needs_at os i)) same

requests-one : (ds es : List Data) → object (put (codes "requests") (array (items_of ds)) no_members) ≡ object (put (codes "requests") (array (items_of es)) no_members) → ds ≡ es
requests-one ds es same = sym (list-items ds) ∙ ap (λ (d : Data). list_in (items_in (first_in (members_in d)))) same ∙ list-items es

texts-of : (rs : List Record) (needs : List Need) → map text_in (need_values rs needs) ≡ map (need_name rs) needs
texts-of rs [] = refl
texts-of rs (need ∷ needs) = ap (λ (rest : List (List ℕ)). need_name rs need ∷ rest) (texts-of rs needs)

pub plan-one : (rs os : List Record) → plan_value rs ≡ plan_value os → IsSamePlan rs os
plan-one rs os same =
    let (count, each) = below-one (length rs) (length os) (planned rs) (planned os) null (requests-one (list_below (length rs) (planned rs)) (list_below (length os) (planned os)) same) in
    same-plan rs os count (λ i less.
    let (group, (id, needs)) = planned-one rs os i (each i less) in
    (group, (id, sym (texts-of rs (needs_at rs i)) ∙ ap (map text_in) needs ∙ texts-of os (needs_at os i))))
