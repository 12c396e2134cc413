-- A place for a value in a tree: the tokens before and after it, and that a null among the tokens of a tree is in such a place.
use Rattle.std.proofs.Common.{◌≡◌, ◌∙◌, ℕ, max, List, [], ◌∷◌, ◌++◌, unwrap_or, ◌⊎◌, inl, inr, refl, sym, ap, ap₂, arith, append_assoc, append-nil}
use Rattle.json.specs.Token.{Token, begin_object, end_object, begin_array, end_array, key, string, number, boolean, null}
use Rattle.json.specs.Json as json
use Rattle.json.specs.Tree.{json_tokens, items_tokens, members_tokens, depth}
use Rattle.json.proofs.Printed.Trees.{value-json_tokens}
use Rattle.odb_spans.specs.Parts.{append_items, append_members}
use Rattle.odb_spans.proofs.FillLemmas.{nested}

pub data Hole : Type 0 where
  here : Hole
  in_item : json.Items → Hole → json.Items → Hole
  in_member : json.Members → List ℕ → Hole → json.Members → Hole

-- the tree with a value in the place
abbrev pub fill : Hole → json.Json → json.Json
fill here i = i
fill (in_item earlier hole later) i = json.array (append_items earlier (json.item (fill hole i) later))
fill (in_member earlier k hole later) i = json.object (append_members earlier (json.member k (fill hole i) later))

-- ---- the tokens round it

abbrev pub items_before : json.Items → List Token
items_before json.no_items = []
items_before (json.item j js) = json_tokens j ++ items_before js

abbrev pub members_before : json.Members → List Token
members_before json.no_members = []
members_before (json.member k j ms) = key k ∷ (json_tokens j ++ members_before ms)

abbrev pub before : Hole → List Token
before here = []
before (in_item earlier hole later) = begin_array ∷ (items_before earlier ++ before hole)
before (in_member earlier k hole later) = begin_object ∷ (members_before earlier ++ (key k ∷ before hole))

abbrev pub after : Hole → List Token
after here = []
after (in_item earlier hole later) = after hole ++ items_tokens later
after (in_member earlier k hole later) = after hole ++ members_tokens later

items-round : (earlier : json.Items) (j : json.Json) (later : json.Items) → items_tokens (append_items earlier (json.item j later)) ≡ items_before earlier ++ (json_tokens j ++ items_tokens later)
items-round json.no_items j later = refl
items-round (json.item i earlier) j later = ap (λ l. json_tokens i ++ l) (items-round earlier j later) ∙ sym (append_assoc (json_tokens i) (items_before earlier) (json_tokens j ++ items_tokens later))

members-round : (earlier : json.Members) (k : List ℕ) (j : json.Json) (later : json.Members) → members_tokens (append_members earlier (json.member k j later)) ≡ members_before earlier ++ (key k ∷ (json_tokens j ++ members_tokens later))
members-round json.no_members k j later = refl
members-round (json.member n i earlier) k j later =
    ap (λ l. key n ∷ (json_tokens i ++ l)) (members-round earlier k j later) ∙ ap (λ l. key n ∷ l) (sym (append_assoc (json_tokens i) (members_before earlier) (key k ∷ (json_tokens j ++ members_tokens later))))

pub spells : (hole : Hole) (i : json.Json) → json_tokens (fill hole i) ≡ before hole ++ (json_tokens i ++ after hole)
spells here i = sym (append-nil (json_tokens i))
spells (in_item earlier hole later) i =
    ap (λ l. begin_array ∷ l)
    (items-round earlier (fill hole i) later ∙ ap (λ l. items_before earlier ++ (l ++ items_tokens later)) (spells hole i) ∙ nested (items_before earlier) (before hole) (json_tokens i) (after hole) (items_tokens later))
spells (in_member earlier k hole later) i =
    ap (λ l. begin_object ∷ l)
    (members-round earlier k (fill hole i) later ∙ ap (λ l. members_before earlier ++ (key k ∷ (l ++ members_tokens later))) (spells hole i)
    ∙ nested (members_before earlier) (key k ∷ before hole) (json_tokens i) (after hole) (members_tokens later))

-- two trees with the same tokens are one
pub same-tree : (j i : json.Json) → json_tokens j ≡ json_tokens i → j ≡ i
same-tree j i e =
    let n = max (depth j) (depth i) in
    let one = value-json_tokens j n [] (omega arith) in
    let other = value-json_tokens i n [] (omega arith) in
    ap (λ o. (unwrap_or {T = json.Json × List Token} o (i, [])).0) (sym one ∙ ap (λ ts. json.value n (ts ++ [])) e ∙ other)

-- ---- where a token lies

-- in the first of two lists
record Inside (xs ys before : List Token) (z : Token) (zs : List Token) : Type 0 where
  more : List Token
  is : xs ≡ before ++ z ∷ more
  after : zs ≡ more ++ ys

-- in the second
record Past (xs ys before : List Token) (z : Token) (zs : List Token) : Type 0 where
  more : List Token
  is : before ≡ xs ++ more
  after : ys ≡ more ++ z ∷ zs

where-lies : (xs ys before : List Token) (z : Token) (zs : List Token) → xs ++ ys ≡ before ++ z ∷ zs → Inside xs ys before z zs ⊎ Past xs ys before z zs
where-lies [] ys before z zs e = inr (record { more = before; is = refl; after = e })
where-lies (x ∷ xs) ys [] z zs e = let first : x ≡ z = cc (e) in let others : xs ++ ys ≡ zs = cc (e) in inl (record { more = xs; is = ap (λ t. t ∷ xs) first; after = sym others })
where-lies (x ∷ xs) ys (b ∷ before) z zs e =
    let first : x ≡ b = cc (e) in
    let others : xs ++ ys ≡ before ++ z ∷ zs = cc (e) in
    elim (where-lies xs ys before z zs others) [
      | inl h ↦ inl (record { more = h.more; is = ap₂ (λ t l. t ∷ l) first h.is; after = h.after })
      | inr h ↦ inr (record { more = h.more; is = ap₂ (λ t l. t ∷ l) (sym first) h.is; after = h.after })
    ]

-- the only token
record IsAlone (t z : Token) (before zs : List Token) : Type 0 where
  none : before ≡ []
  is : t ≡ z
  last : zs ≡ []

alone : (t z : Token) (before zs : List Token) → t ∷ [] ≡ before ++ z ∷ zs → IsAlone t z before zs
alone t z [] zs e = record { none = refl; is = cc (e); last = cc (e) }
alone t z (b ∷ []) zs e = absurd (cc (e))
alone t z (b ∷ c ∷ before) zs e = absurd (cc (e))

-- ---- the place of a null

pub record HoleIn (j : json.Json) (front back : List Token) : Type 0 where
  pub hole : Hole
  pub is : j ≡ fill hole json.null
  pub front_is : front ≡ before hole
  pub back_is : back ≡ after hole

record ItemsHole (js : json.Items) (front back : List Token) : Type 0 where
  earlier : json.Items
  hole : Hole
  later : json.Items
  is : js ≡ append_items earlier (json.item (fill hole json.null) later)
  front_is : front ≡ items_before earlier ++ before hole
  back_is : back ≡ after hole ++ items_tokens later

record MembersHole (ms : json.Members) (front back : List Token) : Type 0 where
  earlier : json.Members
  name : List ℕ
  hole : Hole
  later : json.Members
  is : ms ≡ append_members earlier (json.member name (fill hole json.null) later)
  front_is : front ≡ members_before earlier ++ (key name ∷ before hole)
  back_is : back ≡ after hole ++ members_tokens later

mutual
  pub find-json : (j : json.Json) (front back : List Token) → json_tokens j ≡ front ++ null ∷ back → HoleIn j front back
  find-json json.null front back e = let h = alone null null front back e in record { hole = here; is = refl; front_is = h.none; back_is = h.last }
  find-json (json.boolean b) front back e = absurd (cc ((alone (boolean b) null front back e).is))
  find-json (json.number s) front back e = absurd (cc ((alone (number s) null front back e).is))
  find-json (json.string s) front back e = absurd (cc ((alone (string s) null front back e).is))
  find-json (json.array js) [] back e = absurd (cc (e))
  find-json (json.array js) (b ∷ front) back e =
      let first : begin_array ≡ b = cc (e) in
      let others : items_tokens js ≡ front ++ null ∷ back = cc (e) in
      let h = find-items js front back others in
      record { hole = in_item h.earlier h.hole h.later; is = ap json.array h.is; front_is = ap₂ (λ t l. t ∷ l) (sym first) h.front_is; back_is = h.back_is }
  find-json (json.object ms) [] back e = absurd (cc (e))
  find-json (json.object ms) (b ∷ front) back e =
      let first : begin_object ≡ b = cc (e) in
      let others : members_tokens ms ≡ front ++ null ∷ back = cc (e) in
      let h = find-members ms front back others in
      record { hole = in_member h.earlier h.name h.hole h.later; is = ap json.object h.is; front_is = ap₂ (λ t l. t ∷ l) (sym first) h.front_is; back_is = h.back_is }

  find-items : (js : json.Items) (front back : List Token) → items_tokens js ≡ front ++ null ∷ back → ItemsHole js front back
  find-items json.no_items front back e = absurd (cc ((alone end_array null front back e).is))
  find-items (json.item j js) front back e =
      elim (where-lies (json_tokens j) (items_tokens js) front null back e) [
        | inl h ↦ (let g = find-json j front h.more h.is in
            record { earlier = json.no_items; hole = g.hole; later = js; is = ap (λ i. json.item i js) g.is; front_is = g.front_is; back_is = h.after ∙ ap (λ l. l ++ items_tokens js) g.back_is })
        | inr h ↦ (let g = find-items js h.more back h.after in
            record {
              earlier = json.item j g.earlier;
              hole = g.hole;
              later = g.later;
              is = ap (json.item j) g.is;
              front_is = h.is ∙ ap (λ l. json_tokens j ++ l) g.front_is ∙ sym (append_assoc (json_tokens j) (items_before g.earlier) (before g.hole));
              back_is = g.back_is;
            })
      ]

  find-members : (ms : json.Members) (front back : List Token) → members_tokens ms ≡ front ++ null ∷ back → MembersHole ms front back
  find-members json.no_members front back e = absurd (cc ((alone end_object null front back e).is))
  find-members (json.member k j ms) [] back e = absurd (cc (e))
  find-members (json.member k j ms) (b ∷ front) back e =
      let first : key k ≡ b = cc (e) in
      let others : json_tokens j ++ members_tokens ms ≡ front ++ null ∷ back = cc (e) in
      elim (where-lies (json_tokens j) (members_tokens ms) front null back others) [
        | inl h ↦ (let g = find-json j front h.more h.is in
            record {
              earlier = json.no_members;
              name = k;
              hole = g.hole;
              later = ms;
              is = ap (λ i. json.member k i ms) g.is;
              front_is = ap₂ (λ t l. t ∷ l) (sym first) g.front_is;
              back_is = h.after ∙ ap (λ l. l ++ members_tokens ms) g.back_is;
            })
        | inr h ↦ (let g = find-members ms h.more back h.after in
            record {
              earlier = json.member k j g.earlier;
              name = g.name;
              hole = g.hole;
              later = g.later;
              is = ap (json.member k j) g.is;
              front_is = ap₂ (λ t l. t ∷ l) (sym first) (h.is ∙ ap (λ l. json_tokens j ++ l) g.front_is ∙ sym (append_assoc (json_tokens j) (members_before g.earlier) (key g.name ∷ before g.hole)));
              back_is = g.back_is;
            })
      ]
