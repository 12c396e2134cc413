-- The tokens of a value, and where they close.
use Rattle.std.proofs.Common.{◌≡◌, ℕ, zero, suc, Bool, true, false, ◌&&◌, List, [], ◌∷◌, ◌++◌, length, Option, Some, None, option_and_then, refl, sym, ap, ◌∙◌, subst, append_assoc, append-nil}
use Rattle.std.specs.Prelude.{⊤}
use Rattle.json.specs.Token.{Token}
use Rattle.json.specs.Align.{is_good}
use Rattle.json.specs.Json.{Json, null, boolean, number, string, array, object, Items, no_items, item, Members, no_members, member, Parse, parse_map, after_end_array, read_key, items_step, members_step, items, members, value_with, value}
use Rattle.json.specs.Tree.{json_tokens, items_tokens, members_tokens}
use Rattle.odb_spans.specs.Extents.{weight, level}

-- what was read has these tokens, and then come the others
abbrev Spells : {A : Type 0} → (A → List Token) → List Token → Option (A × List Token) → Type 0
Spells spell ts None = ⊤
Spells spell ts (Some p) = ts ≡ spell p.0 ++ p.1

opened-array : (ts : List Token) (o : Option (Items × List Token)) → Spells items_tokens ts o → Spells json_tokens (Token.begin_array ∷ ts) (parse_map array o)
opened-array ts None h = tt
opened-array ts (Some p) h = ap (λ l. Token.begin_array ∷ l) h

opened-object : (ts : List Token) (o : Option (Members × List Token)) → Spells members_tokens ts o → Spells json_tokens (Token.begin_object ∷ ts) (parse_map object o)
opened-object ts None h = tt
opened-object ts (Some p) h = ap (λ l. Token.begin_object ∷ l) h

spells-first : (a : Parse Items) (o : Parse Members) → ((ts : List Token) → Spells items_tokens ts (a ts)) → ((ts : List Token) → Spells members_tokens ts (o ts)) → (ts : List Token) → Spells json_tokens ts (value_with a o ts)
spells-first a o p q [] = tt
spells-first a o p q (Token.begin_object ∷ ts) = opened-object ts (o ts) (q ts)
spells-first a o p q (Token.end_object ∷ ts) = tt
spells-first a o p q (Token.begin_array ∷ ts) = opened-array ts (a ts) (p ts)
spells-first a o p q (Token.end_array ∷ ts) = tt
spells-first a o p q (Token.key s ∷ ts) = tt
spells-first a o p q (Token.string s ∷ ts) = refl
spells-first a o p q (Token.number s ∷ ts) = refl
spells-first a o p q (Token.boolean b ∷ ts) = refl
spells-first a o p q (Token.null ∷ ts) = refl
spells-first a o p q (Token.bad ∷ ts) = tt

module _ (read : Parse Json) (spells : (ts : List Token) → Spells json_tokens ts (read ts)) where
  more-items : (j : Json) (ts us : List Token) (o : Option (Items × List Token)) → ts ≡ json_tokens j ++ us → Spells items_tokens us o → Spells items_tokens ts (parse_map (item j) o)
  more-items j ts us None e h = tt
  more-items j ts us (Some p) e h = e ∙ ap (λ l. json_tokens j ++ l) h ∙ sym (append_assoc (json_tokens j) (items_tokens p.0) p.1)

  next-item : (more : Parse Items) → ((ts : List Token) → Spells items_tokens ts (more ts)) → (ts : List Token) (o : Option (Json × List Token)) → Spells json_tokens ts o
      → Spells items_tokens ts (option_and_then (λ p. parse_map (item p.0) (more p.1)) o)
  next-item more h ts None e = tt
  next-item more h ts (Some p) e = more-items p.0 ts p.1 (more p.1) e (h p.1)

  one-item : (more : Parse Items) → ((ts : List Token) → Spells items_tokens ts (more ts)) → (ts : List Token) → Spells items_tokens ts (items_step read more ts (after_end_array ts))
  one-item more h [] = next-item more h [] (read []) (spells [])
  one-item more h (Token.begin_object ∷ ts) = next-item more h _ _ (spells (Token.begin_object ∷ ts))
  one-item more h (Token.end_object ∷ ts) = next-item more h _ _ (spells (Token.end_object ∷ ts))
  one-item more h (Token.begin_array ∷ ts) = next-item more h _ _ (spells (Token.begin_array ∷ ts))
  one-item more h (Token.end_array ∷ ts) = refl
  one-item more h (Token.key s ∷ ts) = next-item more h _ _ (spells (Token.key s ∷ ts))
  one-item more h (Token.string s ∷ ts) = next-item more h _ _ (spells (Token.string s ∷ ts))
  one-item more h (Token.number s ∷ ts) = next-item more h _ _ (spells (Token.number s ∷ ts))
  one-item more h (Token.boolean b ∷ ts) = next-item more h _ _ (spells (Token.boolean b ∷ ts))
  one-item more h (Token.null ∷ ts) = next-item more h _ _ (spells (Token.null ∷ ts))
  one-item more h (Token.bad ∷ ts) = next-item more h _ _ (spells (Token.bad ∷ ts))

  spells-items : (n : ℕ) (ts : List Token) → Spells items_tokens ts (items read n ts)
  unfolding items
  spells-items zero ts = tt
  spells-items (suc n) ts = one-item (items read n) (spells-items n) ts

  more-members : (k : List ℕ) (j : Json) (ts us : List Token) (o : Option (Members × List Token)) → ts ≡ json_tokens j ++ us → Spells members_tokens us o → Spells members_tokens (Token.key k ∷ ts) (parse_map (member k j) o)
  more-members k j ts us None e h = tt
  more-members k j ts us (Some p) e h = ap (λ l. Token.key k ∷ l) (e ∙ ap (λ l. json_tokens j ++ l) h ∙ sym (append_assoc (json_tokens j) (members_tokens p.0) p.1))

  next-member : (more : Parse Members) → ((ts : List Token) → Spells members_tokens ts (more ts)) → (k : List ℕ) (ts : List Token) (o : Option (Json × List Token)) → Spells json_tokens ts o
      → Spells members_tokens (Token.key k ∷ ts) (option_and_then (λ p. parse_map (member k p.0) (more p.1)) o)
  next-member more h k ts None e = tt
  next-member more h k ts (Some p) e = more-members k p.0 ts p.1 (more p.1) e (h p.1)

  one-member : (more : Parse Members) → ((ts : List Token) → Spells members_tokens ts (more ts)) → (ts : List Token) → Spells members_tokens ts (option_and_then (λ p. members_step read more p.0 p.1) (read_key ts))
  one-member more h [] = tt
  one-member more h (Token.begin_object ∷ ts) = tt
  one-member more h (Token.end_object ∷ ts) = refl
  one-member more h (Token.begin_array ∷ ts) = tt
  one-member more h (Token.end_array ∷ ts) = tt
  one-member more h (Token.key s ∷ ts) = next-member more h s ts (read ts) (spells ts)
  one-member more h (Token.string s ∷ ts) = tt
  one-member more h (Token.number s ∷ ts) = tt
  one-member more h (Token.boolean b ∷ ts) = tt
  one-member more h (Token.null ∷ ts) = tt
  one-member more h (Token.bad ∷ ts) = tt

  spells-members : (n : ℕ) (ts : List Token) → Spells members_tokens ts (members read n ts)
  unfolding members
  spells-members zero ts = tt
  spells-members (suc n) ts = one-member (members read n) (spells-members n) ts

spells-value : (d : ℕ) (ts : List Token) → Spells json_tokens ts (value d ts)
unfolding value
spells-value zero ts = spells-first (λ ts. None) (λ ts. None) (λ ts. tt) (λ ts. tt) ts
spells-value (suc d) ts =
    spells-first (λ ts. items (value d) (length ts) ts) (λ ts. members (value d) (length ts) ts)
    (λ ts. spells-items (value d) (spells-value d) (length ts) ts) (λ ts. spells-members (value d) (spells-value d) (length ts) ts) ts

-- what is read as a value has its tokens
pub value-spells : (d : ℕ) (ts us : List Token) (j : Json) → value d ts ≡ Some (j, us) → ts ≡ json_tokens j ++ us
value-spells d ts us j e = subst (Spells json_tokens ts) e (spells-value d ts)

-- the tokens are good and close n brackets, the last of them at their end
abbrev pub closes_all : ℕ → List Token → Bool
closes_all zero [] = true
closes_all zero (t ∷ ts) = false
closes_all (suc n) [] = false
closes_all (suc n) (t ∷ ts) = is_good t && closes_all (level (weight t) n) ts

mutual
  closes-json : (j : Json) (n : ℕ) (ts : List Token) → closes_all (suc n) (json_tokens j ++ ts) ≡ closes_all (suc n) ts
  closes-json null n ts = refl
  closes-json (boolean b) n ts = refl
  closes-json (number s) n ts = refl
  closes-json (string s) n ts = refl
  closes-json (array js) n ts = closes-items js (suc n) ts
  closes-json (object ms) n ts = closes-members ms (suc n) ts

  closes-items : (js : Items) (n : ℕ) (ts : List Token) → closes_all (suc n) (items_tokens js ++ ts) ≡ closes_all n ts
  closes-items no_items n ts = refl
  closes-items (item j js) n ts =
      ap (closes_all (suc n)) (append_assoc (json_tokens j) (items_tokens js) ts) ∙ closes-json j n (items_tokens js ++ ts) ∙ closes-items js n ts

  closes-members : (ms : Members) (n : ℕ) (ts : List Token) → closes_all (suc n) (members_tokens ms ++ ts) ≡ closes_all n ts
  closes-members no_members n ts = refl
  closes-members (member k j ms) n ts =
      ap (closes_all (suc n)) (append_assoc (json_tokens j) (members_tokens ms) ts) ∙ closes-json j n (members_tokens ms ++ ts) ∙ closes-members ms n ts

pub items-close : (js : Items) → closes_all 1 (items_tokens js) ≡ true
items-close js = ap (closes_all 1) (sym (append-nil (items_tokens js))) ∙ closes-items js 0 []

pub members-close : (ms : Members) → closes_all 1 (members_tokens ms) ≡ true
members-close ms = ap (closes_all 1) (sym (append-nil (members_tokens ms))) ∙ closes-members ms 0 []
