-- The tokens of a value come before those of what follows it.
use Rattle.std.proofs.Common.{◌≡◌, ◌∙◌, ℕ, List, [], ◌∷◌, ◌++◌, Bool, true, false, refl, sym, ap, ap₂, subst, append_assoc, append-nil}
use Rattle.std.specs.Prelude.{⊤}
use Rattle.std.proofs.lemmas.Bool.{false≢true}
use Rattle.json.specs.Align.{is_good}
use Rattle.json.specs.Json as json
use Rattle.json.specs.Lex.{Lexeme, token, comma, colon, between, lex, Place, fresh, after_value, after_comma, after_key, begins_colon, may_begin, may_close, if_allowed, place_token, punctuate, tokens}
use Rattle.json.specs.Token.{Token, begin_object, end_object, begin_array, end_array, key, string, number, boolean, null, bad}
use Rattle.json.specs.Tree.{json_tokens, items_tokens, members_tokens}
use Rattle.json.specs.Word.{ends_word}
use Rattle.odb_reply.proofs.LexLemmas.{AreGood, lex-joined}

-- no token is a fault
abbrev pub HaveNoFault : List Token → Type 0
HaveNoFault [] = ⊤
HaveNoFault (t ∷ ts) = (is_good t ≡ true) × HaveNoFault ts

-- where a lexeme leaves the text, by whether a colon follows
abbrev after_token : Token → Bool → Place
after_token begin_object c = fresh
after_token end_object c = after_value
after_token begin_array c = fresh
after_token end_array c = after_value
after_token (key s) c = fresh
after_token (string s) true = after_key
after_token (string s) false = after_value
after_token (number s) c = after_value
after_token (boolean b) c = after_value
after_token null c = after_value
after_token bad c = fresh

abbrev after_lexemes : Place → List Lexeme → Place
after_lexemes p [] = p
after_lexemes p (token t ∷ ls) = after_lexemes (after_token t (begins_colon ls)) ls
after_lexemes p (comma ∷ ls) = after_lexemes after_comma ls
after_lexemes p (colon ∷ ls) = after_lexemes fresh ls

at-token : (p : Place) (t : Token) (ls : List Lexeme) → punctuate p (token t ∷ ls) ≡ place_token p t (begins_colon ls) (λ next. punctuate next ls)
unfolding punctuate
at-token fresh t ls = refl
at-token after_value t ls = refl
at-token after_comma t ls = refl
at-token after_key t ls = refl

-- whether a value is complete before the text goes on
abbrev stands : Place → Bool
stands fresh = false
stands after_value = true
stands after_comma = true
stands after_key = false

abbrev closes : Token → Bool
closes begin_object = false
closes end_object = true
closes begin_array = false
closes end_array = true
closes (key s) = false
closes (string s) = true
closes (number s) = true
closes (boolean b) = true
closes null = true
closes bad = true

abbrev ends_value : Bool → List Token → Bool
ends_value b [] = b
ends_value b (t ∷ ts) = ends_value (closes t) ts

-- ---- one token

-- what holds of a token that may stand there, before what k makes of the text after it
record Placed (p : Place) (t : Token) (c : Bool) (k : Place → List Token) (ts : List Token) : Type 0 where
  good : is_good t ≡ true
  rest : HaveNoFault (k (after_token t c))
  joined : (other : Place → List Token) (more : List Token) → other (after_token t c) ≡ k (after_token t c) ++ more → place_token p t c other ≡ ts ++ more
  value : ends_value (stands p) ts ≡ ends_value (stands (after_token t c)) (k (after_token t c))

record Allowed (b : Bool) (t : Token) (k : Place → List Token) (next : Place) : Type 0 where
  good : is_good t ≡ true
  rest : HaveNoFault (k next)
  joined : (other : Place → List Token) (more : List Token) → other next ≡ k next ++ more → if_allowed b t other next ≡ if_allowed b t k next ++ more
  value : (v : Bool) → ends_value v (if_allowed b t k next) ≡ ends_value (closes t) (k next)

allowed : (b : Bool) (t : Token) (k : Place → List Token) (next : Place) → HaveNoFault (if_allowed b t k next) → Allowed b t k next
allowed true t k next none = record { good = none.0; rest = none.1; joined = λ other more same. ap (λ ts. t ∷ ts) same; value = λ v. refl }
allowed false t k next none = absurd (false≢true none.0)

placed : (p : Place) (t : Token) (c : Bool) (k : Place → List Token) → HaveNoFault (place_token p t c k) → Placed p t c k (place_token p t c k)
placed p begin_object c k none = let is = allowed (may_begin p) begin_object k fresh none in record { good = is.good; rest = is.rest; joined = is.joined; value = is.value (stands p) }
placed p end_object c k none = let is = allowed (may_close p) end_object k after_value none in record { good = is.good; rest = is.rest; joined = is.joined; value = is.value (stands p) }
placed p begin_array c k none = let is = allowed (may_begin p) begin_array k fresh none in record { good = is.good; rest = is.rest; joined = is.joined; value = is.value (stands p) }
placed p end_array c k none = let is = allowed (may_close p) end_array k after_value none in record { good = is.good; rest = is.rest; joined = is.joined; value = is.value (stands p) }
placed p (key s) c k none = absurd (false≢true none.0)
placed p (string s) true k none = let is = allowed (may_begin p) (key s) k after_key none in record { good = refl; rest = is.rest; joined = is.joined; value = is.value (stands p) }
placed p (string s) false k none = let is = allowed (may_begin p) (string s) k after_value none in record { good = is.good; rest = is.rest; joined = is.joined; value = is.value (stands p) }
placed p (number s) c k none = let is = allowed (may_begin p) (number s) k after_value none in record { good = is.good; rest = is.rest; joined = is.joined; value = is.value (stands p) }
placed p (boolean b) c k none = let is = allowed (may_begin p) (boolean b) k after_value none in record { good = is.good; rest = is.rest; joined = is.joined; value = is.value (stands p) }
placed p null c k none = let is = allowed (may_begin p) null k after_value none in record { good = is.good; rest = is.rest; joined = is.joined; value = is.value (stands p) }
placed p bad c k none = absurd (false≢true none.0)

-- ---- all lexemes

no-fault : (ts : List Token) → HaveNoFault (bad ∷ ts) → ⊥
no-fault ts none = false≢true none.0

same-colon : (ls more : List Lexeme) → begins_colon more ≡ false → begins_colon (ls ++ more) ≡ begins_colon ls
same-colon [] more none = none
same-colon (token t ∷ ls) more none = refl
same-colon (comma ∷ ls) more none = refl
same-colon (colon ∷ ls) more none = refl

-- lexemes without a fault, by the place where they begin
record Reads (p : Place) (ls : List Lexeme) : Type 0 where
  good : AreGood ls
  joined : (more : List Lexeme) → begins_colon more ≡ false → punctuate p (ls ++ more) ≡ punctuate p ls ++ punctuate (after_lexemes p ls) more
  value : ends_value (stands p) (punctuate p ls) ≡ true → after_lexemes p ls ≡ after_value

token-reads : (p : Place) (t : Token) (ls : List Lexeme) → HaveNoFault (place_token p t (begins_colon ls) (λ next. punctuate next ls)) → ((q : Place) → HaveNoFault (punctuate q ls) → Reads q ls) → Reads p (token t ∷ ls)
token-reads p t ls none each =
    let c = begins_colon ls in
    let is = placed p t c (λ next. punctuate next ls) none in
    let next = each (after_token t c) is.rest in
    record {
      good = (is.good, next.good);
      joined = λ more no_colon.
          at-token p t (ls ++ more) ∙ ap (λ b. place_token p t b (λ q. punctuate q (ls ++ more))) (same-colon ls more no_colon)
          ∙ is.joined (λ q. punctuate q (ls ++ more)) (punctuate (after_lexemes (after_token t c) ls) more) (next.joined more no_colon)
          ∙ ap (λ ts. ts ++ punctuate (after_lexemes (after_token t c) ls) more) (sym (at-token p t ls));
      value = λ complete. next.value (sym is.value ∙ sym (ap (ends_value (stands p)) (at-token p t ls)) ∙ complete);
    }

reads : (ls : List Lexeme) (p : Place) → HaveNoFault (punctuate p ls) → Reads p ls
unfolding punctuate
reads [] fresh none = record { good = tt; joined = λ more no_colon. refl; value = λ complete. absurd (false≢true complete) }
reads [] after_value none = record { good = tt; joined = λ more no_colon. refl; value = λ complete. refl }
reads [] after_comma none = absurd (no-fault [] none)
reads [] after_key none = absurd (no-fault [] none)
reads (token t ∷ ls) p none = token-reads p t ls (subst HaveNoFault (at-token p t ls) none) (λ q rest. reads ls q rest)
reads (comma ∷ ls) fresh none = absurd (no-fault [] none)
reads (comma ∷ ls) after_value none = let next = reads ls after_comma none in record { good = next.good; joined = next.joined; value = next.value }
reads (comma ∷ ls) after_comma none = absurd (no-fault [] none)
reads (comma ∷ ls) after_key none = absurd (no-fault [] none)
reads (colon ∷ ls) fresh none = absurd (no-fault [] none)
reads (colon ∷ ls) after_value none = absurd (no-fault [] none)
reads (colon ∷ ls) after_comma none = absurd (no-fault [] none)
reads (colon ∷ ls) after_key none = let next = reads ls fresh none in record { good = next.good; joined = next.joined; value = next.value }

-- ---- the tokens of a value

mutual
  value-ends : (j : json.Json) (b : Bool) (ts : List Token) → ends_value b (json_tokens j ++ ts) ≡ ends_value true ts
  value-ends json.null b ts = refl
  value-ends (json.boolean v) b ts = refl
  value-ends (json.number s) b ts = refl
  value-ends (json.string s) b ts = refl
  value-ends (json.array js) b ts = items-end js false ts
  value-ends (json.object ms) b ts = members-end ms false ts

  items-end : (js : json.Items) (b : Bool) (ts : List Token) → ends_value b (items_tokens js ++ ts) ≡ ends_value true ts
  items-end json.no_items b ts = refl
  items-end (json.item j js) b ts = ap (ends_value b) (append_assoc (json_tokens j) (items_tokens js) ts) ∙ value-ends j b (items_tokens js ++ ts) ∙ items-end js true ts

  members-end : (ms : json.Members) (b : Bool) (ts : List Token) → ends_value b (members_tokens ms ++ ts) ≡ ends_value true ts
  members-end json.no_members b ts = refl
  members-end (json.member k j ms) b ts = ap (ends_value false) (append_assoc (json_tokens j) (members_tokens ms) ts) ∙ value-ends j false (members_tokens ms ++ ts) ∙ members-end ms true ts

no-fault-join : (ts us : List Token) → HaveNoFault ts → HaveNoFault us → HaveNoFault (ts ++ us)
no-fault-join [] us first second = second
no-fault-join (t ∷ ts) us first second = (first.0, no-fault-join ts us first.1 second)

mutual
  value-good : (j : json.Json) → HaveNoFault (json_tokens j)
  value-good json.null = (refl, tt)
  value-good (json.boolean b) = (refl, tt)
  value-good (json.number s) = (refl, tt)
  value-good (json.string s) = (refl, tt)
  value-good (json.array js) = (refl, items-good js)
  value-good (json.object ms) = (refl, members-good ms)

  items-good : (js : json.Items) → HaveNoFault (items_tokens js)
  items-good json.no_items = (refl, tt)
  items-good (json.item j js) = no-fault-join (json_tokens j) (items_tokens js) (value-good j) (items-good js)

  members-good : (ms : json.Members) → HaveNoFault (members_tokens ms)
  members-good json.no_members = (refl, tt)
  members-good (json.member k j ms) = (refl, no-fault-join (json_tokens j) (members_tokens ms) (value-good j) (members-good ms))

ends-alone : (j : json.Json) → ends_value false (json_tokens j) ≡ true
ends-alone j = ap (ends_value false) (sym (append-nil (json_tokens j))) ∙ value-ends j false []

-- the text of a value, and then the rest
pub value-joined : (text rest : List ℕ) (j : json.Json) → tokens text ≡ json_tokens j → ends_word rest ≡ true → begins_colon (lex between rest) ≡ false
    → punctuate fresh (lex between (text ++ rest)) ≡ json_tokens j ++ punctuate after_value (lex between rest)
value-joined text rest j same ended no_colon =
    let ls = lex between text in
    let is = reads ls fresh (subst HaveNoFault (sym same) (value-good j)) in
    let place = is.value (ap (ends_value false) same ∙ ends-alone j) in
    ap (punctuate fresh) (lex-joined text rest is.good ended) ∙ is.joined (lex between rest) no_colon ∙ ap₂ (λ ts p. ts ++ punctuate p (lex between rest)) same place
