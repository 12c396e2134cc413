-- The text of an object begins with `{`, that of an array with `[`, and that of no other value does.
use Rattle.std.proofs.Common.{◌≡◌, ◌∙◌, ℕ, ◌+◌, ◌<◌, ◌==◌, List, [], ◌∷◌, ◌++◌, length, get_or, Bool, true, false, cond, Some, None, refl, sym, ap, arith}
use Rattle.std.specs.Prelude.{IsUtf8}
use Rattle.std.proofs.lemmas.Bool.{true≢false, eqb-true}
use Rattle.std.proofs.lemmas.Str.{IsCharBoundary-after_ascii}
use Rattle.json.specs.Token.{Token, begin_object, end_object, begin_array, end_array, key, string, number, boolean, null, bad}
use Rattle.json.specs.Align.{is_blank, is_good}
use Rattle.json.specs.Lex.{Lexeme, token, comma, colon, Class, quote, backslash, operator, space, other, class, operator_lexeme, Place, fresh, after_value, after_comma, after_key, begins_colon, may_begin, if_allowed, place_token, punctuate}
use Rattle.json.specs.Json as json
use Rattle.json.specs.Find.{get}
use Rattle.json.specs.Tree.{json_tokens, items_tokens, members_tokens}
use Rattle.odb_spans.specs.Extents.{opens, weight}
use Rattle.odb_spans.specs.Cuts.{IsCut}
use Rattle.odb_spans.specs.Walks.{lexemes_from, tokens_from}
use Rattle.odb_spans.specs.Parts.{HasItems, HasMembers, HasValue, items_in}
use Rattle.odb_spans.proofs.CutLemmas.{clear-byte, cut-byte}
use Rattle.odb_spans.proofs.LexLemmas.{string-flat, word-flat}
use Rattle.odb_spans.proofs.PlaceLemmas.{at-token, never-bad, no-token, is-allowed}
use Rattle.odb_spans.proofs.PartLemmas.{value-within}
use Rattle.odb_spans.proofs.WalkLemmas.{closes≢opens, flat≢opens, lexemes-at, placed-weight, weight-of-first}

-- ---- what kind of value has which first token

abbrev is_brace : Token → Bool
is_brace begin_object = true
is_brace end_object = false
is_brace begin_array = false
is_brace end_array = false
is_brace (key s) = false
is_brace (string s) = false
is_brace (number s) = false
is_brace (boolean b) = false
is_brace null = false
is_brace bad = false

abbrev is_bracket : Token → Bool
is_bracket begin_object = false
is_bracket end_object = false
is_bracket begin_array = true
is_bracket end_array = false
is_bracket (key s) = false
is_bracket (string s) = false
is_bracket (number s) = false
is_bracket (boolean b) = false
is_bracket null = false
is_bracket bad = false

abbrev test_lexeme : (Token → Bool) → Lexeme → Bool
test_lexeme f (token t) = f t
test_lexeme f comma = false
test_lexeme f colon = false

abbrev test_first : (Token → Bool) → List Token → Bool
test_first f [] = false
test_first f (t ∷ ts) = f t

by-test : (P : Lexeme → Type 0) (b : Bool) (x y : Lexeme) → (b ≡ true → P x) → P y → P (cond b x y)
by-test P true x y p q = p refl
by-test P false x y p q = q

-- the operators that are these brackets
brace-byte : (x : ℕ) → operator_lexeme x ≡ token begin_object → x ≡ 123
brace-byte x =
    let f = test_lexeme is_brace in
    let P = λ (l : Lexeme). l ≡ token begin_object → x ≡ 123 in
    let not : (l : Lexeme) → f l ≡ false → P l = λ l h e. absurd (true≢false (sym (ap f e) ∙ h)) in
    by-test P (x == 123) _ _ (λ is e. eqb-true x 123 is)
    (by-test P (x == 125) _ _ (λ is. not (token end_object) refl) (by-test P (x == 91) _ _ (λ is. not (token begin_array) refl)
    (by-test P (x == 93) _ _ (λ is. not (token end_array) refl) (by-test P (x == 44) _ _ (λ is. not comma refl) (not colon refl)))))

bracket-byte : (x : ℕ) → operator_lexeme x ≡ token begin_array → x ≡ 91
bracket-byte x =
    let f = test_lexeme is_bracket in
    let P = λ (l : Lexeme). l ≡ token begin_array → x ≡ 91 in
    let not : (l : Lexeme) → f l ≡ false → P l = λ l h e. absurd (true≢false (sym (ap f e) ∙ h)) in
    by-test P (x == 123) _ _ (λ is. not (token begin_object) refl)
    (by-test P (x == 125) _ _ (λ is. not (token end_object) refl) (by-test P (x == 91) _ _ (λ is e. eqb-true x 91 is)
    (by-test P (x == 93) _ _ (λ is. not (token end_array) refl) (by-test P (x == 44) _ _ (λ is. not comma refl) (not colon refl)))))

-- ---- what is first where a value may begin

pub record Begins (p : Place) (ls : List Lexeme) (t : Token) (ts : List Token) : Type 0 where
  pub first : Token
  pub rest : List Lexeme
  pub lexed : ls ≡ token first ∷ rest
  pub placed : place_token p first (begins_colon rest) (λ next. punctuate next rest) ≡ t ∷ ts

pub begins : (p : Place) (ls : List Lexeme) (t : Token) (ts : List Token) → may_begin p ≡ true → is_good t ≡ true → punctuate p ls ≡ t ∷ ts → Begins p ls t ts
unfolding punctuate
begins p (token u ∷ ls) t ts may good e = record { first = u; rest = ls; lexed = refl; placed = sym (at-token p u ls) ∙ e }
begins fresh [] t ts may good e = no-token t ts e
begins after_value ls t ts may good e = absurd (true≢false (sym may))
begins after_comma [] t ts may good e = never-bad t ts e good
begins after_key ls t ts may good e = absurd (true≢false (sym may))
begins fresh (comma ∷ ls) t ts may good e = never-bad t ts e good
begins after_comma (comma ∷ ls) t ts may good e = never-bad t ts e good
begins fresh (colon ∷ ls) t ts may good e = never-bad t ts e good
begins after_comma (colon ∷ ls) t ts may good e = never-bad t ts e good

first-of : (l : Lexeme) (ls : List Lexeme) (first : Token) (rest : List Lexeme) → l ∷ ls ≡ token first ∷ rest → l ≡ token first
first-of l ls first rest e = ap (λ k. elim k as (λ x. Lexeme) [ [] ↦ l | m ∷ ms ↦ m ]) e

-- an opening bracket is an operator
opener : (text : List ℕ) (at : ℕ) (within : at < length text) (c : Class) (first : Token) (rest : List Lexeme) → class (get_or text at 0) ≡ c → is_blank c ≡ false → weight first ≡ opens
    → lexemes_from text at ≡ token first ∷ rest → operator_lexeme (get_or text at 0) ≡ token first
opener text at within quote first rest is solid w e = absurd (flat≢opens (sym (string-flat _) ∙ weight-of-first _ _ first rest (sym (lexemes-at text at within quote is) ∙ e) ∙ w))
opener text at within backslash first rest is solid w e = absurd (flat≢opens (weight-of-first _ _ first rest (sym (lexemes-at text at within backslash is) ∙ e) ∙ w))
opener text at within operator first rest is solid w e = first-of _ _ first rest (sym (lexemes-at text at within operator is) ∙ e)
opener text at within space first rest is solid w e = absurd (true≢false solid)
opener text at within other first rest is solid w e = absurd (flat≢opens (sym (word-flat _) ∙ weight-of-first _ _ first rest (sym (lexemes-at text at within other is) ∙ e) ∙ w))

opener-byte : (text : List ℕ) (at : ℕ) (j : json.Json) (t : Token) (ts us : List Token) → HasValue text at j us → json_tokens j ++ us ≡ t ∷ ts → is_good t ≡ true → weight t ≡ opens → ((p : Place) (u : Token) (b : Bool) (k : Place → List Token) → place_token p u b k ≡ t ∷ ts → weight u ≡ opens → u ≡ t)
    → operator_lexeme (get_or text at 0) ≡ token t
opener-byte text at j t ts us v is good w same =
    let within = value-within text at j us v in
    let b = begins v.place (lexemes_from text at) t ts v.begin good (v.spelled ∙ is) in
    let heavy : weight b.first ≡ opens = placed-weight v.place t ts good b.first (begins_colon b.rest) (λ next. punctuate next b.rest) b.placed ∙ w in
    opener text at within (class (get_or text at 0)) b.first b.rest refl (v.solid within) heavy b.lexed ∙ ap token (same v.place b.first (begins_colon b.rest) (λ next. punctuate next b.rest) b.placed heavy)

same-brace : (p : Place) (ts : List Token) (u : Token) (b : Bool) (k : Place → List Token) → place_token p u b k ≡ begin_object ∷ ts → weight u ≡ opens → u ≡ begin_object
same-brace p ts begin_object b k e w = refl
same-brace p ts end_object b k e w = absurd (closes≢opens w)
same-brace p ts begin_array b k e w = (is-allowed (may_begin p) begin_array begin_object k fresh ts e refl).first
same-brace p ts end_array b k e w = absurd (closes≢opens w)
same-brace p ts (key s) b k e w = absurd (flat≢opens w)
same-brace p ts (string s) b k e w = absurd (flat≢opens w)
same-brace p ts (number s) b k e w = absurd (flat≢opens w)
same-brace p ts (boolean v) b k e w = absurd (flat≢opens w)
same-brace p ts null b k e w = absurd (flat≢opens w)
same-brace p ts bad b k e w = absurd (flat≢opens w)

same-bracket : (p : Place) (ts : List Token) (u : Token) (b : Bool) (k : Place → List Token) → place_token p u b k ≡ begin_array ∷ ts → weight u ≡ opens → u ≡ begin_array
same-bracket p ts begin_object b k e w = (is-allowed (may_begin p) begin_object begin_array k fresh ts e refl).first
same-bracket p ts end_object b k e w = absurd (closes≢opens w)
same-bracket p ts begin_array b k e w = refl
same-bracket p ts end_array b k e w = absurd (closes≢opens w)
same-bracket p ts (key s) b k e w = absurd (flat≢opens w)
same-bracket p ts (string s) b k e w = absurd (flat≢opens w)
same-bracket p ts (number s) b k e w = absurd (flat≢opens w)
same-bracket p ts (boolean v) b k e w = absurd (flat≢opens w)
same-bracket p ts null b k e w = absurd (flat≢opens w)
same-bracket p ts bad b k e w = absurd (flat≢opens w)

pub object-byte : (text : List ℕ) (at : ℕ) (ms : json.Members) (ts : List Token) → HasValue text at (json.object ms) ts → get_or text at 0 ≡ 123
object-byte text at ms ts v = brace-byte _ (opener-byte text at (json.object ms) begin_object (members_tokens ms ++ ts) ts v refl refl refl (λ p. same-brace p (members_tokens ms ++ ts)))

pub array-byte : (text : List ℕ) (at : ℕ) (js : json.Items) (ts : List Token) → HasValue text at (json.array js) ts → get_or text at 0 ≡ 91
array-byte text at js ts v = bracket-byte _ (opener-byte text at (json.array js) begin_array (items_tokens js ++ ts) ts v refl refl refl (λ p. same-bracket p (items_tokens js ++ ts)))

-- a value that does not begin with a brace has no members
pub no-object : (name text : List ℕ) (at : ℕ) (j : json.Json) (ts : List Token) → HasValue text at j ts → (get_or text at 0 ≡ 123 → ⊥) → get name j ≡ None
no-object name text at json.null ts v apart = refl
no-object name text at (json.boolean b) ts v apart = refl
no-object name text at (json.number s) ts v apart = refl
no-object name text at (json.string s) ts v apart = refl
no-object name text at (json.array js) ts v apart = refl
no-object name text at (json.object ms) ts v apart = absurd (apart (object-byte text at ms ts v))

-- a value that does not begin with a bracket has no items
pub no-array : (text : List ℕ) (at : ℕ) (j : json.Json) (ts : List Token) → HasValue text at j ts → (get_or text at 0 ≡ 91 → ⊥) → items_in (Some j) ≡ []
no-array text at json.null ts v apart = refl
no-array text at (json.boolean b) ts v apart = refl
no-array text at (json.number s) ts v apart = refl
no-array text at (json.string s) ts v apart = refl
no-array text at (json.object ms) ts v apart = refl
no-array text at (json.array js) ts v apart = absurd (apart (array-byte text at js ts v))

-- ---- what is after such a bracket

tail-of : (t : Token) (ts : List Token) (u : Token) (us : List Token) → t ∷ ts ≡ u ∷ us → ts ≡ us
tail-of t ts u us e = ap (λ l. elim l as (λ x. List Token) [ [] ↦ [] | x ∷ xs ↦ xs ]) e

opened : (text : List ℕ) (at x : ℕ) (t : Token) (j : json.Json) (ts : List Token) → HasValue text at j ts → get_or text at 0 ≡ x → class x ≡ operator → operator_lexeme x ≡ token t
    → ((p : Place) (b : Bool) (k : Place → List Token) → place_token p t b k ≡ if_allowed (may_begin p) t k fresh) → t ∷ tokens_from fresh text (at + 1) ≡ json_tokens j ++ ts
opened text at x t j ts v here kind is places =
    let within = value-within text at j ts v in
    let after = lexemes_from text (at + 1) in
    let lexed : lexemes_from text at ≡ token t ∷ after = lexemes-at text at within operator (ap class here ∙ kind) ∙ ap (λ y. operator_lexeme y ∷ after) here ∙ ap (λ l. l ∷ after) is in
    sym (ap (punctuate v.place) lexed ∙ at-token v.place t after ∙ places v.place (begins_colon after) (λ next. punctuate next after) ∙ ap (λ b. if_allowed b t (λ next. punctuate next after) fresh) v.begin) ∙ v.spelled

first-bit : (f : Token → Bool) (t : Token) (ts us : List Token) → t ∷ ts ≡ us → f t ≡ test_first f us
first-bit f t ts us e = ap (test_first f) e

pub record IsObjectAt (text : List ℕ) (at : ℕ) (j : json.Json) (ts : List Token) : Type 0 where
  pub inner : json.Members
  pub is : j ≡ json.object inner
  pub has : HasMembers text (at + 1) inner ts

after-brace : (text : List ℕ) (at : ℕ) (j : json.Json) (ts : List Token) → IsUtf8 text → at < length text → get_or text at 0 ≡ 123 → IsCut text at → begin_object ∷ tokens_from fresh text (at + 1) ≡ json_tokens j ++ ts → IsObjectAt text at j ts
after-brace text at json.null ts utf8 within here cut e = absurd (true≢false (first-bit is_brace begin_object _ _ e))
after-brace text at (json.boolean b) ts utf8 within here cut e = absurd (true≢false (first-bit is_brace begin_object _ _ e))
after-brace text at (json.number s) ts utf8 within here cut e = absurd (true≢false (first-bit is_brace begin_object _ _ e))
after-brace text at (json.string s) ts utf8 within here cut e = absurd (true≢false (first-bit is_brace begin_object _ _ e))
after-brace text at (json.array js) ts utf8 within here cut e = absurd (true≢false (first-bit is_brace begin_object _ _ e))
after-brace text at (json.object ms) ts utf8 within here cut e = record {
  inner = ms;
  is = refl;
  has = record { place = fresh; inside = tt; spelled = tail-of begin_object _ begin_object _ e; utf8 = utf8; boundary = IsCharBoundary-after_ascii text at utf8 within (grind (arith, here)); cut = cut-byte text at operator within (ap class here) refl cut };
}

pub object-at : (text : List ℕ) (at : ℕ) (j : json.Json) (ts : List Token) → HasValue text at j ts → get_or text at 0 ≡ 123 → IsObjectAt text at j ts
object-at text at j ts v here = after-brace text at j ts v.utf8 (value-within text at j ts v) here v.cut (opened text at 123 begin_object j ts v here refl refl (λ p b k. refl))

pub record IsArrayAt (text : List ℕ) (at : ℕ) (j : json.Json) (ts : List Token) : Type 0 where
  pub inner : json.Items
  pub is : j ≡ json.array inner
  pub has : HasItems text (at + 1) inner ts

after-bracket : (text : List ℕ) (at : ℕ) (j : json.Json) (ts : List Token) → IsUtf8 text → at < length text → get_or text at 0 ≡ 91 → IsCut text at → begin_array ∷ tokens_from fresh text (at + 1) ≡ json_tokens j ++ ts → IsArrayAt text at j ts
after-bracket text at json.null ts utf8 within here cut e = absurd (true≢false (first-bit is_bracket begin_array _ _ e))
after-bracket text at (json.boolean b) ts utf8 within here cut e = absurd (true≢false (first-bit is_bracket begin_array _ _ e))
after-bracket text at (json.number s) ts utf8 within here cut e = absurd (true≢false (first-bit is_bracket begin_array _ _ e))
after-bracket text at (json.string s) ts utf8 within here cut e = absurd (true≢false (first-bit is_bracket begin_array _ _ e))
after-bracket text at (json.object ms) ts utf8 within here cut e = absurd (true≢false (first-bit is_bracket begin_array _ _ e))
after-bracket text at (json.array js) ts utf8 within here cut e = record {
  inner = js;
  is = refl;
  has = record {
    place = fresh;
    inside = tt;
    spelled = tail-of begin_array _ begin_array _ e;
    utf8 = utf8;
    boundary = IsCharBoundary-after_ascii text at utf8 within (grind (arith, here));
    cut = cut-byte text at operator within (ap class here) refl cut;
    clear = λ same. clear-byte text at operator within (ap class here) refl cut;
  };
}

pub array-at : (text : List ℕ) (at : ℕ) (j : json.Json) (ts : List Token) → HasValue text at j ts → get_or text at 0 ≡ 91 → IsArrayAt text at j ts
array-at text at j ts v here = after-bracket text at j ts v.utf8 (value-within text at j ts v) here v.cut (opened text at 91 begin_array j ts v here refl refl (λ p b k. refl))
