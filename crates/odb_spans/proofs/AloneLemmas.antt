-- The text of a value alone: its last lexeme has ended, and after it the lexer goes on as if the text began there.
use Rattle.std.proofs.Common.{◌≡◌, ◌∙◌, ℕ, zero, suc, ◌<◌, Bool, true, false, List, [], ◌∷◌, ◌++◌, length, get_or, Option, Some, None, refl, sym, ap, arith, append_assoc, append-nil}
use Rattle.std.specs.Prelude.{⊤}
use Rattle.std.proofs.lemmas.Bool.{true≢false, and_parts}
use Rattle.json.specs.Token.{Token, begin_object, end_object, begin_array, end_array, key, string, number, boolean, null, bad}
use Rattle.json.specs.Text.{content, plain}
use Rattle.json.specs.Word.{ends_word, word}
use Rattle.json.specs.Align.{is_blank, is_good}
use Rattle.json.specs.Lex.{Lexeme, token, comma, colon, Class, quote, backslash, operator, space, other, class, operator_lexeme, string_token, Mode, between, in_word, in_string, in_escape, lex_byte, lex, Place, fresh, after_value, after_comma, after_key, begins_colon, may_begin, may_close, if_allowed, place_token, punctuate, tokens}
use Rattle.json.specs.Json as json
use Rattle.json.specs.Tree.{json_tokens, items_tokens, members_tokens}
use Rattle.odb_spans.specs.Cuts.{next_mode, mode_past}
use Rattle.odb_spans.specs.Extents.{weight, lexeme_weight, level, first_level}
use Rattle.odb_spans.proofs.ContentLemmas.{closes, closes_byte, read-closes}
use Rattle.odb_spans.proofs.FrontLemmas.{Ended, all_good, all_lexed, good-json, good-lexemes, lex-ended, lexed-rest}
use Rattle.odb_spans.proofs.LexLemmas.{taken, left, first_taken, first_left}
use Rattle.odb_spans.proofs.PlaceLemmas.{Colon, place_after, end_place, uncons, follows}
use Rattle.odb_spans.proofs.TokenLemmas.{closes_all, items-close, members-close}

-- ---- no string is open at the end

abbrev IsEnd : Mode → Type 0
IsEnd between = ⊤
IsEnd in_word = ⊤
IsEnd in_string = ⊥
IsEnd in_escape = ⊥

good-content : (xs : List ℕ) (o : Option (List ℕ)) → content plain xs ≡ o → is_good (string_token o) ≡ true → closes in_string xs ≡ true
good-content xs None e h = absurd (true≢false (sym h))
good-content xs (Some s) e h = read-closes xs s e

free-between : (xs : List ℕ) → closes between xs ≡ true
unfolding closes
free-between [] = refl
free-between (x ∷ xs) = refl

free-word : (xs : List ℕ) → closes in_word xs ≡ true
unfolding closes
free-word [] = refl
free-word (x ∷ xs) = refl

byte-end : (m : Mode) (c : Class) (x : ℕ) (xs : List ℕ) → closes_byte m c (λ k. closes k xs) ≡ true → all_lexed (lex_byte m c x xs (λ k. lex k xs)) ≡ true → ((k : Mode) → closes k xs ≡ true → all_lexed (lex k xs) ≡ true → IsEnd (mode_past k xs)) → IsEnd (mode_past (next_mode m c) xs)
byte-end between quote x xs e h ih = let p = and_parts (is_good (string_token (content plain xs))) (all_lexed (lex in_string xs)) h in ih in_string (good-content xs (content plain xs) refl p.0) p.1
byte-end between backslash x xs e h ih = absurd (true≢false (sym h))
byte-end between operator x xs e h ih = ih between (free-between xs) (lexed-rest (operator_lexeme x) (lex between xs) h)
byte-end between space x xs e h ih = ih between (free-between xs) h
byte-end between other x xs e h ih = ih in_word (free-word xs) (lexed-rest (token (word (x ∷ xs))) (lex in_word xs) h)
byte-end in_word quote x xs e h ih = ih in_word (free-word xs) h
byte-end in_word backslash x xs e h ih = ih in_word (free-word xs) h
byte-end in_word operator x xs e h ih = ih between (free-between xs) (lexed-rest (operator_lexeme x) (lex between xs) h)
byte-end in_word space x xs e h ih = ih between (free-between xs) h
byte-end in_word other x xs e h ih = ih in_word (free-word xs) h
byte-end in_string quote x xs e h ih = ih between (free-between xs) h
byte-end in_string backslash x xs e h ih = ih in_escape e h
byte-end in_string operator x xs e h ih = ih in_string e h
byte-end in_string space x xs e h ih = ih in_string e h
byte-end in_string other x xs e h ih = ih in_string e h
byte-end in_escape c x xs e h ih = ih in_string e h

none-end : (m : Mode) → closes m [] ≡ true → IsEnd (mode_past m [])
unfolding closes mode_past
none-end between e = tt
none-end in_word e = tt
none-end in_string e = absurd (true≢false (sym e))
none-end in_escape e = absurd (true≢false (sym e))

good-end : (m : Mode) (xs : List ℕ) → closes m xs ≡ true → all_lexed (lex m xs) ≡ true → IsEnd (mode_past m xs)
unfolding lex mode_past closes
good-end m [] e h = none-end m e
good-end m (x ∷ xs) e h = byte-end m (class x) x xs e h (λ k. good-end k xs)

ended : (m : Mode) (ys : List ℕ) → IsEnd m → ends_word ys ≡ true → Ended m ys
ended between ys e h = tt
ended in_word ys e h = h
ended in_string ys e h = e
ended in_escape ys e h = e

-- what ends a word may follow the text of a value
pub lex-value : (j : json.Json) (xs ys : List ℕ) → tokens xs ≡ json_tokens j → ends_word ys ≡ true → lex between (xs ++ ys) ≡ lex between xs ++ lex between ys
lex-value j xs ys spelled h =
    let good : all_good (tokens xs) ≡ true = ap all_good (spelled ∙ sym (append-nil (json_tokens j))) ∙ good-json j [] refl in
    lex-ended between xs ys (ended (mode_past between xs) ys (good-end between xs (free-between xs) (good-lexemes fresh (lex between xs) good)) h)

-- ---- the tokens of a value, and of what follows

never-empty : (c : Bool) (t : Token) (k : Place → List Token) (next : Place) → if_allowed c t k next ≡ [] → ⊥
never-empty true t k next e = cc (e)
never-empty false t k next e = cc (e)

never-placed : (p : Place) (u : Token) (b : Bool) (k : Place → List Token) → place_token p u b k ≡ [] → ⊥
never-placed p begin_object b k e = never-empty (may_begin p) begin_object k fresh e
never-placed p end_object b k e = never-empty (may_close p) end_object k after_value e
never-placed p begin_array b k e = never-empty (may_begin p) begin_array k fresh e
never-placed p end_array b k e = never-empty (may_close p) end_array k after_value e
never-placed p (key s) b k e = cc (e)
never-placed p (string s) true k e = never-empty (may_begin p) (key s) k after_key e
never-placed p (string s) false k e = never-empty (may_begin p) (string s) k after_value e
never-placed p (number s) b k e = never-empty (may_begin p) (number s) k after_value e
never-placed p (boolean v) b k e = never-empty (may_begin p) (boolean v) k after_value e
never-placed p null b k e = never-empty (may_begin p) null k after_value e
never-placed p bad b k e = cc (e)

none-after-comma : (ls : List Lexeme) → punctuate after_comma ls ≡ [] → ⊥
unfolding punctuate
none-after-comma [] e = cc (e)
none-after-comma (token t ∷ ls) e = never-placed after_comma t (begins_colon ls) (λ next. punctuate next ls) e
none-after-comma (comma ∷ ls) e = cc (e)
none-after-comma (colon ∷ ls) e = cc (e)

pub none-left : (ls : List Lexeme) → punctuate after_value ls ≡ [] → ls ≡ []
unfolding punctuate
none-left [] e = refl
none-left (token t ∷ ls) e = absurd (never-placed after_value t (begins_colon ls) (λ next. punctuate next ls) e)
none-left (comma ∷ ls) e = absurd (none-after-comma ls e)
none-left (colon ∷ ls) e = absurd (cc (e))

taken-left : (n : ℕ) (ls : List Lexeme) → taken n ls ++ left n ls ≡ ls
taken-left zero ls = refl
taken-left (suc n) [] = refl
taken-left (suc n) (l ∷ ls) = ap (λ m. l ∷ m) (taken-left (level (lexeme_weight l) n) ls)

first-taken-left : (ls : List Lexeme) → first_taken ls ++ first_left ls ≡ ls
first-taken-left [] = refl
first-taken-left (l ∷ ls) = ap (λ m. l ∷ m) (taken-left (first_level (lexeme_weight l)) ls)

module _ (ls : List Lexeme) (t : Token) (ts : List Token) (good : is_good t ≡ true) (closed : closes_all (first_level (weight t)) ts ≡ true) (ends : end_place (first_level (weight t)) (place_after t) ≡ after_value) (e : punctuate fresh ls ≡ t ∷ ts) where
  more-after : (ms : List Lexeme) → ((rest : List Lexeme) → Colon t (taken (first_level (weight t)) rest ++ ms)) → punctuate fresh (ls ++ ms) ≡ (t ∷ ts) ++ punctuate after_value ms
  more-after ms free =
      let n = first_level (weight t) in
      let one = uncons fresh ls t ts e good in
      let later = follows ts n (place_after t) one.rest [] closed (sym one.follow ∙ sym (append-nil ts)) in
      let none : left n one.rest ≡ [] = none-left (left n one.rest) (sym (later.follow ∙ ap (λ q. punctuate q (left n one.rest)) ends)) in
      let all : one.front ++ taken n one.rest ≡ ls =
      sym (one.takes_first refl) ∙ sym (append-nil (first_taken ls)) ∙ ap (λ m. first_taken ls ++ m) (sym (one.leaves_first refl ∙ none)) ∙ first-taken-left ls in
      ap (λ l. punctuate fresh (l ++ ms)) (sym all) ∙ ap (punctuate fresh) (append_assoc one.front (taken n one.rest) ms) ∙ one.anew refl (taken n one.rest ++ ms) (free one.rest)
      ∙ ap (λ l. t ∷ l) (later.again ms ∙ ap (λ q. ts ++ punctuate q ms) ends)

-- after the lexemes of a value, others have the tokens that they have after a value
pub value-again : (j : json.Json) (ls ms : List Lexeme) → begins_colon ms ≡ false → punctuate fresh ls ≡ json_tokens j → punctuate fresh (ls ++ ms) ≡ json_tokens j ++ punctuate after_value ms
value-again json.null ls ms k e = more-after ls null [] refl refl refl e ms (λ rest. tt)
value-again (json.boolean b) ls ms k e = more-after ls (boolean b) [] refl refl refl e ms (λ rest. tt)
value-again (json.number s) ls ms k e = more-after ls (number s) [] refl refl refl e ms (λ rest. tt)
value-again (json.string s) ls ms k e = more-after ls (string s) [] refl refl refl e ms (λ rest. k)
value-again (json.array js) ls ms k e = more-after ls begin_array (items_tokens js) refl (items-close js) refl e ms (λ rest. tt)
value-again (json.object ms) ls ns k e = more-after ls begin_object (members_tokens ms) refl (members-close ms) refl e ns (λ rest. tt)

-- what comes after a value begins with no colon
pub no-colon : (ls : List Lexeme) → all_good (punctuate after_value ls) ≡ true → begins_colon ls ≡ false
unfolding punctuate
no-colon [] h = refl
no-colon (token t ∷ ls) h = refl
no-colon (comma ∷ ls) h = refl
no-colon (colon ∷ ls) h = absurd (true≢false (sym h))

-- ---- the first lexeme, and blanks

same-colon : (l : Lexeme) (ls ms : List Lexeme) → begins_colon (l ∷ ls) ≡ begins_colon (l ∷ ms)
same-colon (token t) ls ms = refl
same-colon comma ls ms = refl
same-colon colon ls ms = refl

colon-byte : (c : Class) (x : ℕ) (xs ys : List ℕ) → (begins_colon (lex between (xs ++ ys)) ≡ false → begins_colon (lex between xs) ≡ false)
    → begins_colon (lex_byte between c x (xs ++ ys) (λ k. lex k (xs ++ ys))) ≡ false → begins_colon (lex_byte between c x xs (λ k. lex k xs)) ≡ false
colon-byte quote x xs ys ih h = refl
colon-byte backslash x xs ys ih h = refl
colon-byte operator x xs ys ih h = same-colon (operator_lexeme x) (lex between xs) (lex between (xs ++ ys)) ∙ h
colon-byte space x xs ys ih h = ih h
colon-byte other x xs ys ih h = refl

pub colon-front : (xs ys : List ℕ) → begins_colon (lex between (xs ++ ys)) ≡ false → begins_colon (lex between xs) ≡ false
unfolding lex
colon-front [] ys h = refl
colon-front (x ∷ xs) ys h = colon-byte (class x) x xs ys (colon-front xs ys) h

-- a text without lexemes has blanks alone
blank-byte : (c : Class) (x : ℕ) (xs : List ℕ) → lex_byte between c x xs (λ k. lex k xs) ≡ [] → (is_blank c ≡ true) × (lex between xs ≡ [])
blank-byte quote x xs e = absurd (cc (e))
blank-byte backslash x xs e = absurd (cc (e))
blank-byte operator x xs e = absurd (cc (e))
blank-byte space x xs e = (refl, e)
blank-byte other x xs e = absurd (cc (e))

pub all-blank : (xs : List ℕ) → lex between xs ≡ [] → (k : ℕ) → k < length xs → is_blank (class (get_or xs k 0)) ≡ true
unfolding lex
all-blank [] e k within = absurd (omega (arith, within))
all-blank (x ∷ xs) e zero within = (blank-byte (class x) x xs e).0
all-blank (x ∷ xs) e (suc k) within = all-blank xs (blank-byte (class x) x xs e).1 k (omega (arith, within))

-- texts that begin with one byte, which is no blank, begin with a token both or neither
pub record BeginsToken (ls : List Lexeme) : Type 0 where
  pub first : Token
  pub rest : List Lexeme
  pub is : ls ≡ token first ∷ rest

operator-token : (l : Lexeme) (u : Token) (ls ms rest : List Lexeme) → l ∷ ls ≡ token u ∷ rest → BeginsToken (l ∷ ms)
operator-token (token t) u ls ms rest e = record { first = t; rest = ms; is = refl }
operator-token comma u ls ms rest e = absurd (cc (e))
operator-token colon u ls ms rest e = absurd (cc (e))

token-byte : (c : Class) (x : ℕ) (xs ys : List ℕ) (u : Token) (rest : List Lexeme) → is_blank c ≡ false → lex_byte between c x xs (λ k. lex k xs) ≡ token u ∷ rest → BeginsToken (lex_byte between c x ys (λ k. lex k ys))
token-byte quote x xs ys u rest solid e = record { first = _; rest = _; is = refl }
token-byte backslash x xs ys u rest solid e = record { first = _; rest = _; is = refl }
token-byte operator x xs ys u rest solid e = operator-token (operator_lexeme x) u (lex between xs) (lex between ys) rest e
token-byte space x xs ys u rest solid e = absurd (true≢false solid)
token-byte other x xs ys u rest solid e = record { first = _; rest = _; is = refl }

pub same-token : (x : ℕ) (xs ys : List ℕ) (u : Token) (rest : List Lexeme) → is_blank (class x) ≡ false → lex between (x ∷ xs) ≡ token u ∷ rest → BeginsToken (lex between (x ∷ ys))
unfolding lex
same-token x xs ys u rest solid e = token-byte (class x) x xs ys u rest solid e
