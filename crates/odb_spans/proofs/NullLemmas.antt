-- The text of null begins with `n`, and that of no other value does.
use Rattle.std.proofs.Common.{◌≡◌, ◌∙◌, ℕ, zero, suc, ◌+◌, ◌-◌, ◌==◌, List, [], ◌∷◌, take, drop, get_or, Bool, true, false, cond, Option, Some, None, refl, sym, ap}
use Rattle.std.proofs.lemmas.Bool.{true≢false, eqb-true}
use Rattle.json.specs.Token.{Token, begin_object, end_object, begin_array, end_array, key, string, number, boolean, null, bad}
use Rattle.json.specs.Text.{content, plain}
use Rattle.json.specs.Word.{head, ends_word, after_number, number_before, literal, word}
use Rattle.json.specs.Align.{is_blank, is_good}
use Rattle.json.specs.Lex.{Lexeme, token, comma, colon, Class, quote, backslash, operator, space, other, class, operator_lexeme, string_token, between, lex, lex_byte, Place, fresh, begins_colon, place_token, punctuate, tokens}
use Rattle.json.specs.Json as json
use Rattle.json.specs.Find.{is_null}
use Rattle.json.specs.Tree.{json_tokens}
use Rattle.std.proofs.lemmas.List.{drop_more}
use Rattle.odb_spans.specs.Parts.{IsTextOf}
use Rattle.odb_spans.specs.declared.span.Span.{Span}
use Rattle.odb_spans.proofs.PartLemmas.{begins-with-token}

abbrev is_null_token : Token → Bool
is_null_token begin_object = false
is_null_token end_object = false
is_null_token begin_array = false
is_null_token end_array = false
is_null_token (key s) = false
is_null_token (string s) = false
is_null_token (number s) = false
is_null_token (boolean b) = false
is_null_token null = true
is_null_token bad = false

abbrev first_null : List Token → Bool
first_null [] = false
first_null (t ∷ ts) = is_null_token t

abbrev first_good : List Token → Bool
first_good [] = false
first_good (t ∷ ts) = is_good t

null-first : (j : json.Json) → first_null (json_tokens j) ≡ is_null j
null-first json.null = refl
null-first (json.boolean b) = refl
null-first (json.number s) = refl
null-first (json.string s) = refl
null-first (json.array js) = refl
null-first (json.object ms) = refl

good-first : (j : json.Json) → first_good (json_tokens j) ≡ true
good-first j = let b = begins-with-token j in ap first_good b.is ∙ b.good

abbrev lexeme_null : Lexeme → Bool
lexeme_null (token t) = is_null_token t
lexeme_null comma = false
lexeme_null colon = false

null-text : (s : List ℕ) (b : Bool) (k : Place → List Token) → first_null (place_token fresh (string s) b k) ≡ false
null-text s true k = refl
null-text s false k = refl

null-lexeme : (l : Lexeme) (ls : List Lexeme) → first_null (punctuate fresh (l ∷ ls)) ≡ lexeme_null l
unfolding punctuate
null-lexeme (token begin_object) ls = refl
null-lexeme (token end_object) ls = refl
null-lexeme (token begin_array) ls = refl
null-lexeme (token end_array) ls = refl
null-lexeme (token (key s)) ls = refl
null-lexeme (token (string s)) ls = null-text s (begins_colon ls) (λ next. punctuate next ls)
null-lexeme (token (number s)) ls = refl
null-lexeme (token (boolean b)) ls = refl
null-lexeme (token null) ls = refl
null-lexeme (token bad) ls = refl
null-lexeme comma ls = refl
null-lexeme colon ls = refl

by-test : (b : Bool) (x y : Lexeme) → lexeme_null x ≡ false → lexeme_null y ≡ false → lexeme_null (cond b x y) ≡ false
by-test true x y p q = p
by-test false x y p q = q

by-token : (b : Bool) (x y : Token) → is_null_token x ≡ false → is_null_token y ≡ false → is_null_token (cond b x y) ≡ false
by-token true x y p q = p
by-token false x y p q = q

operator-other : (x : ℕ) → lexeme_null (operator_lexeme x) ≡ false
operator-other x = by-test (x == 123) _ _ refl (by-test (x == 125) _ _ refl (by-test (x == 91) _ _ refl (by-test (x == 93) _ _ refl (by-test (x == 44) _ _ refl refl))))

string-other : (o : Option (List ℕ)) → is_null_token (string_token o) ≡ false
string-other None = refl
string-other (Some s) = refl

number-other : (t : List ℕ) (o : Option (List ℕ)) → is_null_token (number_before t o) ≡ false
number-other t None = refl
number-other t (Some r) = by-token (ends_word r) _ _ refl refl

name-other : (b c d : Bool) (v w n e : Token) → d ≡ false → is_null_token v ≡ false → is_null_token w ≡ false → is_null_token e ≡ false → is_null_token (cond b v (cond c w (cond d n e))) ≡ false
name-other true c d v w n e h p q r = p
name-other false true d v w n e h p q r = q
name-other false false true v w n e h p q r = absurd (true≢false h)
name-other false false false v w n e h p q r = r

literal-other : (name : List ℕ) (k : Token) (t : List ℕ) → is_null_token k ≡ false → is_null_token (literal name k t) ≡ false
literal-other name k t e = by-literal _ e
  where
    by-literal : (b : Bool) → is_null_token k ≡ false → is_null_token (cond b k bad) ≡ false
    by-literal true e = e
    by-literal false e = refl

word-other : (t : List ℕ) → (head t == 110) ≡ false → is_null_token (word t) ≡ false
unfolding word
word-other t h =
    name-other (head t == 116) (head t == 102) (head t == 110) _ _ _ _ h (literal-other (116 ∷ 114 ∷ 117 ∷ 101 ∷ []) (boolean true) t refl)
    (literal-other (102 ∷ 97 ∷ 108 ∷ 115 ∷ 101 ∷ []) (boolean false) t refl) (number-other t (after_number t))

other-byte : (c : Class) (x : ℕ) (xs : List ℕ) → class x ≡ c → is_blank c ≡ false → (x == 110) ≡ false → first_null (tokens (x ∷ xs)) ≡ false
unfolding lex
other-byte quote x xs e solid h = ap (λ d. first_null (punctuate fresh (lex_byte between d x xs (λ next. lex next xs)))) e ∙ null-lexeme _ _ ∙ string-other (content plain xs)
other-byte backslash x xs e solid h = ap (λ d. first_null (punctuate fresh (lex_byte between d x xs (λ next. lex next xs)))) e ∙ null-lexeme _ _
other-byte operator x xs e solid h = ap (λ d. first_null (punctuate fresh (lex_byte between d x xs (λ next. lex next xs)))) e ∙ null-lexeme _ _ ∙ operator-other x
other-byte space x xs e solid h = absurd (true≢false solid)
other-byte other x xs e solid h = ap (λ d. first_null (punctuate fresh (lex_byte between d x xs (λ next. lex next xs)))) e ∙ null-lexeme _ _ ∙ word-other (x ∷ xs) h

null-or-bad : (b : Bool) (k : Place → List Token) (c : Bool) → first_good (place_token fresh (cond b null bad) c k) ≡ true → first_null (place_token fresh (cond b null bad) c k) ≡ true
null-or-bad true k c good = refl
null-or-bad false k c good = absurd (true≢false (sym good))

n-byte : (xs : List ℕ) → first_good (tokens (110 ∷ xs)) ≡ true → first_null (tokens (110 ∷ xs)) ≡ true
unfolding lex word punctuate
n-byte xs good = null-or-bad _ _ _ good

by-byte : (b : Bool) (x : ℕ) (xs : List ℕ) → (x == 110) ≡ b → is_blank (class x) ≡ false → first_good (tokens (x ∷ xs)) ≡ true → b ≡ first_null (tokens (x ∷ xs))
by-byte true x xs e solid good =
    let same = eqb-true x 110 e in
    sym (ap (λ y. first_null (tokens (y ∷ xs))) same ∙ n-byte xs (sym (ap (λ y. first_good (tokens (y ∷ xs))) same) ∙ good))
by-byte false x xs e solid good = sym (other-byte (class x) x xs refl solid e)

-- the byte with which the text of a value begins
pub null-byte : (x : ℕ) (xs : List ℕ) (j : json.Json) → is_blank (class x) ≡ false → tokens (x ∷ xs) ≡ json_tokens j → (x == 110) ≡ is_null j
null-byte x xs j solid spelled = by-byte (x == 110) x xs refl solid (ap first_good spelled ∙ good-first j) ∙ ap first_null spelled ∙ null-first j

none-good : (j : json.Json) → [] ≡ json_tokens j → ⊥
none-good j e = true≢false (sym (good-first j) ∙ ap first_good (sym e))

first-byte : (n x : ℕ) (xs : List ℕ) (j : json.Json) → is_blank (class x) ≡ false → tokens (take n (x ∷ xs)) ≡ json_tokens j → (x == 110) ≡ is_null j
unfolding lex punctuate
first-byte zero x xs j solid spelled = absurd (none-good j spelled)
first-byte (suc n) x xs j solid spelled = null-byte x (take n xs) j solid spelled

-- whether the span of a value is that of null
pub span-null : (text : List ℕ) (span : Span) (j : json.Json) → IsTextOf text span j → (get_or text span.start 0 == 110) ≡ is_null j
span-null text span j is =
    let more = drop_more text span.start 0 is.some in
    first-byte (span.end - span.start) (get_or text span.start 0) (drop (span.start + 1) text) j (is.solid is.some) (ap (λ l. tokens (take (span.end - span.start) l)) (sym more) ∙ is.spelled)
