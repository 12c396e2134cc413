-- The lexemes and the tokens of the text before a place where the lexer is between lexemes, whatever comes there.
use Rattle.std.proofs.Common.{◌≡◌, ◌∙◌, ℕ, Bool, true, false, cond, ◌&&◌, ◌||◌, ◌==◌, List, [], ◌∷◌, ◌++◌, take, refl, sym, ap, ap₂, subst, codes, append_assoc}
use Rattle.std.specs.Prelude.{⊤}
use Rattle.std.proofs.lemmas.Bool.{true≢false, eqb-true, and_parts}
use Rattle.json.specs.Token.{Token, begin_object, end_object, begin_array, end_array, key, string, number, boolean, null, bad}
use Rattle.json.specs.Text.{content, plain}
use Rattle.json.specs.Word.{is_operator, is_space, ends_word, word}
use Rattle.json.specs.Align.{is_good}
use Rattle.json.specs.Lex.{Lexeme, token, comma, colon, Class, quote, backslash, operator, space, other, class, operator_lexeme, string_token, Mode, between, in_word, in_string, in_escape, lex_byte, lex, Place, fresh, after_value, after_comma, after_key, begins_colon, may_begin, may_close, if_allowed, place_token, punctuate}
use Rattle.json.specs.Json as json
use Rattle.json.specs.Tree.{json_tokens, items_tokens, members_tokens}
use Rattle.odb_spans.specs.Cuts.{next_mode, mode_past}
use Rattle.odb_spans.specs.Extents.{closes, flat, weight, extent_byte, extent}
use Rattle.odb_spans.proofs.WordLemmas.{is_end, stem, same-word, word-before}
use Rattle.odb_spans.proofs.ContentLemmas.{content-passed}
use Rattle.odb_spans.proofs.LexLemmas.{string-flat, word-flat}
use Rattle.odb_spans.proofs.PlaceLemmas.{at-token, never-bad, is-allowed}
use Rattle.odb_spans.proofs.WalkLemmas.{flat≢closes, opens≢flat}

-- ---- after a word comes what ends it

word-end : (q b o s : Bool) (y : ℕ) (ys : List ℕ) (k : Mode → List Lexeme) → (q ≡ true → (o || s) ≡ false) → (b ≡ true → (o || s) ≡ false) → (o || s) ≡ true
    → lex_byte in_word (cond q quote (cond b backslash (cond o operator (cond s space other)))) y ys k ≡ lex_byte between (cond q quote (cond b backslash (cond o operator (cond s space other)))) y ys k
word-end true b o s y ys k f g h = absurd (true≢false (sym h ∙ f refl))
word-end false true o s y ys k f g h = absurd (true≢false (sym h ∙ g refl))
word-end false false true s y ys k f g h = refl
word-end false false false true y ys k f g h = refl
word-end false false false false y ys k f g h = absurd (true≢false (sym h))

word-over : (ys : List ℕ) → ends_word ys ≡ true → lex in_word ys ≡ lex between ys
unfolding lex
word-over [] ended = refl
word-over (y ∷ ys) ended = word-end (y == 34) (y == 92) (is_operator y) (is_space y) y ys (λ k. lex k ys) (λ e. ap is_end (eqb-true y 34 e)) (λ e. ap is_end (eqb-true y 92 e)) ended

-- ---- a string that ends before a place, and a word

abbrev IsText : Mode → Type 0
IsText between = ⊥
IsText in_word = ⊥
IsText in_string = ⊤
IsText in_escape = ⊤

-- a text may follow: the lexer is between lexemes, or at the end of a word that the text does not continue
abbrev pub Ended : Mode → List ℕ → Type 0
Ended between ys = ⊤
Ended in_word ys = ends_word ys ≡ true
Ended in_string ys = ⊥
Ended in_escape ys = ⊥

never-ended : {P : Type 0} (m : Mode) (ys : List ℕ) → IsText m → Ended m ys → P
never-ended between ys t e = absurd t
never-ended in_word ys t e = absurd t
never-ended in_string ys t e = absurd e
never-ended in_escape ys t e = absurd e

abbrev Stops : Mode → List ℕ → List ℕ → Type 0
Stops m xs ys = take (extent m 0 (xs ++ ys)) (xs ++ ys) ≡ take (extent m 0 xs) xs

closed : (xs : List ℕ) → extent between 0 xs ≡ 0
unfolding extent
closed [] = refl
closed (x ∷ xs) = refl

byte-stops : (m : Mode) (c : Class) (x : ℕ) (xs ys : List ℕ) → IsText m → Ended (mode_past (next_mode m c) xs) ys → ((k : Mode) → IsText k → Ended (mode_past k xs) ys → Stops k xs ys)
    → take (extent_byte m c 0 x (λ m n. extent m n (xs ++ ys))) (x ∷ (xs ++ ys)) ≡ take (extent_byte m c 0 x (λ m n. extent m n xs)) (x ∷ xs)
byte-stops between c x xs ys t e ih = absurd t
byte-stops in_word c x xs ys t e ih = absurd t
byte-stops in_string quote x xs ys t e ih = ap (λ k. x ∷ take k (xs ++ ys)) (closed (xs ++ ys)) ∙ sym (ap (λ k. x ∷ take k xs) (closed xs))
byte-stops in_string backslash x xs ys t e ih = ap (λ l. x ∷ l) (ih in_escape tt e)
byte-stops in_string operator x xs ys t e ih = ap (λ l. x ∷ l) (ih in_string tt e)
byte-stops in_string space x xs ys t e ih = ap (λ l. x ∷ l) (ih in_string tt e)
byte-stops in_string other x xs ys t e ih = ap (λ l. x ∷ l) (ih in_string tt e)
byte-stops in_escape c x xs ys t e ih = ap (λ l. x ∷ l) (ih in_string tt e)

stops : (m : Mode) (xs ys : List ℕ) → IsText m → Ended (mode_past m xs) ys → Stops m xs ys
unfolding extent mode_past
stops m [] ys t e = never-ended m ys t e
stops m (x ∷ xs) ys t e = byte-stops m (class x) x xs ys t e (λ k. stops k xs ys)

content-front : (xs ys : List ℕ) → Ended (mode_past in_string xs) ys → content plain (xs ++ ys) ≡ content plain xs
content-front xs ys e = sym (content-passed 0 plain (xs ++ ys)) ∙ ap (content plain) (stops in_string xs ys tt e) ∙ content-passed 0 plain xs

stem-byte : (q b o s : Bool) (x : ℕ) (xs ys : List ℕ) → (o || s) ≡ is_end x → Ended (mode_past (next_mode in_word (cond q quote (cond b backslash (cond o operator (cond s space other))))) xs) ys
    → (Ended (mode_past in_word xs) ys → stem (xs ++ ys) ≡ stem xs) → stem (x ∷ (xs ++ ys)) ≡ stem (x ∷ xs)
stem-byte true b o s x xs ys is e ih = ap (λ l. cond (is_end x) [] (x ∷ l)) (ih e)
stem-byte false true o s x xs ys is e ih = ap (λ l. cond (is_end x) [] (x ∷ l)) (ih e)
stem-byte false false true s x xs ys is e ih = ap (λ b. cond b [] (x ∷ stem (xs ++ ys))) (sym is) ∙ ap (λ b. cond b [] (x ∷ stem xs)) is
stem-byte false false false true x xs ys is e ih = ap (λ b. cond b [] (x ∷ stem (xs ++ ys))) (sym is) ∙ ap (λ b. cond b [] (x ∷ stem xs)) is
stem-byte false false false false x xs ys is e ih = ap (λ l. cond (is_end x) [] (x ∷ l)) (ih e)

no-stem : (ys : List ℕ) → ends_word ys ≡ true → stem ys ≡ []
no-stem [] e = refl
no-stem (y ∷ ys) e = ap (λ b. cond b [] (y ∷ stem ys)) e

stem-front : (xs ys : List ℕ) → Ended (mode_past in_word xs) ys → stem (xs ++ ys) ≡ stem xs
unfolding mode_past
stem-front [] ys e = no-stem ys e
stem-front (x ∷ xs) ys e = stem-byte (x == 34) (x == 92) (is_operator x) (is_space x) x xs ys refl e (stem-front xs ys)

word-front : (x : ℕ) (xs ys : List ℕ) → Ended (mode_past in_word xs) ys → word (x ∷ (xs ++ ys)) ≡ word (x ∷ xs)
word-front x xs ys e = same-word _ _ (ap (λ l. cond (is_end x) [] (x ∷ l)) (stem-front xs ys e))

-- ---- the lexemes before a place

byte-front : (m : Mode) (c : Class) (x : ℕ) (xs ys : List ℕ) → Ended (mode_past (next_mode m c) xs) ys → ((k : Mode) → Ended (mode_past k xs) ys → lex k (xs ++ ys) ≡ lex k xs ++ lex between ys)
    → lex_byte m c x (xs ++ ys) (λ k. lex k (xs ++ ys)) ≡ lex_byte m c x xs (λ k. lex k xs) ++ lex between ys
byte-front between quote x xs ys e ih = ap₂ (λ o ls. token (string_token o) ∷ ls) (content-front xs ys e) (ih in_string e)
byte-front between backslash x xs ys e ih = ap (λ ls. token bad ∷ ls) (ih in_word e)
byte-front between operator x xs ys e ih = ap (λ ls. operator_lexeme x ∷ ls) (ih between e)
byte-front between space x xs ys e ih = ih between e
byte-front between other x xs ys e ih = ap₂ (λ w ls. token w ∷ ls) (word-front x xs ys e) (ih in_word e)
byte-front in_word quote x xs ys e ih = ih in_word e
byte-front in_word backslash x xs ys e ih = ih in_word e
byte-front in_word operator x xs ys e ih = ap (λ ls. operator_lexeme x ∷ ls) (ih between e)
byte-front in_word space x xs ys e ih = ih between e
byte-front in_word other x xs ys e ih = ih in_word e
byte-front in_string quote x xs ys e ih = ih between e
byte-front in_string backslash x xs ys e ih = ih in_escape e
byte-front in_string operator x xs ys e ih = ih in_string e
byte-front in_string space x xs ys e ih = ih in_string e
byte-front in_string other x xs ys e ih = ih in_string e
byte-front in_escape c x xs ys e ih = ih in_string e

then-between : (m : Mode) (ys : List ℕ) → Ended m ys → lex m ys ≡ lex between ys
then-between between ys e = refl
then-between in_word ys e = word-over ys e
then-between in_string ys e = absurd e
then-between in_escape ys e = absurd e

pub lex-ended : (m : Mode) (xs ys : List ℕ) → Ended (mode_past m xs) ys → lex m (xs ++ ys) ≡ lex m xs ++ lex between ys
unfolding lex mode_past
lex-ended m [] ys e = then-between m ys e
lex-ended m (x ∷ xs) ys e = byte-front m (class x) x xs ys e (λ k. lex-ended k xs ys)

pub lex-front : (m : Mode) (xs ys : List ℕ) → mode_past m xs ≡ between → lex m (xs ++ ys) ≡ lex m xs ++ lex between ys
lex-front m xs ys e = lex-ended m xs ys (subst (λ k. Ended k ys) (sym e) tt)

-- ---- a literal before what ends a word

null-word : word (codes "null") ≡ null
unfolding word
null-word = refl

true-word : word (codes "true") ≡ boolean true
unfolding word
true-word = refl

pub lex-null : (ys : List ℕ) → ends_word ys ≡ true → lex between (codes "null" ++ ys) ≡ token null ∷ lex between ys
unfolding lex
lex-null ys ended = ap₂ (λ w ls. token w ∷ ls) (word-before ys ended (codes "null") ∙ null-word) (word-over ys ended)

pub lex-true : (ys : List ℕ) → ends_word ys ≡ true → lex between (codes "true" ++ ys) ≡ token (boolean true) ∷ lex between ys
unfolding lex
lex-true ys ended = ap₂ (λ w ls. token w ∷ ls) (word-before ys ended (codes "true") ∙ true-word) (word-over ys ended)

-- ---- what comes after a value ends a word

never-after-value : (u : Token) (b : Bool) (k : Place → List Token) → weight u ≡ flat → place_token after_value u b k ≡ bad ∷ []
never-after-value begin_object b k w = absurd (opens≢flat w)
never-after-value end_object b k w = absurd (flat≢closes (sym w))
never-after-value begin_array b k w = absurd (opens≢flat w)
never-after-value end_array b k w = absurd (flat≢closes (sym w))
never-after-value (key s) b k w = refl
never-after-value (string s) true k w = refl
never-after-value (string s) false k w = refl
never-after-value (number s) b k w = refl
never-after-value (boolean v) b k w = refl
never-after-value null b k w = refl
never-after-value bad b k w = refl

flat-never : {P : Type 0} (u : Token) (ls : List Lexeme) (t : Token) (ts : List Token) → weight u ≡ flat → is_good t ≡ true → punctuate after_value (token u ∷ ls) ≡ t ∷ ts → P
flat-never u ls t ts w good e = never-bad t ts (sym (never-after-value u (begins_colon ls) (λ next. punctuate next ls) w) ∙ sym (at-token after_value u ls) ∙ e) good

end-byte : (q b o s : Bool) (y : ℕ) (ys : List ℕ) (k : Mode → List Lexeme) (t : Token) (ts : List Token) → is_good t ≡ true
    → punctuate after_value (lex_byte between (cond q quote (cond b backslash (cond o operator (cond s space other)))) y ys k) ≡ t ∷ ts → (o || s) ≡ true
end-byte true b o s y ys k t ts good e = flat-never (string_token (content plain ys)) (k in_string) t ts (string-flat (content plain ys)) good e
end-byte false true o s y ys k t ts good e = flat-never bad (k in_word) t ts refl good e
end-byte false false true s y ys k t ts good e = refl
end-byte false false false true y ys k t ts good e = refl
end-byte false false false false y ys k t ts good e = flat-never (word (y ∷ ys)) (k in_word) t ts (word-flat (y ∷ ys)) good e

-- what is after a value ends a word
pub ends-after : (ys : List ℕ) (t : Token) (ts : List Token) → is_good t ≡ true → punctuate after_value (lex between ys) ≡ t ∷ ts → ends_word ys ≡ true
unfolding lex
ends-after [] t ts good e = refl
ends-after (y ∷ ys) t ts good e = end-byte (y == 34) (y == 92) (is_operator y) (is_space y) y ys (λ k. lex k ys) t ts good e

-- ---- the tokens before a place

abbrev pub all_good : List Token → Bool
all_good [] = true
all_good (t ∷ ts) = is_good t && all_good ts

record Allowed (c : Bool) (k : Place → List Token) (next : Place) : Type 0 where
  is : c ≡ true
  good : all_good (k next) ≡ true

allowed : (c : Bool) (t : Token) (k : Place → List Token) (next : Place) → all_good (if_allowed c t k next) ≡ true → Allowed c k next
allowed true t k next h = record { is = refl; good = (and_parts (is_good t) (all_good (k next)) h).1 }
allowed false t k next h = absurd (true≢false (sym h))

pub record Placed (p : Place) (u : Token) (b : Bool) (k : Place → List Token) : Type 0 where
  pub emits : Token
  pub next : Place
  pub is : (f : Place → List Token) → place_token p u b f ≡ emits ∷ f next
  pub good : all_good (k next) ≡ true

if-placed : (p : Place) (u : Token) (b c : Bool) (t : Token) (next : Place) (k : Place → List Token) → ((f : Place → List Token) → place_token p u b f ≡ if_allowed c t f next) → all_good (place_token p u b k) ≡ true → Placed p u b k
if-placed p u b c t next k same h =
    let a = allowed c t k next (sym (ap all_good (same k)) ∙ h) in
    record { emits = t; next = next; is = λ f. same f ∙ ap (λ d. if_allowed d t f next) a.is; good = a.good }

placed : (p : Place) (u : Token) (b : Bool) (k : Place → List Token) → all_good (place_token p u b k) ≡ true → Placed p u b k
placed p begin_object b k h = if-placed p begin_object b (may_begin p) begin_object fresh k (λ f. refl) h
placed p end_object b k h = if-placed p end_object b (may_close p) end_object after_value k (λ f. refl) h
placed p begin_array b k h = if-placed p begin_array b (may_begin p) begin_array fresh k (λ f. refl) h
placed p end_array b k h = if-placed p end_array b (may_close p) end_array after_value k (λ f. refl) h
placed p (key s) b k h = absurd (true≢false (sym h))
placed p (string s) true k h = if-placed p (string s) true (may_begin p) (key s) after_key k (λ f. refl) h
placed p (string s) false k h = if-placed p (string s) false (may_begin p) (string s) after_value k (λ f. refl) h
placed p (number s) b k h = if-placed p (number s) b (may_begin p) (number s) after_value k (λ f. refl) h
placed p (boolean v) b k h = if-placed p (boolean v) b (may_begin p) (boolean v) after_value k (λ f. refl) h
placed p null b k h = if-placed p null b (may_begin p) null after_value k (λ f. refl) h
placed p bad b k h = absurd (true≢false (sym h))

-- the same tokens come first, whatever comes at the place in place of ls
pub record SplitsAt (p : Place) (front ls : List Lexeme) : Type 0 where
  pub passed : List Token
  pub place : Place
  pub one : punctuate p (front ++ ls) ≡ passed ++ punctuate place ls
  pub two : (ms : List Lexeme) → begins_colon ms ≡ false → punctuate p (front ++ ms) ≡ passed ++ punctuate place ms

same-colon : (front ls ms : List Lexeme) → begins_colon ls ≡ false → begins_colon ms ≡ false → begins_colon (front ++ ms) ≡ begins_colon (front ++ ls)
same-colon [] ls ms f g = g ∙ sym f
same-colon (token t ∷ front) ls ms f g = refl
same-colon (comma ∷ front) ls ms f g = refl
same-colon (colon ∷ front) ls ms f g = refl

token-splits : (p : Place) (u : Token) (front ls : List Lexeme) → begins_colon ls ≡ false → (one : Placed p u (begins_colon (front ++ ls)) (λ next. punctuate next (front ++ ls))) → SplitsAt one.next front ls → SplitsAt p (token u ∷ front) ls
token-splits p u front ls f one more = record {
  passed = one.emits ∷ more.passed;
  place = more.place;
  one = at-token p u (front ++ ls) ∙ one.is (λ next. punctuate next (front ++ ls)) ∙ ap (λ l. one.emits ∷ l) more.one;
  two = λ ms g.
      at-token p u (front ++ ms) ∙ ap (λ b. place_token p u b (λ next. punctuate next (front ++ ms))) (same-colon front ls ms f g) ∙ one.is (λ next. punctuate next (front ++ ms)) ∙ ap (λ l. one.emits ∷ l) (more.two ms g);
}

separator-splits : (p q : Place) (l : Lexeme) (front ls : List Lexeme) → ((ns : List Lexeme) → punctuate p (l ∷ ns) ≡ punctuate q ns) → SplitsAt q front ls → SplitsAt p (l ∷ front) ls
separator-splits p q l front ls same more = record { passed = more.passed; place = more.place; one = same (front ++ ls) ∙ more.one; two = λ ms g. same (front ++ ms) ∙ more.two ms g }

pub at-good : (p : Place) (u : Token) (ls : List Lexeme) → all_good (punctuate p (token u ∷ ls)) ≡ true → Placed p u (begins_colon ls) (λ next. punctuate next ls)
at-good p u ls h = placed p u (begins_colon ls) (λ next. punctuate next ls) (sym (ap all_good (at-token p u ls)) ∙ h)

pub splits-at : (p : Place) (front ls : List Lexeme) → begins_colon ls ≡ false → all_good (punctuate p (front ++ ls)) ≡ true → SplitsAt p front ls
unfolding punctuate
splits-at p [] ls f h = record { passed = []; place = p; one = refl; two = λ ms g. refl }
splits-at p (token u ∷ front) ls f h =
    let one = at-good p u (front ++ ls) h in token-splits p u front ls f one (splits-at one.next front ls f one.good)
splits-at fresh (comma ∷ front) ls f h = absurd (true≢false (sym h))
splits-at after_value (comma ∷ front) ls f h = separator-splits after_value after_comma comma front ls (λ ns. refl) (splits-at after_comma front ls f h)
splits-at after_comma (comma ∷ front) ls f h = absurd (true≢false (sym h))
splits-at after_key (comma ∷ front) ls f h = absurd (true≢false (sym h))
splits-at fresh (colon ∷ front) ls f h = absurd (true≢false (sym h))
splits-at after_value (colon ∷ front) ls f h = absurd (true≢false (sym h))
splits-at after_comma (colon ∷ front) ls f h = absurd (true≢false (sym h))
splits-at after_key (colon ∷ front) ls f h = separator-splits after_key fresh colon front ls (λ ns. refl) (splits-at fresh front ls f h)

-- ---- lexemes of good tokens

abbrev pub all_lexed : List Lexeme → Bool
all_lexed [] = true
all_lexed (token t ∷ ls) = is_good t && all_lexed ls
all_lexed (comma ∷ ls) = all_lexed ls
all_lexed (colon ∷ ls) = all_lexed ls

pub lexed-rest : (l : Lexeme) (ls : List Lexeme) → all_lexed (l ∷ ls) ≡ true → all_lexed ls ≡ true
lexed-rest (token t) ls h = (and_parts (is_good t) (all_lexed ls) h).1
lexed-rest comma ls h = h
lexed-rest colon ls h = h

pub lexed-after : (front ls : List Lexeme) → all_lexed (front ++ ls) ≡ true → all_lexed ls ≡ true
lexed-after [] ls h = h
lexed-after (l ∷ front) ls h = lexed-after front ls (lexed-rest l (front ++ ls) h)

token-good : (p : Place) (u : Token) (b : Bool) (k : Place → List Token) → all_good (place_token p u b k) ≡ true → is_good u ≡ true
token-good p begin_object b k h = refl
token-good p end_object b k h = refl
token-good p begin_array b k h = refl
token-good p end_array b k h = refl
token-good p (key s) b k h = refl
token-good p (string s) b k h = refl
token-good p (number s) b k h = refl
token-good p (boolean v) b k h = refl
token-good p null b k h = refl
token-good p bad b k h = absurd (true≢false (sym h))

pub good-lexemes : (p : Place) (ls : List Lexeme) → all_good (punctuate p ls) ≡ true → all_lexed ls ≡ true
unfolding punctuate
good-lexemes p [] h = refl
good-lexemes p (token u ∷ ls) h =
    let one = at-good p u ls h in ap₂ (λ a b. a && b) (token-good p u (begins_colon ls) (λ next. punctuate next ls) (sym (ap all_good (at-token p u ls)) ∙ h)) (good-lexemes one.next ls one.good)
good-lexemes fresh (comma ∷ ls) h = absurd (true≢false (sym h))
good-lexemes after_value (comma ∷ ls) h = good-lexemes after_comma ls h
good-lexemes after_comma (comma ∷ ls) h = absurd (true≢false (sym h))
good-lexemes after_key (comma ∷ ls) h = absurd (true≢false (sym h))
good-lexemes fresh (colon ∷ ls) h = absurd (true≢false (sym h))
good-lexemes after_value (colon ∷ ls) h = absurd (true≢false (sym h))
good-lexemes after_comma (colon ∷ ls) h = absurd (true≢false (sym h))
good-lexemes after_key (colon ∷ ls) h = good-lexemes fresh ls h

-- what follows good tokens is good
pub good-rest : (ts us : List Token) → all_good (ts ++ us) ≡ true → all_good us ≡ true
good-rest [] us h = h
good-rest (t ∷ ts) us h = good-rest ts us (and_parts (is_good t) (all_good (ts ++ us)) h).1

mutual
  pub good-json : (j : json.Json) (ts : List Token) → all_good ts ≡ true → all_good (json_tokens j ++ ts) ≡ true
  good-json json.null ts h = h
  good-json (json.boolean b) ts h = h
  good-json (json.number s) ts h = h
  good-json (json.string s) ts h = h
  good-json (json.array js) ts h = good-items js ts h
  good-json (json.object ms) ts h = good-members ms ts h

  good-items : (js : json.Items) (ts : List Token) → all_good ts ≡ true → all_good (items_tokens js ++ ts) ≡ true
  good-items json.no_items ts h = h
  good-items (json.item j js) ts h = ap all_good (append_assoc (json_tokens j) (items_tokens js) ts) ∙ good-json j (items_tokens js ++ ts) (good-items js ts h)

  good-members : (ms : json.Members) (ts : List Token) → all_good ts ≡ true → all_good (members_tokens ms ++ ts) ≡ true
  good-members json.no_members ts h = h
  good-members (json.member k j ms) ts h = ap all_good (append_assoc (json_tokens j) (members_tokens ms) ts) ∙ good-json j (members_tokens ms ++ ts) (good-members ms ts h)

-- a token that begins a value, where another place allows it
pub record SamePlace (q p : Place) (u : Token) (b : Bool) (k : Place → List Token) : Type 0 where
  pub begins : may_begin q ≡ true
  pub same : place_token q u b k ≡ place_token p u b k

module _ (q p : Place) (k : Place → List Token) (t : Token) (ts : List Token) (good : is_good t ≡ true) (inner : weight t ≡ closes → ⊥) (begin : may_begin p ≡ true) where
  if-same : (u v : Token) (b : Bool) (next : Place) → ((r : Place) → place_token r u b k ≡ if_allowed (may_begin r) v k next) → all_good (place_token q u b k) ≡ true → SamePlace q p u b k
  if-same u v b next same h =
      let a = allowed (may_begin q) v k next (sym (ap all_good (same q)) ∙ h) in
      record { begins = a.is; same = same q ∙ ap (λ c. if_allowed c v k next) (a.is ∙ sym begin) ∙ sym (same p) }

  pub same-place : (u : Token) (b : Bool) → place_token p u b k ≡ t ∷ ts → all_good (place_token q u b k) ≡ true → SamePlace q p u b k
  same-place begin_object b e h = if-same begin_object begin_object b fresh (λ r. refl) h
  same-place end_object b e h = absurd (inner (sym (ap weight (is-allowed (may_close p) end_object t k after_value ts e good).first)))
  same-place begin_array b e h = if-same begin_array begin_array b fresh (λ r. refl) h
  same-place end_array b e h = absurd (inner (sym (ap weight (is-allowed (may_close p) end_array t k after_value ts e good).first)))
  same-place (key s) b e h = never-bad t ts e good
  same-place (string s) true e h = if-same (string s) (key s) true after_key (λ r. refl) h
  same-place (string s) false e h = if-same (string s) (string s) false after_value (λ r. refl) h
  same-place (number s) b e h = if-same (number s) (number s) b after_value (λ r. refl) h
  same-place (boolean v) b e h = if-same (boolean v) (boolean v) b after_value (λ r. refl) h
  same-place null b e h = if-same null null b after_value (λ r. refl) h
  same-place bad b e h = never-bad t ts e good
