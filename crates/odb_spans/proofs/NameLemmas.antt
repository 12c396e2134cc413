-- A string between quotes, without a backslash, has the bytes between them as its content.
use Rattle.std.proofs.Common.{◌≡◌, ◌∙◌, ◌⊎◌, ℕ, suc, ◌+◌, ◌-◌, ◌<◌, ◌≤◌, Bool, true, false, cond, ◌==◌, nat_lt, List, [], ◌∷◌, ◌++◌, length, take, drop, get_or, slice_index, Option, Some, None, inl, inr, refl, sym, ap, arith}
use Rattle.std.proofs.lemmas.List.{take_all, take_more}
use Rattle.json.specs.Token.{Token, begin_object, end_object, begin_array, end_array, key, string, number, boolean, null, bad}
use Rattle.json.specs.Text.{plain, after_backslash, prepend, content}
use Rattle.json.specs.Word.{is_operator, is_space}
use Rattle.json.specs.Lex.{Lexeme, token, comma, colon, Class, quote, backslash, operator, space, other, class, string_token, Mode, between, in_string, in_escape, lex_byte, lex, Place, fresh, after_value, after_comma, begins_colon, may_begin, may_close, if_allowed, place_token, punctuate, tokens}
use Rattle.odb_spans.proofs.PlaceLemmas.{at-token}

-- ---- a text with no token has no lexeme

if-some : {P : Type 0} (b : Bool) (t : Token) (k : Place → List Token) (next : Place) → if_allowed b t k next ≡ [] → P
if-some true t k next e = absurd (cc (e))
if-some false t k next e = absurd (cc (e))

place-some : {P : Type 0} (p : Place) (t : Token) (b : Bool) (k : Place → List Token) → place_token p t b k ≡ [] → P
place-some p begin_object b k e = if-some (may_begin p) begin_object k fresh e
place-some p end_object b k e = if-some (may_close p) end_object k after_value e
place-some p begin_array b k e = if-some (may_begin p) begin_array k fresh e
place-some p end_array b k e = if-some (may_close p) end_array k after_value e
place-some p (key s) b k e = absurd (cc (e))
place-some p (string s) true k e = if-some (may_begin p) (key s) k _ e
place-some p (string s) false k e = if-some (may_begin p) (string s) k after_value e
place-some p (number s) b k e = if-some (may_begin p) (number s) k after_value e
place-some p (boolean v) b k e = if-some (may_begin p) (boolean v) k after_value e
place-some p null b k e = if-some (may_begin p) null k after_value e
place-some p bad b k e = absurd (cc (e))

after-comma : {P : Type 0} (ls : List Lexeme) → punctuate after_comma ls ≡ [] → P
unfolding punctuate
after-comma [] e = absurd (cc (e))
after-comma (token t ∷ ls) e = place-some after_comma t (begins_colon ls) (λ next. punctuate next ls) e
after-comma (comma ∷ ls) e = absurd (cc (e))
after-comma (colon ∷ ls) e = absurd (cc (e))

no-lexeme : (ls : List Lexeme) → punctuate after_value ls ≡ [] → ls ≡ []
unfolding punctuate
no-lexeme [] e = refl
no-lexeme (token t ∷ ls) e = place-some after_value t (begins_colon ls) (λ next. punctuate next ls) e
no-lexeme (comma ∷ ls) e = after-comma ls e
no-lexeme (colon ∷ ls) e = absurd (cc (e))

blank-byte : {P : Type 0} (c : Class) (x : ℕ) (xs : List ℕ) (k : Mode → List Lexeme) → lex_byte between c x xs k ≡ [] → (c ≡ space → k between ≡ [] → P) → P
blank-byte quote x xs k e f = absurd (cc (e))
blank-byte backslash x xs k e f = absurd (cc (e))
blank-byte operator x xs k e f = absurd (cc (e))
blank-byte space x xs k e f = f refl e
blank-byte other x xs k e f = absurd (cc (e))

quote-last : {P : Type 0} (front : List ℕ) → lex between (front ++ 34 ∷ []) ≡ [] → P
unfolding lex
quote-last [] e = absurd (cc (e))
quote-last (x ∷ front) e = blank-byte (class x) x (front ++ 34 ∷ []) (λ next. lex next (front ++ 34 ∷ [])) e (λ is more. quote-last front more)

-- ---- the content

text-byte : (q b o s : Bool) (x : ℕ) (xs : List ℕ) (k : Mode → List Lexeme) → lex_byte in_string (cond q quote (cond b backslash (cond o operator (cond s space other)))) x xs k ≡ cond q (k between) (cond b (k in_escape) (k in_string))
text-byte true b o s x xs k = refl
text-byte false true o s x xs k = refl
text-byte false false true s x xs k = refl
text-byte false false false true x xs k = refl
text-byte false false false false x xs k = refl

-- the content is the whole inner part, or the string ends within it
abbrev IsWhole : List ℕ → List ℕ → Type 0
IsWhole inner k = (inner ≡ k) ⊎ ((rest : List ℕ) × (lex in_string (inner ++ 34 ∷ []) ≡ lex between (rest ++ 34 ∷ [])))

abbrev IsFree : List ℕ → Type 0
IsFree inner = (k : ℕ) → k < length inner → (slice_index inner k == 92) ≡ true → ⊥

prepended : (x : ℕ) (inner k : List ℕ) (o : Option (List ℕ)) → content plain (inner ++ 34 ∷ []) ≡ o → prepend (x ∷ []) o ≡ Some k → ((l : List ℕ) → content plain (inner ++ 34 ∷ []) ≡ Some l → IsWhole inner l) → lex in_string (x ∷ (inner ++ 34 ∷ [])) ≡ lex in_string (inner ++ 34 ∷ [])
    → IsWhole (x ∷ inner) k
prepended x inner k None is e ih passes = absurd (cc (e))
prepended x inner k (Some l) is e ih passes =
    let same : x ∷ l ≡ k = cc (e) in
    elim (ih l is) [
      | inl whole ↦ inl (ap (λ m. x ∷ m) whole ∙ same)
      | inr ends ↦ inr (ends.0, passes ∙ ends.1)
    ]

one-byte : (q b l : Bool) (x : ℕ) (inner k : List ℕ) → (b ≡ true → ⊥) → cond q (Some []) (cond b (content after_backslash (inner ++ 34 ∷ [])) (cond l None (prepend (x ∷ []) (content plain (inner ++ 34 ∷ []))))) ≡ Some k
    → ((m : List ℕ) → content plain (inner ++ 34 ∷ []) ≡ Some m → IsWhole inner m)
    → lex in_string (x ∷ (inner ++ 34 ∷ [])) ≡ cond q (lex between (inner ++ 34 ∷ [])) (cond b (lex in_escape (inner ++ 34 ∷ [])) (lex in_string (inner ++ 34 ∷ []))) → IsWhole (x ∷ inner) k
one-byte true b l x inner k free e ih passes = inr (inner, passes)
one-byte false true l x inner k free e ih passes = absurd (free refl)
one-byte false false true x inner k free e ih passes = absurd (cc (e))
one-byte false false false x inner k free e ih passes = prepended x inner k (content plain (inner ++ 34 ∷ [])) refl e ih passes

inner-content : (inner k : List ℕ) → IsFree inner → content plain (inner ++ 34 ∷ []) ≡ Some k → IsWhole inner k
unfolding content lex
inner-content [] k free e = inl (cc (e))
inner-content (x ∷ inner) k free e =
    one-byte (x == 34) (x == 92) (nat_lt x 32) x inner k (free 0 (omega arith)) e (λ l more. inner-content inner l (λ n less. free (suc n) (omega (arith, less))) more)
    (text-byte (x == 34) (x == 92) (is_operator x) (is_space x) x (inner ++ 34 ∷ []) (λ next. lex next (inner ++ 34 ∷ [])))

-- the one token is this string, and nothing follows it
only-token : (o : Option (List ℕ)) (ls : List Lexeme) (k : List ℕ) (b : Bool) → place_token fresh (string_token o) b (λ next. punctuate next ls) ≡ string k ∷ [] → (o ≡ Some k) × (punctuate after_value ls ≡ [])
only-token None ls k b e = absurd (cc (e))
only-token (Some s) ls k true e = absurd (cc (e))
only-token (Some s) ls k false e = (cc (e), cc (e))

between-quotes : (inner k : List ℕ) → IsFree inner → tokens (34 ∷ (inner ++ 34 ∷ [])) ≡ string k ∷ [] → inner ≡ k
unfolding lex
between-quotes inner k free e =
    let ls = lex in_string (inner ++ 34 ∷ []) in
    let only = only-token (content plain (inner ++ 34 ∷ [])) ls k (begins_colon ls) (sym (at-token fresh (string_token (content plain (inner ++ 34 ∷ []))) ls) ∙ e) in
    elim (inner-content inner k free only.0) [
      | inl whole ↦ whole
      | inr ends ↦ quote-last ends.0 (sym ends.1 ∙ no-lexeme ls only.1)
    ]

quoted : (bytes : List ℕ) (n : ℕ) → n + 2 ≡ length bytes → get_or bytes 0 0 ≡ 34 → get_or bytes (length bytes - 1) 0 ≡ 34 → bytes ≡ 34 ∷ (take n (drop 1 bytes) ++ 34 ∷ [])
quoted [] n long first last = absurd (omega (arith, long))
quoted (x ∷ xs) n long first last =
    let end : length (x ∷ xs) - 1 ≡ suc n = omega (arith, long) in
    let whole : length xs ≤ n + 1 = omega (arith, long) in
    let less : n < length xs = omega (arith, long) in
    let here : get_or xs n 0 ≡ 34 = ap (λ i. get_or (x ∷ xs) i 0) (sym end) ∙ last in
    ap (λ y. y ∷ xs) first ∙ ap (λ l. 34 ∷ l) (sym (take_all (n + 1) xs whole) ∙ take_more xs n 0 less ∙ ap (λ y. take n xs ++ y ∷ []) here)

pub plain-name : (bytes k : List ℕ) (n : ℕ) → n + 2 ≡ length bytes → get_or bytes 0 0 ≡ 34 → get_or bytes (length bytes - 1) 0 ≡ 34 → IsFree (take n (drop 1 bytes)) → tokens bytes ≡ string k ∷ [] → take n (drop 1 bytes) ≡ k
plain-name bytes k n long first last free e = between-quotes _ k free (ap tokens (sym (quoted bytes n long first last)) ∙ e)
