-- Commas and colons in a part of a text: a part that closes its brackets has the same tokens alone.
use Rattle.std.proofs.Common.{◌≡◌, ℕ, zero, suc, Bool, true, false, List, [], ◌∷◌, ◌++◌, refl, sym, ap, ◌∙◌, subst, append_assoc}
use Rattle.std.specs.Prelude.{⊤}
use Rattle.std.proofs.lemmas.Bool.{true≢false, and_parts}
use Rattle.json.specs.Token.{Token, begin_object, end_object, begin_array, end_array, key, string, number, boolean, null, bad}
use Rattle.json.specs.Align.{is_good}
use Rattle.json.specs.Lex.{Lexeme, token, comma, colon, Place, fresh, after_value, after_comma, after_key, begins_colon, may_begin, may_close, if_allowed, place_token, punctuate}
use Rattle.odb_spans.specs.Extents.{flat, weight, lexeme_weight, level, first_level}
use Rattle.odb_spans.proofs.LexLemmas.{taken, left, first_taken, first_left}
use Rattle.odb_spans.proofs.TokenLemmas.{closes_all}

abbrev pub place_after : Token → Place
place_after begin_object = fresh
place_after end_object = after_value
place_after begin_array = fresh
place_after end_array = after_value
place_after (key s) = after_key
place_after (string s) = after_value
place_after (number s) = after_value
place_after (boolean b) = after_value
place_after null = after_value
place_after bad = after_value

-- a colon comes after a key, and not after a string
abbrev pub Colon : Token → List Lexeme → Type 0
Colon begin_object ls = ⊤
Colon end_object ls = ⊤
Colon begin_array ls = ⊤
Colon end_array ls = ⊤
Colon (key s) ls = begins_colon ls ≡ true
Colon (string s) ls = begins_colon ls ≡ false
Colon (number s) ls = ⊤
Colon (boolean b) ls = ⊤
Colon null ls = ⊤
Colon bad ls = ⊤

-- t is the first token at the place, and us are the others
pub record Uncons (q : Place) (ls : List Lexeme) (t : Token) (us : List Token) : Type 0 where
  pub front : List Lexeme
  pub rest : List Lexeme
  pub takes : (n : ℕ) → taken (suc n) ls ≡ front ++ taken (level (weight t) n) rest
  pub leaves : (n : ℕ) → left (suc n) ls ≡ left (level (weight t) n) rest
  pub takes_first : may_begin q ≡ true → first_taken ls ≡ front ++ taken (first_level (weight t)) rest
  pub leaves_first : may_begin q ≡ true → first_left ls ≡ left (first_level (weight t)) rest
  pub follow : us ≡ punctuate (place_after t) rest
  pub colon : Colon t rest
  pub again : (ms : List Lexeme) → Colon t ms → punctuate q (front ++ ms) ≡ t ∷ punctuate (place_after t) ms
  pub anew : may_begin q ≡ true → (ms : List Lexeme) → Colon t ms → punctuate fresh (front ++ ms) ≡ t ∷ punctuate (place_after t) ms

pub at-token : (q : Place) (t : Token) (ls : List Lexeme) → punctuate q (token t ∷ ls) ≡ place_token q t (begins_colon ls) (λ next. punctuate next ls)
unfolding punctuate
at-token fresh t ls = refl
at-token after_value t ls = refl
at-token after_comma t ls = refl
at-token after_key t ls = refl

-- what is allowed comes first
pub record Allowed (c : Bool) (u t : Token) (vs us : List Token) : Type 0 where
  pub allowed : c ≡ true
  pub first : u ≡ t
  pub follow : vs ≡ us

pub is-allowed : (c : Bool) (u t : Token) (k : Place → List Token) (next : Place) (us : List Token) → if_allowed c u k next ≡ t ∷ us → is_good t ≡ true → Allowed c u t (k next) us
is-allowed true u t k next us e good = record {
  allowed = refl;
  first = ap (λ l. elim l as (λ x. Token) [ [] ↦ u | x ∷ xs ↦ x ]) e;
  follow = ap (λ l. elim l as (λ x. List Token) [ [] ↦ [] | x ∷ xs ↦ xs ]) e;
}
is-allowed false u t k next us e good =
    absurd (true≢false (sym good ∙ ap is_good (sym (ap (λ l. elim l as (λ x. Token) [ [] ↦ bad | x ∷ xs ↦ x ]) e))))

-- a token that no colon changes
module _ (q : Place) (u : Token) (c : Bool) (ls : List Lexeme) (t : Token) (us : List Token) where
  plain-token : ((b : Bool) (k : Place → List Token) → place_token q u b k ≡ if_allowed c u k (place_after u))
      → ((b : Bool) (k : Place → List Token) → place_token fresh u b k ≡ u ∷ k (place_after u))
      → ((ms : List Lexeme) → Colon u ms) → place_token q u (begins_colon ls) (λ next. punctuate next ls) ≡ t ∷ us → is_good t ≡ true → Uncons q (token u ∷ ls) t us
  plain-token same start free e good =
      let h = is-allowed c u t (λ next. punctuate next ls) (place_after u) us (sym (same (begins_colon ls) (λ next. punctuate next ls)) ∙ e) good in
      let found : Uncons q (token u ∷ ls) u (punctuate (place_after u) ls) = record {
        front = token u ∷ [];
        rest = ls;
        takes = λ n. refl;
        leaves = λ n. refl;
        takes_first = λ m. refl;
        leaves_first = λ m. refl;
        follow = refl;
        colon = free ls;
        again = λ ms k. at-token q u ms ∙ same (begins_colon ms) (λ next. punctuate next ms) ∙ ap (λ b. if_allowed b u (λ next. punctuate next ms) (place_after u)) h.allowed;
        anew = λ m ms k. at-token fresh u ms ∙ start (begins_colon ms) (λ next. punctuate next ms);
      } in
      subst (λ x. Uncons q (token u ∷ ls) x us) h.first (subst (Uncons q (token u ∷ ls) u) h.follow found)

-- a key or a string, by the colon
text-token : (q : Place) (s : List ℕ) (b : Bool) (ls : List Lexeme) (t : Token) (us : List Token) → begins_colon ls ≡ b → place_token q (string s) b (λ next. punctuate next ls) ≡ t ∷ us → is_good t ≡ true
    → Uncons q (token (string s) ∷ ls) t us
text-token q s true ls t us is e good =
    let h = is-allowed (may_begin q) (key s) t (λ next. punctuate next ls) after_key us e good in
    let found : Uncons q (token (string s) ∷ ls) (key s) (punctuate after_key ls) = record {
      front = token (string s) ∷ [];
      rest = ls;
      takes = λ n. refl;
      leaves = λ n. refl;
      takes_first = λ m. refl;
      leaves_first = λ m. refl;
      follow = refl;
      colon = is;
      again = λ ms k. at-token q (string s) ms ∙ ap (λ b. place_token q (string s) b (λ next. punctuate next ms)) k ∙ ap (λ b. if_allowed b (key s) (λ next. punctuate next ms) after_key) h.allowed;
      anew = λ m ms k. at-token fresh (string s) ms ∙ ap (λ b. place_token fresh (string s) b (λ next. punctuate next ms)) k;
    } in
    subst (λ x. Uncons q (token (string s) ∷ ls) x us) h.first (subst (Uncons q (token (string s) ∷ ls) (key s)) h.follow found)
text-token q s false ls t us is e good =
    let h = is-allowed (may_begin q) (string s) t (λ next. punctuate next ls) after_value us e good in
    let found : Uncons q (token (string s) ∷ ls) (string s) (punctuate after_value ls) = record {
      front = token (string s) ∷ [];
      rest = ls;
      takes = λ n. refl;
      leaves = λ n. refl;
      takes_first = λ m. refl;
      leaves_first = λ m. refl;
      follow = refl;
      colon = is;
      again = λ ms k. at-token q (string s) ms ∙ ap (λ b. place_token q (string s) b (λ next. punctuate next ms)) k ∙ ap (λ b. if_allowed b (string s) (λ next. punctuate next ms) after_value) h.allowed;
      anew = λ m ms k. at-token fresh (string s) ms ∙ ap (λ b. place_token fresh (string s) b (λ next. punctuate next ms)) k;
    } in
    subst (λ x. Uncons q (token (string s) ∷ ls) x us) h.first (subst (Uncons q (token (string s) ∷ ls) (string s)) h.follow found)

pub never-bad : {P : Type 0} (t : Token) (us : List Token) → bad ∷ [] ≡ t ∷ us → is_good t ≡ true → P
never-bad t us e good = absurd (true≢false (sym good ∙ ap is_good (sym (ap (λ l. elim l as (λ x. Token) [ [] ↦ bad | x ∷ xs ↦ x ]) e))))

uncons-token : (q : Place) (u : Token) (ls : List Lexeme) (t : Token) (us : List Token) → place_token q u (begins_colon ls) (λ next. punctuate next ls) ≡ t ∷ us → is_good t ≡ true → Uncons q (token u ∷ ls) t us
uncons-token q begin_object ls t us e good = plain-token q begin_object (may_begin q) ls t us (λ b k. refl) (λ b k. refl) (λ ms. tt) e good
uncons-token q end_object ls t us e good = plain-token q end_object (may_close q) ls t us (λ b k. refl) (λ b k. refl) (λ ms. tt) e good
uncons-token q begin_array ls t us e good = plain-token q begin_array (may_begin q) ls t us (λ b k. refl) (λ b k. refl) (λ ms. tt) e good
uncons-token q end_array ls t us e good = plain-token q end_array (may_close q) ls t us (λ b k. refl) (λ b k. refl) (λ ms. tt) e good
uncons-token q (key s) ls t us e good = never-bad t us e good
uncons-token q (string s) ls t us e good = text-token q s (begins_colon ls) ls t us refl e good
uncons-token q (number s) ls t us e good = plain-token q (number s) (may_begin q) ls t us (λ b k. refl) (λ b k. refl) (λ ms. tt) e good
uncons-token q (boolean v) ls t us e good = plain-token q (boolean v) (may_begin q) ls t us (λ b k. refl) (λ b k. refl) (λ ms. tt) e good
uncons-token q null ls t us e good = plain-token q null (may_begin q) ls t us (λ b k. refl) (λ b k. refl) (λ ms. tt) e good
uncons-token q bad ls t us e good = never-bad t us e good

-- a separator goes before
after-separator : (p q : Place) (l : Lexeme) (ls : List Lexeme) (t : Token) (us : List Token) → may_begin p ≡ false → lexeme_weight l ≡ flat → ((ms : List Lexeme) → punctuate p (l ∷ ms) ≡ punctuate q ms)
    → Uncons q ls t us → Uncons p (l ∷ ls) t us
after-separator p q l ls t us never light same h = record {
  front = l ∷ h.front;
  rest = h.rest;
  takes = λ n. ap (λ w. l ∷ taken (level w n) ls) light ∙ ap (λ m. l ∷ m) (h.takes n);
  leaves = λ n. ap (λ w. left (level w n) ls) light ∙ h.leaves n;
  takes_first = λ m. absurd (true≢false (sym m ∙ never));
  leaves_first = λ m. absurd (true≢false (sym m ∙ never));
  follow = h.follow;
  colon = h.colon;
  again = λ ms k. same (h.front ++ ms) ∙ h.again ms k;
  anew = λ m. absurd (true≢false (sym m ∙ never));
}

pub no-token : {P : Type 0} (t : Token) (us : List Token) → [] ≡ t ∷ us → P
no-token t us e = absurd (true≢false (ap (λ l. elim l as (λ x. Bool) [ [] ↦ true | x ∷ xs ↦ false ]) e))

pub uncons : (q : Place) (ls : List Lexeme) (t : Token) (us : List Token) → punctuate q ls ≡ t ∷ us → is_good t ≡ true → Uncons q ls t us
unfolding punctuate
uncons fresh [] t us e good = no-token t us e
uncons after_value [] t us e good = no-token t us e
uncons after_comma [] t us e good = never-bad t us e good
uncons after_key [] t us e good = never-bad t us e good
uncons fresh (token u ∷ ls) t us e good = uncons-token fresh u ls t us e good
uncons after_value (token u ∷ ls) t us e good = uncons-token after_value u ls t us e good
uncons after_comma (token u ∷ ls) t us e good = uncons-token after_comma u ls t us e good
uncons after_key (token u ∷ ls) t us e good = uncons-token after_key u ls t us e good
uncons fresh (comma ∷ ls) t us e good = never-bad t us e good
uncons after_value (comma ∷ ls) t us e good = after-separator after_value after_comma comma ls t us refl refl (λ ms. refl) (uncons after_comma ls t us e good)
uncons after_comma (comma ∷ ls) t us e good = never-bad t us e good
uncons after_key (comma ∷ ls) t us e good = never-bad t us e good
uncons fresh (colon ∷ ls) t us e good = never-bad t us e good
uncons after_value (colon ∷ ls) t us e good = never-bad t us e good
uncons after_comma (colon ∷ ls) t us e good = never-bad t us e good
uncons after_key (colon ∷ ls) t us e good = after-separator after_key fresh colon ls t us refl refl (λ ms. refl) (uncons fresh ls t us e good)

-- ---- tokens until their brackets close

abbrev pub end_place : ℕ → Place → Place
end_place zero q = q
end_place (suc n) q = after_value

-- the tokens are those of the lexemes taken, and the others those of the lexemes left
pub record Follows (n : ℕ) (q : Place) (ls : List Lexeme) (ts us : List Token) : Type 0 where
  pub follow : us ≡ punctuate (end_place n q) (left n ls)
  pub again : (ms : List Lexeme) → punctuate q (taken n ls ++ ms) ≡ ts ++ punctuate (end_place n q) ms

ends-after-value : (t : Token) (n : ℕ) → end_place (level (weight t) n) (place_after t) ≡ after_value
ends-after-value begin_object n = refl
ends-after-value end_object zero = refl
ends-after-value end_object (suc n) = refl
ends-after-value begin_array n = refl
ends-after-value end_array zero = refl
ends-after-value end_array (suc n) = refl
ends-after-value (key s) n = refl
ends-after-value (string s) n = refl
ends-after-value (number s) n = refl
ends-after-value (boolean b) n = refl
ends-after-value null n = refl
ends-after-value bad n = refl

same-colon : (n : ℕ) (l : Lexeme) (ls ms : List Lexeme) → begins_colon (taken (suc n) (l ∷ ls) ++ ms) ≡ begins_colon (l ∷ ls)
same-colon n (token t) ls ms = refl
same-colon n comma ls ms = refl
same-colon n colon ls ms = refl

not-empty : {P : Type 0} (n : ℕ) (ts us : List Token) → closes_all (suc n) ts ≡ true → [] ≡ ts ++ us → P
not-empty n [] us h e = absurd (true≢false (sym h))
not-empty n (t ∷ ts) us h e = no-token t (ts ++ us) e

kept-string : (s : List ℕ) (n : ℕ) (ls ms : List Lexeme) (ts us : List Token) → begins_colon ls ≡ false → closes_all (suc n) ts ≡ true → punctuate after_value ls ≡ ts ++ us → begins_colon (taken (suc n) ls ++ ms) ≡ false
unfolding punctuate
kept-string s n [] ms ts us k h e = not-empty n ts us h e
kept-string s n (l ∷ ls) ms ts us k h e = same-colon n l ls ms ∙ k

kept-key : (n : ℕ) (ls ms : List Lexeme) → begins_colon ls ≡ true → begins_colon (taken (suc n) ls ++ ms) ≡ true
kept-key n [] ms k = absurd (true≢false (sym k))
kept-key n (l ∷ ls) ms k = same-colon n l ls ms ∙ k

kept : (t : Token) (n : ℕ) (ls ms : List Lexeme) (ts us : List Token) → Colon t ls → closes_all (level (weight t) n) ts ≡ true → punctuate (place_after t) ls ≡ ts ++ us → Colon t (taken (level (weight t) n) ls ++ ms)
kept begin_object n ls ms ts us k h e = tt
kept end_object n ls ms ts us k h e = tt
kept begin_array n ls ms ts us k h e = tt
kept end_array n ls ms ts us k h e = tt
kept (key s) n ls ms ts us k h e = kept-key n ls ms k
kept (string s) n ls ms ts us k h e = kept-string s n ls ms ts us k h e
kept (number s) n ls ms ts us k h e = tt
kept (boolean b) n ls ms ts us k h e = tt
kept null n ls ms ts us k h e = tt
kept bad n ls ms ts us k h e = tt

pub follows : (ts : List Token) (n : ℕ) (q : Place) (ls : List Lexeme) (us : List Token) → closes_all n ts ≡ true → punctuate q ls ≡ ts ++ us → Follows n q ls ts us
follows [] zero q ls us h e = record { follow = sym e; again = λ ms. refl }
follows [] (suc n) q ls us h e = absurd (true≢false (sym h))
follows (t ∷ ts) zero q ls us h e = absurd (true≢false (sym h))
follows (t ∷ ts) (suc n) q ls us h e =
    let good = and_parts (is_good t) (closes_all (level (weight t) n) ts) h in
    let one = uncons q ls t (ts ++ us) e good.0 in
    let later = follows ts (level (weight t) n) (place_after t) one.rest us good.1 (sym one.follow) in
    record {
      follow = later.follow ∙ ap (λ p. punctuate p (left (level (weight t) n) one.rest)) (ends-after-value t n) ∙ ap (punctuate after_value) (sym (one.leaves n));
      again = λ ms.
          ap (λ l. punctuate q (l ++ ms)) (one.takes n) ∙ ap (punctuate q) (append_assoc one.front (taken (level (weight t) n) one.rest) ms)
          ∙ one.again (taken (level (weight t) n) one.rest ++ ms) (kept t n one.rest ms ts us one.colon good.1 (sym one.follow))
          ∙ ap (λ l. t ∷ l) (later.again ms ∙ ap (λ p. ts ++ punctuate p ms) (ends-after-value t n));
    }
