-- The lexeme at a byte, and what it is among the tokens.
use Rattle.std.proofs.Common.{◌≡◌, ◌∙◌, ℕ, ◌+◌, ◌<◌, ◌≤◌, List, [], ◌∷◌, length, drop, get_or, Bool, true, false, cond, ◌==◌, refl, sym, ap, subst}
use Rattle.std.specs.Prelude.{⊤}
use Rattle.std.proofs.lemmas.Bool.{true≢false}
use Rattle.std.proofs.lemmas.List.{at_drop_more, at_drop_all}
use Rattle.json.specs.Token.{Token, begin_object, end_object, begin_array, end_array, key, string, number, boolean, null, bad}
use Rattle.json.specs.Align.{is_blank, is_good}
use Rattle.json.specs.Lex.{Lexeme, token, comma, colon, Class, quote, backslash, operator, space, other, between, class, operator_lexeme, lex, lex_byte, Place, fresh, after_value, after_comma, after_key, begins_colon, may_begin, may_close, place_token, punctuate}
use Rattle.odb_spans.specs.Extents.{Weight, opens, closes, flat, weight, lexeme_weight}
use Rattle.odb_spans.specs.Kinds.{IsKind, is_close, is_separator}
use Rattle.odb_spans.specs.Walks.{lexemes_from, IsInside, Faces, StepsOn}
use Rattle.odb_spans.specs.declared.byte.Kind.{Kind}
use Rattle.odb_spans.specs.declared.byte.Kind.TheVariants.{Quote, Backslash, Open, Close, Separator, Blank, Other}
use Rattle.odb_spans.proofs.LexLemmas.{string-flat, word-flat}
use Rattle.odb_spans.proofs.PlaceLemmas.{at-token, never-bad, no-token, is-allowed}

-- ---- weights

abbrev is_flat : Weight → Bool
is_flat opens = false
is_flat closes = false
is_flat flat = true

abbrev is_closing : Weight → Bool
is_closing opens = false
is_closing closes = true
is_closing flat = false

pub flat≢closes : flat ≡ closes → ⊥
flat≢closes e = true≢false (ap is_flat e)

pub opens≢closes : opens ≡ closes → ⊥
opens≢closes e = true≢false (sym (ap is_closing e))

pub closes≢opens : closes ≡ opens → ⊥
closes≢opens e = opens≢closes (sym e)

pub flat≢opens : flat ≡ opens → ⊥
flat≢opens e = true≢false (ap is_flat e)

pub opens≢flat : opens ≡ flat → ⊥
opens≢flat e = true≢false (sym (ap is_flat e))

-- ---- the first lexeme

abbrev IsToken : Lexeme → Type 0
IsToken (token t) = ⊤
IsToken comma = ⊥
IsToken colon = ⊥

abbrev IsSeparator : Lexeme → Type 0
IsSeparator (token t) = ⊥
IsSeparator comma = ⊤
IsSeparator colon = ⊤

by-test : (P : Lexeme → Type 0) (b : Bool) (x y : Lexeme) → P x → P y → P (cond b x y)
by-test P true x y p q = p
by-test P false x y p q = q

-- a flat operator is a separator
flat-separates : (x : ℕ) → lexeme_weight (operator_lexeme x) ≡ flat → IsSeparator (operator_lexeme x)
flat-separates x =
    let P = λ (l : Lexeme). lexeme_weight l ≡ flat → IsSeparator l in
    by-test P (x == 123) _ _ (λ e. opens≢flat e) (by-test P (x == 125) _ _ (λ e. flat≢closes (sym e)) (by-test P (x == 91) _ _ (λ e. opens≢flat e) (by-test P (x == 93) _ _ (λ e. flat≢closes (sym e)) (by-test P (x == 44) _ _ (λ e. tt) (λ e. tt)))))

heavy-token : (w : Weight) (l : Lexeme) → is_flat w ≡ false → lexeme_weight l ≡ w → IsToken l
heavy-token w (token t) h e = tt
heavy-token w comma h e = true≢false (ap is_flat e ∙ h)
heavy-token w colon h e = true≢false (ap is_flat e ∙ h)

at-byte : (c : Class) (x : ℕ) (xs : List ℕ) → class x ≡ c → lex between (x ∷ xs) ≡ lex_byte between c x xs (λ next. lex next xs)
unfolding lex
at-byte c x xs e = ap (λ d. lex_byte between d x xs (λ next. lex next xs)) e

module _ (text : List ℕ) (at : ℕ) (within : at < length text) where
  abbrev x : ℕ
  x = get_or text at 0

  abbrev xs : List ℕ
  xs = drop (at + 1) text

  -- the lexemes there, by the class of the byte
  pub lexemes-at : (c : Class) → class x ≡ c → lexemes_from text at ≡ lex_byte between c x xs (λ next. lex next xs)
  lexemes-at c e = at_drop_more (lex between) text at 0 within ∙ at-byte c x xs e

  pub past-blank : IsKind Blank x → lexemes_from text at ≡ lexemes_from text (at + 1)
  past-blank is = lexemes-at space is.is

-- the lexemes begin with a token, or there are none
abbrev pub BeginWithToken : List Lexeme → Type 0
BeginWithToken [] = ⊤
BeginWithToken (l ∷ ls) = IsToken l

abbrev pub BeginWithSeparator : List Lexeme → List Lexeme → Type 0
BeginWithSeparator [] more = ⊥
BeginWithSeparator (l ∷ ls) more = IsSeparator l × (ls ≡ more)

pub begins-token : (text : List ℕ) (at : ℕ) (kind : Kind) → at < length text → IsKind kind (get_or text at 0) → is_separator kind ≡ false → is_blank (class (get_or text at 0)) ≡ false → BeginWithToken (lexemes_from text at)
begins-token text at Quote within is not solid = subst BeginWithToken (sym (lexemes-at text at within quote is.is)) tt
begins-token text at Backslash within is not solid = subst BeginWithToken (sym (lexemes-at text at within backslash is)) tt
begins-token text at Open within is not solid = subst BeginWithToken (sym (lexemes-at text at within operator is.is)) (heavy-token opens _ refl is.weighs)
begins-token text at Close within is not solid = subst BeginWithToken (sym (lexemes-at text at within operator is.is)) (heavy-token closes _ refl is.weighs)
begins-token text at Separator within is not solid = absurd (true≢false not)
begins-token text at Blank within is not solid = absurd (true≢false (sym (ap is_blank is.is) ∙ solid))
begins-token text at Other within is not solid = subst BeginWithToken (sym (lexemes-at text at within other is)) tt

pub begins-separator : (text : List ℕ) (at : ℕ) → at < length text → IsKind Separator (get_or text at 0) → BeginWithSeparator (lexemes_from text at) (lexemes_from text (at + 1))
begins-separator text at within is =
    subst (λ ls. BeginWithSeparator ls (lexemes_from text (at + 1))) (sym (lexemes-at text at within operator is.is)) (flat-separates (get_or text at 0) is.weighs, refl)

pub none-past : (text : List ℕ) (at : ℕ) → length text ≤ at → lexemes_from text at ≡ []
unfolding lex
none-past text at past = at_drop_all (lex between) text at past

-- ---- what is faced

module _ (text : List ℕ) (at : ℕ) (t : Token) (ts : List Token) (good : is_good t ≡ true) where
  -- no separator is there
  pub face-token : (q : Place) (ls : List Lexeme) → IsInside q → BeginWithToken ls → lexemes_from text at ≡ ls → punctuate q ls ≡ t ∷ ts → Faces text at t ts
  unfolding punctuate
  face-token fresh [] inside first is e = no-token t ts e
  face-token after_value [] inside first is e = no-token t ts e
  face-token after_comma [] inside first is e = absurd inside
  face-token after_key [] inside first is e = absurd inside
  face-token q (token u ∷ ls) inside first is e = record { place = q; first = u; rest = ls; lexed = is; placed = sym (at-token q u ls) ∙ e }
  face-token q (comma ∷ ls) inside first is e = absurd first
  face-token q (colon ∷ ls) inside first is e = absurd first

  -- what comes after a value without a comma closes
  after-value-closes : (u : Token) (b : Bool) (k : Place → List Token) → place_token after_value u b k ≡ t ∷ ts → weight t ≡ closes
  after-value-closes begin_object b k e = never-bad t ts e good
  after-value-closes end_object b k e = sym (ap weight (is-allowed (may_close after_value) end_object t k after_value ts e good).first)
  after-value-closes begin_array b k e = never-bad t ts e good
  after-value-closes end_array b k e = sym (ap weight (is-allowed (may_close after_value) end_array t k after_value ts e good).first)
  after-value-closes (key s) b k e = never-bad t ts e good
  after-value-closes (string s) true k e = never-bad t ts e good
  after-value-closes (string s) false k e = never-bad t ts e good
  after-value-closes (number s) b k e = never-bad t ts e good
  after-value-closes (boolean v) b k e = never-bad t ts e good
  after-value-closes null b k e = never-bad t ts e good
  after-value-closes bad b k e = never-bad t ts e good

  -- without a separator, what closes nothing comes first
  pub comes-first : (q : Place) (ls : List Lexeme) → IsInside q → BeginWithToken ls → punctuate q ls ≡ t ∷ ts → (weight t ≡ closes → ⊥) → q ≡ fresh
  unfolding punctuate
  comes-first fresh ls inside first e inner = refl
  comes-first after_value [] inside first e inner = no-token t ts e
  comes-first after_value (token u ∷ ls) inside first e inner = absurd (inner (after-value-closes u (begins_colon ls) (λ next. punctuate next ls) e))
  comes-first after_value (comma ∷ ls) inside first e inner = absurd first
  comes-first after_value (colon ∷ ls) inside first e inner = absurd first
  comes-first after_comma ls inside first e inner = absurd inside
  comes-first after_key ls inside first e inner = absurd inside

  after-comma : (ls : List Lexeme) → lexemes_from text at ≡ ls → punctuate after_comma ls ≡ t ∷ ts → Faces text at t ts
  unfolding punctuate
  after-comma [] is e = never-bad t ts e good
  after-comma (token u ∷ ls) is e = record { place = after_comma; first = u; rest = ls; lexed = is; placed = e }
  after-comma (comma ∷ ls) is e = never-bad t ts e good
  after-comma (colon ∷ ls) is e = never-bad t ts e good

  -- a separator was there before
  pub face-separator : (q : Place) (ls more : List Lexeme) → IsInside q → BeginWithSeparator ls more → lexemes_from text at ≡ more → punctuate q ls ≡ t ∷ ts → Faces text at t ts
  unfolding punctuate
  face-separator q [] more inside first is e = absurd first
  face-separator q (token u ∷ ls) more inside first is e = absurd first.0
  face-separator fresh (comma ∷ ls) more inside first is e = never-bad t ts e good
  face-separator after_value (comma ∷ ls) more inside first is e = after-comma ls (is ∙ sym first.1) e
  face-separator after_comma (comma ∷ ls) more inside first is e = absurd inside
  face-separator after_key (comma ∷ ls) more inside first is e = absurd inside
  face-separator fresh (colon ∷ ls) more inside first is e = never-bad t ts e good
  face-separator after_value (colon ∷ ls) more inside first is e = never-bad t ts e good
  face-separator after_comma (colon ∷ ls) more inside first is e = absurd inside
  face-separator after_key (colon ∷ ls) more inside first is e = absurd inside

  -- no token comes after a key without a colon
  no-value : {P : Type 0} (u : Token) (b : Bool) (k : Place → List Token) → place_token after_key u b k ≡ t ∷ ts → P
  no-value begin_object b k e = never-bad t ts e good
  no-value end_object b k e = never-bad t ts e good
  no-value begin_array b k e = never-bad t ts e good
  no-value end_array b k e = never-bad t ts e good
  no-value (key s) b k e = never-bad t ts e good
  no-value (string s) true k e = never-bad t ts e good
  no-value (string s) false k e = never-bad t ts e good
  no-value (number s) b k e = never-bad t ts e good
  no-value (boolean v) b k e = never-bad t ts e good
  no-value null b k e = never-bad t ts e good
  no-value bad b k e = never-bad t ts e good

  pub no-colon : {P : Type 0} (ls : List Lexeme) → BeginWithToken ls → punctuate after_key ls ≡ t ∷ ts → P
  unfolding punctuate
  no-colon [] first e = never-bad t ts e good
  no-colon (token u ∷ ls) first e = no-value u (begins_colon ls) (λ next. punctuate next ls) e
  no-colon (comma ∷ ls) first e = absurd first
  no-colon (colon ∷ ls) first e = absurd first

  pub past-colon : (ls more : List Lexeme) → BeginWithSeparator ls more → punctuate after_key ls ≡ t ∷ ts → punctuate fresh more ≡ t ∷ ts
  unfolding punctuate
  past-colon [] more first e = absurd first
  past-colon (token u ∷ ls) more first e = absurd first.0
  past-colon (comma ∷ ls) more first e = never-bad t ts e good
  past-colon (colon ∷ ls) more first e = ap (punctuate fresh) (sym first.1) ∙ e

-- ---- steps

pub kind-solid : (kind : Kind) (x : ℕ) → IsKind kind x → (kind ≡ Blank → ⊥) → is_blank (class x) ≡ false
kind-solid Quote x is no-blank = ap is_blank is.is
kind-solid Backslash x is no-blank = ap is_blank is
kind-solid Open x is no-blank = ap is_blank is.is
kind-solid Close x is no-blank = ap is_blank is.is
kind-solid Separator x is no-blank = ap is_blank is.is
kind-solid Blank x is no-blank = absurd (no-blank refl)
kind-solid Other x is no-blank = ap is_blank is

pub weight-of-first : (l : Lexeme) (ls : List Lexeme) (first : Token) (rest : List Lexeme) → l ∷ ls ≡ token first ∷ rest → lexeme_weight l ≡ weight first
weight-of-first l ls first rest e = ap (λ k. elim k as (λ x. Weight) [ [] ↦ flat | m ∷ ms ↦ lexeme_weight m ]) e

pub none-first : {P : Type 0} (l : Lexeme) (ls : List Lexeme) → [] ≡ l ∷ ls → P
none-first l ls e = absurd (true≢false (ap (λ k. elim k as (λ x. Bool) [ [] ↦ true | m ∷ ms ↦ false ]) e))

module _ (p : Place) (t : Token) (ts : List Token) (good : is_good t ≡ true) where
  pub placed-weight : (u : Token) (b : Bool) (k : Place → List Token) → place_token p u b k ≡ t ∷ ts → weight u ≡ weight t
  placed-weight begin_object b k e = ap weight (is-allowed (may_begin p) begin_object t k fresh ts e good).first
  placed-weight end_object b k e = ap weight (is-allowed (may_close p) end_object t k after_value ts e good).first
  placed-weight begin_array b k e = ap weight (is-allowed (may_begin p) begin_array t k fresh ts e good).first
  placed-weight end_array b k e = ap weight (is-allowed (may_close p) end_array t k after_value ts e good).first
  placed-weight (key s) b k e = never-bad t ts e good
  placed-weight (string s) true k e = ap weight (is-allowed (may_begin p) (key s) t k after_key ts e good).first
  placed-weight (string s) false k e = ap weight (is-allowed (may_begin p) (string s) t k after_value ts e good).first
  placed-weight (number s) b k e = ap weight (is-allowed (may_begin p) (number s) t k after_value ts e good).first
  placed-weight (boolean v) b k e = ap weight (is-allowed (may_begin p) (boolean v) t k after_value ts e good).first
  placed-weight null b k e = ap weight (is-allowed (may_begin p) null t k after_value ts e good).first
  placed-weight bad b k e = never-bad t ts e good

module _ (text : List ℕ) (at : ℕ) (within : at < length text) (t : Token) (ts : List Token) (good : is_good t ≡ true) where
  pub steps-out : IsKind Close (get_or text at 0) → Faces text at t ts → weight t ≡ closes
  steps-out is faces =
      let same = sym (lexemes-at text at within operator is.is) ∙ faces.lexed in
      sym (placed-weight faces.place t ts good faces.first (begins_colon faces.rest) (λ next. punctuate next faces.rest) faces.placed) ∙ sym (weight-of-first _ _ faces.first faces.rest same) ∙ is.weighs

  first-weight : (kind : Kind) (first : Token) (rest : List Lexeme) → IsKind kind (get_or text at 0) → is_close kind ≡ false → is_blank (class (get_or text at 0)) ≡ false → lexemes_from text at ≡ token first ∷ rest → weight first ≡ closes → ⊥
  first-weight Quote first rest is inner solid e w = flat≢closes (sym (string-flat _) ∙ weight-of-first _ _ first rest (sym (lexemes-at text at within quote is.is) ∙ e) ∙ w)
  first-weight Backslash first rest is inner solid e w = flat≢closes (weight-of-first _ _ first rest (sym (lexemes-at text at within backslash is) ∙ e) ∙ w)
  first-weight Open first rest is inner solid e w = opens≢closes (sym is.weighs ∙ weight-of-first _ _ first rest (sym (lexemes-at text at within operator is.is) ∙ e) ∙ w)
  first-weight Close first rest is inner solid e w = true≢false inner
  first-weight Separator first rest is inner solid e w = flat≢closes (sym is.weighs ∙ weight-of-first _ _ first rest (sym (lexemes-at text at within operator is.is) ∙ e) ∙ w)
  first-weight Blank first rest is inner solid e w = true≢false (sym (ap is_blank is.is) ∙ solid)
  first-weight Other first rest is inner solid e w = flat≢closes (sym (word-flat _) ∙ weight-of-first _ _ first rest (sym (lexemes-at text at within other is) ∙ e) ∙ w)

  pub steps-on : (kind : Kind) → IsKind kind (get_or text at 0) → is_close kind ≡ false → is_blank (class (get_or text at 0)) ≡ false → Faces text at t ts → StepsOn text at t ts
  steps-on kind is inner solid faces = record {
    inner = λ w. first-weight kind faces.first faces.rest is inner solid faces.lexed (placed-weight faces.place t ts good faces.first (begins_colon faces.rest) (λ next. punctuate next faces.rest) faces.placed ∙ w);
    faces = faces;
  }

-- nothing is faced at the end of the text
pub faces-none : {P : Type 0} (text : List ℕ) (at : ℕ) (t : Token) (ts : List Token) → length text ≤ at → Faces text at t ts → P
faces-none text at t ts past faces = none-first (token faces.first) faces.rest (sym (none-past text at past) ∙ faces.lexed)

pub separator-kind : (kind : Kind) (x : ℕ) → is_separator kind ≡ true → IsKind kind x → IsKind Separator x
separator-kind Quote x h is = absurd (true≢false (sym h))
separator-kind Backslash x h is = absurd (true≢false (sym h))
separator-kind Open x h is = absurd (true≢false (sym h))
separator-kind Close x h is = absurd (true≢false (sym h))
separator-kind Separator x h is = is
separator-kind Blank x h is = absurd (true≢false (sym h))
separator-kind Other x h is = absurd (true≢false (sym h))

pub close-kind : (kind : Kind) (x : ℕ) → is_close kind ≡ true → IsKind kind x → IsKind Close x
close-kind Quote x h is = absurd (true≢false (sym h))
close-kind Backslash x h is = absurd (true≢false (sym h))
close-kind Open x h is = absurd (true≢false (sym h))
close-kind Close x h is = is
close-kind Separator x h is = absurd (true≢false (sym h))
close-kind Blank x h is = absurd (true≢false (sym h))
close-kind Other x h is = absurd (true≢false (sym h))
