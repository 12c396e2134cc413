-- The last byte of a value is not blank.
use Rattle.std.proofs.Common.{◌≡◌, ◌∙◌, ℕ, zero, suc, ◌+◌, ◌-◌, ◌<◌, Bool, true, false, cond, ◌==◌, List, [], ◌∷◌, length, drop, get_or, ◌⊎◌, inl, inr, refl, sym, ap, arith}
use Rattle.std.specs.Prelude.{⊤}
use Rattle.std.proofs.lemmas.Bool.{true≢false, eqb-true}
use Rattle.std.proofs.lemmas.Bool.Decides.{nat_tests}
use Rattle.std.proofs.lemmas.List.{get_or-drop, length-drop}
use Rattle.json.specs.Align.{is_blank}
use Rattle.json.specs.Word.{is_operator, is_space}
use Rattle.json.specs.Lex.{Class, quote, backslash, operator, space, other, class, operator_lexeme, Mode, between, in_word, in_string, in_escape}
use Rattle.odb_spans.specs.Extents.{lexeme_weight, first_level, after_operator, extent_byte, extent, first_byte, value_extent}

-- in this state the value may have ended
abbrev MayEnd : Mode → ℕ → Type 0
MayEnd between zero = ⊤
MayEnd between (suc n) = ⊥
MayEnd in_word n = ⊤
MayEnd in_string n = ⊥
MayEnd in_escape n = ⊥

-- y is the byte before xs
abbrev EndsSolid : ℕ → ℕ → List ℕ → Type 0
EndsSolid e y xs = e < length xs → is_blank (class (get_or (y ∷ xs) e 0)) ≡ false

byte-ends : (y x : ℕ) (xs : List ℕ) (m : Mode) (c : Class) (n : ℕ) → class x ≡ c → (MayEnd m n → is_blank (class y) ≡ false)
    → ((m : Mode) (n : ℕ) → (MayEnd m n → is_blank (class x) ≡ false) → extent m n xs < length xs → is_blank (class (get_or (x ∷ xs) (extent m n xs) 0)) ≡ false)
    → EndsSolid (extent_byte m c n x (λ m n. extent m n xs)) y (x ∷ xs)
byte-ends y x xs between c zero e solid ih less = solid tt
byte-ends y x xs between quote (suc n) e solid ih less = ih in_string (suc n) (λ may. absurd may) (omega arith)
byte-ends y x xs between backslash (suc n) e solid ih less = ih in_word (suc n) (λ may. ap is_blank e) (omega arith)
byte-ends y x xs between operator (suc n) e solid ih less = ih between (after_operator x n) (λ may. ap is_blank e) (omega arith)
byte-ends y x xs between space (suc n) e solid ih less = ih between (suc n) (λ may. absurd may) (omega arith)
byte-ends y x xs between other (suc n) e solid ih less = ih in_word (suc n) (λ may. ap is_blank e) (omega arith)
byte-ends y x xs in_word quote n e solid ih less = ih in_word n (λ may. ap is_blank e) (omega arith)
byte-ends y x xs in_word backslash n e solid ih less = ih in_word n (λ may. ap is_blank e) (omega arith)
byte-ends y x xs in_word operator zero e solid ih less = solid tt
byte-ends y x xs in_word operator (suc n) e solid ih less = ih between (after_operator x n) (λ may. ap is_blank e) (omega arith)
byte-ends y x xs in_word space zero e solid ih less = solid tt
byte-ends y x xs in_word space (suc n) e solid ih less = ih between (suc n) (λ may. absurd may) (omega arith)
byte-ends y x xs in_word other n e solid ih less = ih in_word n (λ may. ap is_blank e) (omega arith)
byte-ends y x xs in_string quote n e solid ih less = ih between n (λ may. ap is_blank e) (omega arith)
byte-ends y x xs in_string backslash n e solid ih less = ih in_escape n (λ may. absurd may) (omega arith)
byte-ends y x xs in_string operator n e solid ih less = ih in_string n (λ may. absurd may) (omega arith)
byte-ends y x xs in_string space n e solid ih less = ih in_string n (λ may. absurd may) (omega arith)
byte-ends y x xs in_string other n e solid ih less = ih in_string n (λ may. absurd may) (omega arith)
byte-ends y x xs in_escape c n e solid ih less = ih in_string n (λ may. absurd may) (omega arith)

extent-ends : (y : ℕ) (xs : List ℕ) (m : Mode) (n : ℕ) → (MayEnd m n → is_blank (class y) ≡ false) → EndsSolid (extent m n xs) y xs
unfolding extent
extent-ends y [] m n solid less = absurd (omega arith)
extent-ends y (x ∷ xs) m n solid less = byte-ends y x xs m (class x) n refl solid (λ k j. extent-ends x xs k j) less

first-ends : (c : Class) (x : ℕ) (xs : List ℕ) → class x ≡ c → is_blank c ≡ false → EndsSolid (first_byte c x (λ m n. extent m n xs)) x xs
first-ends quote x xs e solid = extent-ends x xs in_string 0 (λ may. absurd may)
first-ends backslash x xs e solid = extent-ends x xs in_word 0 (λ may. ap is_blank e)
first-ends operator x xs e solid = extent-ends x xs between (first_level (lexeme_weight (operator_lexeme x))) (λ may. ap is_blank e)
first-ends space x xs e solid = absurd (true≢false solid)
first-ends other x xs e solid = extent-ends x xs in_word 0 (λ may. ap is_blank e)

value-ends : (xs : List ℕ) → is_blank (class (get_or xs 0 0)) ≡ false → value_extent xs < length xs → is_blank (class (get_or xs (value_extent xs - 1) 0)) ≡ false
unfolding value_extent
value-ends [] solid less = absurd (omega arith)
value-ends (x ∷ xs) solid less =
    let e = first_byte (class x) x (λ m n. extent m n xs) in
    let same : suc e - 1 ≡ e = omega arith in
    ap (λ k. is_blank (class (get_or (x ∷ xs) k 0))) same ∙ first-ends (class x) x xs refl solid (omega arith)

not-space : (q b o s : Bool) → (q ≡ true → s ≡ false) → (b ≡ true → s ≡ false) → (o ≡ true → s ≡ false) → is_blank (cond q quote (cond b backslash (cond o operator (cond s space other)))) ≡ false → s ≡ false
not-space true b o s f g h e = f refl
not-space false true o s f g h e = g refl
not-space false false true s f g h e = h refl
not-space false false false true f g h e = absurd (true≢false e)
not-space false false false false f g h e = refl

operator-apart : (x : ℕ) → is_operator x ≡ true → is_space x ≡ false
operator-apart x h = grind (arith, nat_tests)

pub solid-byte : (x : ℕ) → is_blank (class x) ≡ false → is_space x ≡ false
solid-byte x h = not-space (x == 34) (x == 92) (is_operator x) (is_space x) (λ e. ap is_space (eqb-true x 34 e)) (λ e. ap is_space (eqb-true x 92 e)) (operator-apart x) h

is-space : (q b o s : Bool) → is_blank (cond q quote (cond b backslash (cond o operator (cond s space other)))) ≡ true → s ≡ true
is-space true b o s e = absurd (true≢false (sym e))
is-space false true o s e = absurd (true≢false (sym e))
is-space false false true s e = absurd (true≢false (sym e))
is-space false false false true e = refl
is-space false false false false e = absurd (true≢false (sym e))

pub space-byte : (x : ℕ) → is_blank (class x) ≡ true → is_space x ≡ true
space-byte x e = is-space (x == 34) (x == 92) (is_operator x) (is_space x) e

-- the bytes up to a blank are blanks, if those before it are
pub blanks-through : (text : List ℕ) (end : ℕ) → is_space (get_or text end 0) ≡ true → (k : ℕ) → k < end + 1 → (k < end → is_space (get_or text k 0) ≡ true) → is_space (get_or text k 0) ≡ true
blanks-through text end here k before earlier = elim (last-or-before k end (omega (arith, before))) [
  | inl e ↦ ap (λ n. is_space (get_or text n 0)) e ∙ here
  | inr less ↦ earlier less
]
  where
    last-or-before : (k n : ℕ) → k < suc n → (k ≡ n) ⊎ (k < n)
    last-or-before zero zero less = inl refl
    last-or-before zero (suc n) less = inr (omega arith)
    last-or-before (suc k) zero less = absurd (omega (arith, less))
    last-or-before (suc k) (suc n) less = elim (last-or-before k n (omega (arith, less))) [
      | inl e ↦ inl (ap suc e)
      | inr fewer ↦ inr (omega (arith, fewer))
    ]

pub ends-solid : (text : List ℕ) (at end : ℕ) → is_blank (class (get_or text at 0)) ≡ false → end ≡ at + value_extent (drop at text) → at < end → end < length text → is_space (get_or text (end - 1) 0) ≡ false
ends-solid text at end solid extent some within =
    let v = value_extent (drop at text) in
    let here : get_or (drop at text) 0 0 ≡ get_or text at 0 = get_or-drop at text 0 0 ∙ (let zero-more : at + 0 ≡ at = omega arith in ap (λ i. get_or text i 0) zero-more) in
    let last : at + (v - 1) ≡ end - 1 = omega (arith, extent, some) in
    solid-byte (get_or text (end - 1) 0) (sym (ap (λ y. is_blank (class y)) (get_or-drop at text (v - 1) 0 ∙ ap (λ i. get_or text i 0) last))
    ∙ value-ends (drop at text) (ap (λ y. is_blank (class y)) here ∙ solid) (omega (arith, extent, within, length-drop at text)))
