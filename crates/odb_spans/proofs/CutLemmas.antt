-- Where the lexer may begin anew: after a blank, an operator or a value.
use Rattle.std.proofs.Common.{◌≡◌, ◌∙◌, ℕ, zero, suc, ◌+◌, ◌-◌, ◌<◌, ◌≤◌, List, [], ◌∷◌, length, take, drop, get_or, refl, sym, ap, ap₂, arith}
use Rattle.std.proofs.lemmas.List.{at_drop_more, drop-drop, length-drop}
use Rattle.json.specs.Lex.{Class, quote, backslash, operator, space, other, class, operator_lexeme, Mode, between, in_word, in_string, in_escape}
use Rattle.odb_spans.specs.Cuts.{next_mode, mode_past, IsCut, IsClear}
use Rattle.odb_spans.specs.Extents.{lexeme_weight, first_level, after_operator, extent_byte, extent, first_byte, value_extent}

pub past-byte : (m : Mode) (x : ℕ) (xs : List ℕ) (c : Class) → class x ≡ c → mode_past m (x ∷ xs) ≡ mode_past (next_mode m c) xs
unfolding mode_past
past-byte m x xs c e = ap (λ d. mode_past (next_mode m d) xs) e

past-none : (m : Mode) → mode_past m [] ≡ m
unfolding mode_past
past-none m = refl

-- after so many bytes the lexer goes on as if the text began there
abbrev Resumes : Mode → ℕ → List ℕ → Type 0
Resumes m e xs = (k : ℕ) → e < k → k ≤ length xs → mode_past m (take k xs) ≡ mode_past between (take (k - e) (drop e xs))

none : (m : Mode) (e : ℕ) → Resumes m e []
none m e k more within = absurd (omega arith)

here : (xs : List ℕ) → Resumes between 0 xs
here xs k more within = let same : k - 0 ≡ k = omega arith in ap (λ j. mode_past between (take j xs)) (sym same)

passes : (m : Mode) (x : ℕ) (xs : List ℕ) (c : Class) (e : ℕ) → class x ≡ c → Resumes (next_mode m c) e xs → Resumes m (suc e) (x ∷ xs)
passes m x xs c e is more zero late within = absurd (omega arith)
passes m x xs c e is more (suc k) late within =
    let same : suc k - suc e ≡ k - e = omega arith in
    past-byte m x (take k xs) c is ∙ more k (omega arith) (omega arith) ∙ ap (λ j. mode_past between (take j (drop e xs))) (sym same)

-- before a byte that ends a word
ends : (x : ℕ) (xs : List ℕ) (c : Class) → class x ≡ c → next_mode in_word c ≡ next_mode between c → Resumes in_word 0 (x ∷ xs)
ends x xs c is same zero late within = absurd (omega arith)
ends x xs c is same (suc k) late within =
    past-byte in_word x (take k xs) c is ∙ ap (λ m. mode_past m (take k xs)) same ∙ sym (past-byte between x (take k xs) c is) ∙ here (x ∷ xs) (suc k) late within

byte-resumes : (x : ℕ) (xs : List ℕ) (m : Mode) (c : Class) (n : ℕ) → class x ≡ c → ((m : Mode) (n : ℕ) → Resumes m (extent m n xs) xs) → Resumes m (extent_byte m c n x (λ m n. extent m n xs)) (x ∷ xs)
byte-resumes x xs between c zero e ih = here (x ∷ xs)
byte-resumes x xs between quote (suc n) e ih = passes between x xs quote _ e (ih in_string (suc n))
byte-resumes x xs between backslash (suc n) e ih = passes between x xs backslash _ e (ih in_word (suc n))
byte-resumes x xs between operator (suc n) e ih = passes between x xs operator _ e (ih between (after_operator x n))
byte-resumes x xs between space (suc n) e ih = passes between x xs space _ e (ih between (suc n))
byte-resumes x xs between other (suc n) e ih = passes between x xs other _ e (ih in_word (suc n))
byte-resumes x xs in_word quote n e ih = passes in_word x xs quote _ e (ih in_word n)
byte-resumes x xs in_word backslash n e ih = passes in_word x xs backslash _ e (ih in_word n)
byte-resumes x xs in_word operator zero e ih = ends x xs operator e refl
byte-resumes x xs in_word operator (suc n) e ih = passes in_word x xs operator _ e (ih between (after_operator x n))
byte-resumes x xs in_word space zero e ih = ends x xs space e refl
byte-resumes x xs in_word space (suc n) e ih = passes in_word x xs space _ e (ih between (suc n))
byte-resumes x xs in_word other n e ih = passes in_word x xs other _ e (ih in_word n)
byte-resumes x xs in_string quote n e ih = passes in_string x xs quote _ e (ih between n)
byte-resumes x xs in_string backslash n e ih = passes in_string x xs backslash _ e (ih in_escape n)
byte-resumes x xs in_string operator n e ih = passes in_string x xs operator _ e (ih in_string n)
byte-resumes x xs in_string space n e ih = passes in_string x xs space _ e (ih in_string n)
byte-resumes x xs in_string other n e ih = passes in_string x xs other _ e (ih in_string n)
byte-resumes x xs in_escape c n e ih = passes in_escape x xs c _ e (ih in_string n)

resumes : (m : Mode) (n : ℕ) (xs : List ℕ) → Resumes m (extent m n xs) xs
unfolding extent
resumes m n [] = none m 0
resumes m n (x ∷ xs) = byte-resumes x xs m (class x) n refl (λ k j. resumes k j xs)

first-resumes : (c : Class) (x : ℕ) (xs : List ℕ) → class x ≡ c → Resumes between (suc (first_byte c x (λ m n. extent m n xs))) (x ∷ xs)
first-resumes quote x xs e = passes between x xs quote _ e (resumes in_string 0 xs)
first-resumes backslash x xs e = passes between x xs backslash _ e (resumes in_word 0 xs)
first-resumes operator x xs e = passes between x xs operator _ e (resumes between (first_level (lexeme_weight (operator_lexeme x))) xs)
first-resumes space x xs e = passes between x xs space _ e (resumes between 0 xs)
first-resumes other x xs e = passes between x xs other _ e (resumes in_word 0 xs)

value-resumes : (xs : List ℕ) → Resumes between (value_extent xs) xs
unfolding value_extent
value-resumes [] = none between 0
value-resumes (x ∷ xs) = first-resumes (class x) x xs refl

-- ---- in a text

pub cut-start : (text : List ℕ) → IsCut text 0
cut-start text n late within = here text n late within

pub cut-value : (text : List ℕ) (at end : ℕ) → end ≡ at + value_extent (drop at text) → IsCut text at → IsCut text end
cut-value text at end extent cut n late within =
    let v = value_extent (drop at text) in
    let fewer : (n - at) - v ≡ n - end = omega (arith, extent) in
    cut n (omega (arith, extent)) within
    ∙ value-resumes (drop at text) (n - at) (omega (arith, extent)) (omega (arith, extent, length-drop at text))
    ∙ ap₂ (λ j l. mode_past between (take j l)) fewer (drop-drop v at text ∙ ap (λ k. drop k text) (sym extent))

module _ (text : List ℕ) (at : ℕ) (c : Class) (within : at < length text) (is : class (get_or text at 0) ≡ c) (apart : next_mode between c ≡ between) (cut : IsCut text at) where
  over : (n : ℕ) → at < n → n ≤ length text → mode_past between (take n text) ≡ mode_past between (take (n - (at + 1)) (drop (at + 1) text))
  over n late fits =
      let more : n - at ≡ suc (n - (at + 1)) = omega arith in
      let x = get_or text at 0 in
      let rest = drop (at + 1) text in
      cut n late fits
      ∙ at_drop_more (λ l. mode_past between (take (n - at) l)) text at 0 within
      ∙ ap (λ j. mode_past between (take j (x ∷ rest))) more
      ∙ past-byte between x (take (n - (at + 1)) rest) c is
      ∙ ap (λ m. mode_past m (take (n - (at + 1)) rest)) apart

  -- after a blank or an operator
  pub cut-byte : IsCut text (at + 1)
  cut-byte n late fits = over n (omega arith) fits

  pub clear-byte : IsClear text (at + 1)
  clear-byte =
      let none : (at + 1) - (at + 1) ≡ 0 = omega arith in
      over (at + 1) (omega arith) (omega arith) ∙ ap (λ j. mode_past between (take j (drop (at + 1) text))) none ∙ past-none between
