-- The lexemes of a text up to where its brackets close, and of the rest of it.
use Rattle.std.proofs.Common.{◌≡◌, ℕ, zero, suc, Bool, true, false, cond, ◌&&◌, ◌||◌, ◌==◌, nat_eq, List, [], ◌∷◌, length, take, drop, Option, Some, None, refl, sym, ap, ap₂, ◌∙◌}
use Rattle.std.proofs.lemmas.Bool.{true≢false, eqb-true}
use Rattle.std.specs.List.{starts_with}
use Rattle.json.specs.Token.{Token}
use Rattle.json.specs.Text.{content, plain}
use Rattle.json.specs.Word.{is_operator, is_space, head, ends_word, after_number, number_before, literal, word}
use Rattle.json.specs.Lex.{Lexeme, token, Class, quote, backslash, operator, space, other, class, operator_lexeme, string_token, Mode, between, in_word, in_string, in_escape, lex_byte, lex}
use Rattle.json.specs.Align.{is_blank}
use Rattle.odb_spans.specs.Extents.{flat, lexeme_weight, level, first_level, after_operator, extent_byte, extent, first_byte, value_extent}
use Rattle.odb_spans.proofs.WordLemmas.{is_end, stem, same-word}
use Rattle.odb_spans.proofs.ContentLemmas.{content-passed}

-- the lexemes until n brackets are closed
abbrev pub taken : ℕ → List Lexeme → List Lexeme
taken zero ls = []
taken (suc n) [] = []
taken (suc n) (l ∷ ls) = l ∷ taken (level (lexeme_weight l) n) ls

abbrev pub left : ℕ → List Lexeme → List Lexeme
left zero ls = ls
left (suc n) [] = []
left (suc n) (l ∷ ls) = left (level (lexeme_weight l) n) ls

-- ---- strings and words open and close nothing

pub string-flat : (o : Option (List ℕ)) → lexeme_weight (token (string_token o)) ≡ flat
string-flat None = refl
string-flat (Some s) = refl

by-weight : (b : Bool) (x y : Token) → lexeme_weight (token x) ≡ flat → lexeme_weight (token y) ≡ flat → lexeme_weight (token (cond b x y)) ≡ flat
by-weight true x y e f = e
by-weight false x y e f = f

number-flat : (t : List ℕ) (o : Option (List ℕ)) → lexeme_weight (token (number_before t o)) ≡ flat
number-flat t None = refl
number-flat t (Some r) = by-weight (ends_word r) _ _ refl refl

literal-flat : (name : List ℕ) (k : Token) (t : List ℕ) → lexeme_weight (token k) ≡ flat → lexeme_weight (token (literal name k t)) ≡ flat
literal-flat name k t e = by-weight (starts_with nat_eq t name && ends_word (drop (length name) t)) k Token.bad e refl

pub word-flat : (t : List ℕ) → lexeme_weight (token (word t)) ≡ flat
unfolding word
word-flat t =
    by-weight (head t == 116) _ _ (literal-flat (116 ∷ 114 ∷ 117 ∷ 101 ∷ []) (Token.boolean true) t refl)
    (by-weight (head t == 102) _ _ (literal-flat (102 ∷ 97 ∷ 108 ∷ 115 ∷ 101 ∷ []) (Token.boolean false) t refl)
    (by-weight (head t == 110) _ _ (literal-flat (110 ∷ 117 ∷ 108 ∷ 108 ∷ []) Token.null t refl) (number-flat t (after_number t))))

-- ---- the stem of a word lies in what is passed

stem-byte : (q b o s : Bool) (x n : ℕ) (xs : List ℕ) (k : Mode → ℕ → ℕ) → (q ≡ true → (o || s) ≡ false) → (b ≡ true → (o || s) ≡ false) → (o || s) ≡ is_end x → stem (take (k in_word n) xs) ≡ stem xs
    → stem (take (extent_byte in_word (cond q quote (cond b backslash (cond o operator (cond s space other)))) n x k) (x ∷ xs)) ≡ stem (x ∷ xs)
stem-byte true b o s x n xs k f g e h = ap (cond (is_end x) []) (ap (λ l. x ∷ l) h)
stem-byte false true o s x n xs k f g e h = ap (cond (is_end x) []) (ap (λ l. x ∷ l) h)
stem-byte false false true s x zero xs k f g e h = ap (λ b. cond b [] (x ∷ stem xs)) e
stem-byte false false true s x (suc n) xs k f g e h = (λ i. cond (sym e i) [] (x ∷ stem (take (k between (after_operator x n)) xs))) ∙ ap (λ b. cond b [] (x ∷ stem xs)) e
stem-byte false false false true x zero xs k f g e h = ap (λ b. cond b [] (x ∷ stem xs)) e
stem-byte false false false true x (suc n) xs k f g e h = (λ i. cond (sym e i) [] (x ∷ stem (take (k between (suc n)) xs))) ∙ ap (λ b. cond b [] (x ∷ stem xs)) e
stem-byte false false false false x n xs k f g e h = ap (cond (is_end x) []) (ap (λ l. x ∷ l) h)

stem-passed : (n : ℕ) (xs : List ℕ) → stem (take (extent in_word n xs) xs) ≡ stem xs
unfolding extent
stem-passed n [] = refl
stem-passed n (x ∷ xs) =
    stem-byte (x == 34) (x == 92) (is_operator x) (is_space x) x n xs (λ m k. extent m k xs)
    (λ e. ap is_end (eqb-true x 34 e)) (λ e. ap is_end (eqb-true x 92 e)) refl (stem-passed n xs)

-- the word at x is the same
word-passed : (n x : ℕ) (xs : List ℕ) → word (x ∷ take (extent in_word n xs) xs) ≡ word (x ∷ xs)
word-passed n x xs = same-word _ _ (ap (λ l. cond (is_end x) [] (x ∷ l)) (stem-passed n xs))

-- ---- one byte

-- what is passed has the lexemes taken, and what is after it those left
record Splits (m : Mode) (n k : ℕ) (t : List ℕ) (ls : List Lexeme) : Type 0 where
  pub passed : lex m (take k t) ≡ taken n ls
  pub after : lex between (drop k t) ≡ left n ls

module _ (x : ℕ) (xs : List ℕ) where
  abbrev more : Mode → ℕ → ℕ
  more m n = extent m n xs

  abbrev tail : Mode → List Lexeme
  tail m = lex m xs

  lex-at : (m : Mode) (c : Class) (ys : List ℕ) → class x ≡ c → lex m (x ∷ ys) ≡ lex_byte m c x ys (λ next. lex next ys)
  unfolding lex
  lex-at m c ys e = ap (λ d. lex_byte m d x ys (λ next. lex next ys)) e

  lex-none : (m : Mode) → lex m [] ≡ []
  unfolding lex
  lex-none m = refl

  byte-splits : (m : Mode) (c : Class) (n : ℕ) → class x ≡ c → ((m : Mode) (n : ℕ) → Splits m n (extent m n xs) xs (lex m xs))
      → Splits m n (extent_byte m c n x (λ m n. extent m n xs)) (x ∷ xs) (lex_byte m c x xs (λ next. lex next xs))
  byte-splits between c zero e ih = record { passed = lex-none between; after = lex-at between c xs e }
  byte-splits between quote (suc n) e ih = let h = ih in_string (suc n) in record {
    passed = lex-at between quote _ e ∙ ap₂ (λ o ls. token (string_token o) ∷ ls) (content-passed (suc n) plain xs) h.passed
        ∙ ap (λ w. token (string_token (content plain xs)) ∷ taken (level w n) (lex in_string xs)) (sym (string-flat (content plain xs)));
    after = h.after ∙ ap (λ w. left (level w n) (lex in_string xs)) (sym (string-flat (content plain xs)));
  }
  byte-splits between backslash (suc n) e ih = let h = ih in_word (suc n) in record {
    passed = lex-at between backslash _ e ∙ ap (λ ls. token Token.bad ∷ ls) h.passed;
    after = h.after;
  }
  byte-splits between operator (suc n) e ih = let h = ih between (after_operator x n) in record {
    passed = lex-at between operator _ e ∙ ap (λ ls. operator_lexeme x ∷ ls) h.passed;
    after = h.after;
  }
  byte-splits between space (suc n) e ih = let h = ih between (suc n) in record {
    passed = lex-at between space _ e ∙ h.passed;
    after = h.after;
  }
  byte-splits between other (suc n) e ih = let h = ih in_word (suc n) in record {
    passed = lex-at between other _ e ∙ ap₂ (λ w ls. token w ∷ ls) (word-passed (suc n) x xs) h.passed
        ∙ ap (λ w. token (word (x ∷ xs)) ∷ taken (level w n) (lex in_word xs)) (sym (word-flat (x ∷ xs)));
    after = h.after ∙ ap (λ w. left (level w n) (lex in_word xs)) (sym (word-flat (x ∷ xs)));
  }
  byte-splits in_word quote n e ih = let h = ih in_word n in record { passed = lex-at in_word quote _ e ∙ h.passed; after = h.after }
  byte-splits in_word backslash n e ih = let h = ih in_word n in record { passed = lex-at in_word backslash _ e ∙ h.passed; after = h.after }
  byte-splits in_word operator zero e ih = record { passed = lex-none in_word; after = lex-at between operator xs e }
  byte-splits in_word operator (suc n) e ih = let h = ih between (after_operator x n) in record {
    passed = lex-at in_word operator _ e ∙ ap (λ ls. operator_lexeme x ∷ ls) h.passed;
    after = h.after;
  }
  byte-splits in_word space zero e ih = record { passed = lex-none in_word; after = lex-at between space xs e }
  byte-splits in_word space (suc n) e ih = let h = ih between (suc n) in record { passed = lex-at in_word space _ e ∙ h.passed; after = h.after }
  byte-splits in_word other n e ih = let h = ih in_word n in record { passed = lex-at in_word other _ e ∙ h.passed; after = h.after }
  byte-splits in_string quote n e ih = let h = ih between n in record { passed = lex-at in_string quote _ e ∙ h.passed; after = h.after }
  byte-splits in_string backslash n e ih = let h = ih in_escape n in record { passed = lex-at in_string backslash _ e ∙ h.passed; after = h.after }
  byte-splits in_string operator n e ih = let h = ih in_string n in record { passed = lex-at in_string operator _ e ∙ h.passed; after = h.after }
  byte-splits in_string space n e ih = let h = ih in_string n in record { passed = lex-at in_string space _ e ∙ h.passed; after = h.after }
  byte-splits in_string other n e ih = let h = ih in_string n in record { passed = lex-at in_string other _ e ∙ h.passed; after = h.after }
  byte-splits in_escape c n e ih = let h = ih in_string n in record { passed = lex-at in_escape c _ e ∙ h.passed; after = h.after }

nothing-left : (m : Mode) (n : ℕ) → Splits m n 0 [] []
unfolding lex
nothing-left m zero = record { passed = refl; after = refl }
nothing-left m (suc n) = record { passed = refl; after = refl }

-- the machine splits the text where it splits its lexemes
splits : (m : Mode) (n : ℕ) (t : List ℕ) → Splits m n (extent m n t) t (lex m t)
unfolding lex extent
splits m n [] = nothing-left m n
splits m n (x ∷ xs) = byte-splits x xs m (class x) n refl (λ k j. splits k j xs)

-- ---- a whole value

abbrev pub first_taken : List Lexeme → List Lexeme
first_taken [] = []
first_taken (l ∷ ls) = l ∷ taken (first_level (lexeme_weight l)) ls

abbrev pub first_left : List Lexeme → List Lexeme
first_left [] = []
first_left (l ∷ ls) = left (first_level (lexeme_weight l)) ls

pub record SplitsValue (k : ℕ) (t : List ℕ) (ls : List Lexeme) : Type 0 where
  pub passed : lex between (take k t) ≡ first_taken ls
  pub after : lex between (drop k t) ≡ first_left ls

first-splits : (c : Class) (x : ℕ) (xs : List ℕ) → class x ≡ c → is_blank c ≡ false
    → SplitsValue (suc (first_byte c x (λ m n. extent m n xs))) (x ∷ xs) (lex_byte between c x xs (λ next. lex next xs))
first-splits quote x xs e solid = let h = splits in_string 0 xs in record {
  passed = lex-at x xs between quote _ e ∙ ap₂ (λ o ls. token (string_token o) ∷ ls) (content-passed 0 plain xs) h.passed
      ∙ ap (λ w. token (string_token (content plain xs)) ∷ taken (first_level w) (lex in_string xs)) (sym (string-flat (content plain xs)));
  after = h.after ∙ ap (λ w. left (first_level w) (lex in_string xs)) (sym (string-flat (content plain xs)));
}
first-splits backslash x xs e solid = let h = splits in_word 0 xs in record {
  passed = lex-at x xs between backslash _ e ∙ ap (λ ls. token Token.bad ∷ ls) h.passed;
  after = h.after;
}
first-splits operator x xs e solid = let h = splits between (first_level (lexeme_weight (operator_lexeme x))) xs in record {
  passed = lex-at x xs between operator _ e ∙ ap (λ ls. operator_lexeme x ∷ ls) h.passed;
  after = h.after;
}
first-splits space x xs e solid = absurd (true≢false solid)
first-splits other x xs e solid = let h = splits in_word 0 xs in record {
  passed = lex-at x xs between other _ e ∙ ap₂ (λ w ls. token w ∷ ls) (word-passed 0 x xs) h.passed
      ∙ ap (λ w. token (word (x ∷ xs)) ∷ taken (first_level w) (lex in_word xs)) (sym (word-flat (x ∷ xs)));
  after = h.after ∙ ap (λ w. left (first_level w) (lex in_word xs)) (sym (word-flat (x ∷ xs)));
}

pub splits-value : (t : List ℕ) → is_blank (class (head t)) ≡ false → SplitsValue (value_extent t) t (lex between t)
unfolding lex value_extent
splits-value [] solid = absurd (true≢false solid)
splits-value (x ∷ xs) solid = first-splits (class x) x xs refl solid
