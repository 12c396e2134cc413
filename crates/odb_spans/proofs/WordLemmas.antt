-- A word is read the same before whatever ends it.
use Rattle.std.proofs.Common.{◌≡◌, ℕ, suc, ◌+◌, ◌-◌, ◌≤◌, Bool, true, false, cond, ◌&&◌, ◌||◌, ◌==◌, List, [], ◌∷◌, ◌++◌, length, take, drop, Option, Some, None, option_map, option_and_then, nat_eq, refl, sym, ap, ap₂, ◌∙◌, arith, length-append}
use Rattle.std.specs.List.{prefix_len}
use Rattle.std.specs.Cmp.Lexicographic.{pointwise}
use Rattle.std.specs.Char.{is_ascii_digit}
use Rattle.std.proofs.lemmas.Bool.{true≢false, ne_eqb}
use Rattle.std.proofs.lemmas.Bool.Decides.{nat_tests}
use Rattle.std.proofs.lemmas.List.{take-append-le, drop-append-le}
use Rattle.json.specs.Token.{Token}
use Rattle.json.specs.Word.{is_operator, is_space, head, ends_word, after_digits, after_minus, after_sign, after_whole, after_fraction, after_exponent, after_number, number_before, literal, word}

-- an operator or a blank
abbrev pub is_end : ℕ → Bool
is_end x = is_operator x || is_space x

no-digit : (y : ℕ) → is_end y ≡ true → is_ascii_digit y ≡ false
no-digit y h = grind (arith, nat_tests)

one-more : (b : Bool) (n m : ℕ) → n ≤ m → cond b (1 + n) 0 ≤ suc m
one-more true n m h = omega arith
one-more false n m h = omega arith

prefix-le : (t : List ℕ) → prefix_len is_ascii_digit t ≤ length t
prefix-le [] = omega arith
prefix-le (x ∷ xs) = one-more (is_ascii_digit x) _ _ (prefix-le xs)

module _ (ys : List ℕ) (ended : ends_word ys ≡ true) where
  abbrev after : Option (List ℕ) → Option (List ℕ)
  after o = option_map (λ r. r ++ ys) o

  same-test : (c : ℕ) (t : List ℕ) → is_end c ≡ false → (head (t ++ ys) == c) ≡ (head t == c)
  same-test c [] h = ne_eqb (head ys) c (λ e. true≢false (sym ended ∙ ap is_end e ∙ h)) ∙ sym (ne_eqb 32 c (λ e. true≢false (ap is_end e ∙ h)))
  same-test c (x ∷ xs) h = refl

  same-end : (t : List ℕ) → ends_word (t ++ ys) ≡ ends_word t
  same-end [] = ended
  same-end (x ∷ xs) = refl

  none-first : (zs : List ℕ) → ends_word zs ≡ true → prefix_len is_ascii_digit zs ≡ 0
  none-first [] h = refl
  none-first (z ∷ zs) h = ap (λ b. cond b (1 + prefix_len is_ascii_digit zs) 0) (no-digit z h)

  same-prefix : (t : List ℕ) → prefix_len is_ascii_digit (t ++ ys) ≡ prefix_len is_ascii_digit t
  same-prefix [] = none-first ys ended
  same-prefix (x ∷ xs) = ap (λ n. cond (is_ascii_digit x) (1 + n) 0) (same-prefix xs)

  if-some : (b : Bool) (r : List ℕ) → cond b None (Some (r ++ ys)) ≡ after (cond b None (Some r))
  if-some true r = refl
  if-some false r = refl

  if-append : (b : Bool) (u v : List ℕ) → cond b (u ++ ys) (v ++ ys) ≡ cond b u v ++ ys
  if-append true u v = refl
  if-append false u v = refl

  if-first : (b : Bool) (u : List ℕ) (o p : Option (List ℕ)) → o ≡ after p → cond b (Some (u ++ ys)) o ≡ after (cond b (Some u) p)
  if-first true u o p e = refl
  if-first false u o p e = e

  if-second : (b : Bool) (u : List ℕ) (o p : Option (List ℕ)) → o ≡ after p → cond b o (Some (u ++ ys)) ≡ after (cond b p (Some u))
  if-second true u o p e = e
  if-second false u o p e = refl

  digits : (t : List ℕ) → after_digits (t ++ ys) ≡ after (after_digits t)
  digits t =
      let n = prefix_len is_ascii_digit t in
      ap (λ k. cond (k == 0) None (Some (drop k (t ++ ys)))) (same-prefix t)
      ∙ ap (λ r. cond (n == 0) None (Some r)) (drop-append-le n t ys (prefix-le t))
      ∙ if-some (n == 0) (drop n t)

  minus : (t : List ℕ) → after_minus (t ++ ys) ≡ after_minus t ++ ys
  minus [] = ap (λ b. cond b (drop 1 ys) ys) (same-test 45 [] refl)
  minus (x ∷ xs) = if-append (x == 45) xs (x ∷ xs)

  sign : (t : List ℕ) → after_sign (t ++ ys) ≡ after_sign t ++ ys
  sign [] = ap₂ (λ a b. cond (a || b) (drop 1 ys) ys) (same-test 45 [] refl) (same-test 43 [] refl)
  sign (x ∷ xs) = if-append ((x == 45) || (x == 43)) xs (x ∷ xs)

  whole : (t : List ℕ) → after_whole (t ++ ys) ≡ after (after_whole t)
  whole [] = ap (λ b. cond b (Some (drop 1 ys)) (after_digits ys)) (same-test 48 [] refl) ∙ digits []
  whole (x ∷ xs) = if-first (x == 48) xs (after_digits (x ∷ xs ++ ys)) (after_digits (x ∷ xs)) (digits (x ∷ xs))

  fraction : (t : List ℕ) → after_fraction (t ++ ys) ≡ after (after_fraction t)
  fraction [] = ap (λ b. cond b (after_digits (drop 1 ys)) (Some ys)) (same-test 46 [] refl)
  fraction (x ∷ xs) = if-second (x == 46) (x ∷ xs) (after_digits (xs ++ ys)) (after_digits xs) (digits xs)

  exponent : (t : List ℕ) → after_exponent (t ++ ys) ≡ after (after_exponent t)
  exponent [] = ap₂ (λ a b. cond (a || b) (after_digits (after_sign (drop 1 ys))) (Some ys)) (same-test 101 [] refl) (same-test 69 [] refl)
  exponent (x ∷ xs) =
      if-second ((x == 101) || (x == 69)) (x ∷ xs) (after_digits (after_sign (xs ++ ys))) (after_digits (after_sign xs)) (ap after_digits (sign xs) ∙ digits (after_sign xs))

  then : (f : List ℕ → Option (List ℕ)) → ((t : List ℕ) → f (t ++ ys) ≡ after (f t)) → (o : Option (List ℕ)) → option_and_then f (after o) ≡ after (option_and_then f o)
  then f same None = refl
  then f same (Some t) = same t

  number : (t : List ℕ) → after_number (t ++ ys) ≡ after (after_number t)
  unfolding after_number
  number t =
      ap (λ u. option_and_then after_exponent (option_and_then after_fraction (after_whole u))) (minus t)
      ∙ ap (λ o. option_and_then after_exponent (option_and_then after_fraction o)) (whole (after_minus t))
      ∙ ap (option_and_then after_exponent) (then after_fraction fraction (after_whole (after_minus t)))
      ∙ then after_exponent exponent (option_and_then after_fraction (after_whole (after_minus t)))

  before : (t : List ℕ) (o : Option (List ℕ)) → number_before (t ++ ys) (after o) ≡ number_before t o
  before t None = refl
  before t (Some r) =
      let n = length t - length r in
      let same : length (t ++ ys) - length (r ++ ys) ≡ n = omega (arith, length-append t ys, length-append r ys) in
      let fits : n ≤ length t = omega arith in
      ap₂ (λ b u. cond b (Token.number u) Token.bad) (same-end r) (ap (λ k. take k (t ++ ys)) same ∙ take-append-le n t ys fits)

  -- no byte of a name ends a word
  abbrev AreInner : List ℕ → Type 0
  AreInner [] = Unit {0}
  AreInner (c ∷ cs) = (is_end c ≡ false) × AreInner cs

  abbrev begins : List ℕ → List ℕ → Bool
  begins name t = pointwise nat_eq name (take (length name) t) && ends_word (drop (length name) t)

  not-named : (c : ℕ) (cs zs : List ℕ) → is_end c ≡ false → ends_word zs ≡ true → begins (c ∷ cs) zs ≡ false
  not-named c cs [] h e = refl
  not-named c cs (z ∷ zs) h e =
      ap (λ b. (b && pointwise nat_eq cs (take (length cs) zs)) && ends_word (drop (length cs) zs))
      (ne_eqb c z (λ same. true≢false (sym e ∙ ap is_end (sym same) ∙ h)))

  one-named : (b p q r s : Bool) → (p && q) ≡ (r && s) → ((b && p) && q) ≡ ((b && r) && s)
  one-named true p q r s e = e
  one-named false p q r s e = refl

  named : (name t : List ℕ) → AreInner name → begins name (t ++ ys) ≡ begins name t
  named [] t h = same-end t
  named (c ∷ cs) [] h = not-named c cs ys h.0 ended
  named (c ∷ cs) (x ∷ xs) h = one-named (nat_eq c x) _ _ _ _ (named cs xs h.1)

  same-literal : (name : List ℕ) (k : Token) (t : List ℕ) → AreInner name → literal name k (t ++ ys) ≡ literal name k t
  same-literal name k t h = ap (λ b. cond b k Token.bad) (named name t h)

  pub word-before : (t : List ℕ) → word (t ++ ys) ≡ word t
  unfolding word
  word-before t =
      let i : (c : ℕ) → is_end c ≡ false → (x y z w : Token) → x ≡ z → y ≡ w → cond (head (t ++ ys) == c) x y ≡ cond (head t == c) z w = (λ c h x y z w e f. λ k. cond (same-test c t h k) (e k) (f k)) in
      i 116 refl _ _ _ _ (same-literal (116 ∷ 114 ∷ 117 ∷ 101 ∷ []) (Token.boolean true) t (refl, (refl, (refl, (refl, tt)))))
      (i 102 refl _ _ _ _ (same-literal (102 ∷ 97 ∷ 108 ∷ 115 ∷ 101 ∷ []) (Token.boolean false) t (refl, (refl, (refl, (refl, (refl, tt))))))
      (i 110 refl _ _ _ _ (same-literal (110 ∷ 117 ∷ 108 ∷ 108 ∷ []) Token.null t (refl, (refl, (refl, (refl, tt))))) (ap (number_before (t ++ ys)) (number t) ∙ before t (after_number t))))

-- the word with which the text begins, and what is after it
abbrev pub stem : List ℕ → List ℕ
stem [] = []
stem (x ∷ xs) = cond (is_end x) [] (x ∷ stem xs)

abbrev past : List ℕ → List ℕ
past [] = []
past (x ∷ xs) = cond (is_end x) (x ∷ xs) (past xs)

split-at : (b : Bool) (x : ℕ) (xs s p : List ℕ) → xs ≡ s ++ p → x ∷ xs ≡ cond b [] (x ∷ s) ++ cond b (x ∷ xs) p
split-at true x xs s p e = refl
split-at false x xs s p e = ap (λ l. x ∷ l) e

stem-past : (t : List ℕ) → t ≡ stem t ++ past t
stem-past [] = refl
stem-past (x ∷ xs) = split-at (is_end x) x xs (stem xs) (past xs) (stem-past xs)

ends-at : (b : Bool) (x : ℕ) (xs p : List ℕ) → is_end x ≡ b → ends_word p ≡ true → ends_word (cond b (x ∷ xs) p) ≡ true
ends-at true x xs p e h = e
ends-at false x xs p e h = h

past-ends : (t : List ℕ) → ends_word (past t) ≡ true
past-ends [] = refl
past-ends (x ∷ xs) = ends-at (is_end x) x xs (past xs) refl (past-ends xs)

pub word-stem : (t : List ℕ) → word t ≡ word (stem t)
word-stem t = ap word (stem-past t) ∙ word-before (past t) (past-ends t) (stem t)

-- two texts with one stem are one word
pub same-word : (s t : List ℕ) → stem s ≡ stem t → word s ≡ word t
same-word s t e = word-stem s ∙ ap word e ∙ sym (word-stem t)
