-- The lexemes of a text without a fault come before those of what follows it.
use Rattle.std.proofs.Common.{◌≡◌, ◌∙◌, ℕ, zero, suc, ◌<◌, ◌≤◌, ◌||◌, ◌==◌, List, [], ◌∷◌, ◌++◌, length, take, drop, Bool, true, false, cond, Option, Some, None, option_and_then, refl, sym, ap, ap₂, subst, arith, append_assoc, append-nil, length-append}
use Rattle.std.specs.Prelude.{⊤, nat_eq}
use Rattle.std.specs.List.{starts_with, prefix_len}
use Rattle.std.specs.Char.{is_ascii_digit}
use Rattle.std.proofs.lemmas.Bool.{false≢true, and_parts}
use Rattle.std.proofs.lemmas.List.{take-append-drop}
use Rattle.std.proofs.lemmas.Slice.Eq.{bytes_eq-Decides}
use Rattle.json.specs.Align.{is_good}
use Rattle.json.specs.Lex.{Lexeme, token, comma, colon, between, Class, quote, backslash, operator, space, other, class, operator_lexeme, string_token, lex_byte, lex}
use Rattle.json.specs.Print.{IsNumber}
use Rattle.json.specs.Text.{plain, content}
use Rattle.json.specs.Token.{Token, number, string, boolean, null, bad}
use Rattle.json.specs.Word.{head, ends_word, after_digits, after_minus, after_sign, after_whole, after_fraction, after_exponent, after_number, number_before, literal, word}
use Rattle.json.proofs.Printed.Numbers.{in_word-ended, number_alone, lex-number}
use Rattle.odb_reply.proofs.StringLemmas.{ends}

-- no lexeme is a fault
abbrev pub AreGood : List Lexeme → Type 0
AreGood [] = ⊤
AreGood (token t ∷ ls) = (is_good t ≡ true) × AreGood ls
AreGood (comma ∷ ls) = AreGood ls
AreGood (colon ∷ ls) = AreGood ls

-- the first lexemes of the text, and what is left of it, whatever comes after the text
record Step (t : List ℕ) : Type 0 where
  first : List Lexeme
  left : List ℕ
  shorter : length left < length t
  lexed : (rest : List ℕ) → ends_word rest ≡ true → lex between (t ++ rest) ≡ first ++ lex between (left ++ rest)

ended-after : (left rest : List ℕ) → ends_word left ≡ true → ends_word rest ≡ true → ends_word (left ++ rest) ≡ true
ended-after [] rest first second = second
ended-after (x ∷ left) rest first second = first

-- ---- words

abbrev IsEnd : List ℕ → List ℕ → Type 0
IsEnd t r = (s : List ℕ) × (t ≡ s ++ r)

abbrev LeavesEnd : List ℕ → Option (List ℕ) → Type 0
LeavesEnd t None = ⊤
LeavesEnd t (Some r) = IsEnd t r

whole-end : (t : List ℕ) → IsEnd t t
whole-end t = ([], refl)

dropped-end : (n : ℕ) (t : List ℕ) → IsEnd t (drop n t)
dropped-end n t = (take n t, sym (take-append-drop n t))

end-of-end : (t u r : List ℕ) → IsEnd t u → IsEnd u r → IsEnd t r
end-of-end t u r first second = (first.0 ++ second.0, first.1 ∙ ap (λ l. first.0 ++ l) second.1 ∙ sym (append_assoc first.0 second.0 r))

optional-end : (b : Bool) (n : ℕ) (t : List ℕ) → IsEnd t (cond b (drop n t) t)
optional-end true n t = dropped-end n t
optional-end false n t = whole-end t

either-leaves : (b : Bool) (t : List ℕ) (x y : Option (List ℕ)) → LeavesEnd t x → LeavesEnd t y → LeavesEnd t (cond b x y)
either-leaves true t x y first second = first
either-leaves false t x y first second = second

then-leaves : (f : List ℕ → Option (List ℕ)) → ((u : List ℕ) → LeavesEnd u (f u)) → (t : List ℕ) (o : Option (List ℕ)) → LeavesEnd t o → LeavesEnd t (option_and_then f o)
then-leaves f each t None leaves = tt
then-leaves f each t (Some u) leaves = at (f u) (each u)
  where
    at : (o : Option (List ℕ)) → LeavesEnd u o → LeavesEnd t o
    at None rest = tt
    at (Some r) rest = end-of-end t u r leaves rest

after-end : (f : List ℕ → Option (List ℕ)) → ((u : List ℕ) → LeavesEnd u (f u)) → (t u : List ℕ) → IsEnd t u → LeavesEnd t (f u)
after-end f each t u is = then-leaves f each t (Some u) is

digits-leave : (t : List ℕ) → LeavesEnd t (after_digits t)
digits-leave t = either-leaves (prefix_len is_ascii_digit t == 0) t None (Some (drop (prefix_len is_ascii_digit t) t)) tt (dropped-end (prefix_len is_ascii_digit t) t)

whole-leaves : (t : List ℕ) → LeavesEnd t (after_whole t)
whole-leaves t = either-leaves (head t == 48) t (Some (drop 1 t)) (after_digits t) (dropped-end 1 t) (digits-leave t)

fraction-leaves : (t : List ℕ) → LeavesEnd t (after_fraction t)
fraction-leaves t = either-leaves (head t == 46) t (after_digits (drop 1 t)) (Some t) (after-end after_digits digits-leave t (drop 1 t) (dropped-end 1 t)) (whole-end t)

exponent-leaves : (t : List ℕ) → LeavesEnd t (after_exponent t)
exponent-leaves t =
    let signed = end-of-end t (drop 1 t) (after_sign (drop 1 t)) (dropped-end 1 t) (optional-end ((head (drop 1 t) == 45) || (head (drop 1 t) == 43)) 1 (drop 1 t)) in
    either-leaves ((head t == 101) || (head t == 69)) t (after_digits (after_sign (drop 1 t))) (Some t) (after-end after_digits digits-leave t (after_sign (drop 1 t)) signed) (whole-end t)

number-leaves : (t : List ℕ) → LeavesEnd t (after_number t)
unfolding after_number
number-leaves t =
    then-leaves after_exponent exponent-leaves t (option_and_then after_fraction (after_whole (after_minus t)))
    (then-leaves after_fraction fraction-leaves t (after_whole (after_minus t)) (after-end after_whole whole-leaves t (after_minus t) (optional-end (head t == 45) 1 t)))

some-digits : (s : List ℕ) → IsNumber s → 0 < length s
unfolding after_number
some-digits [] is = absurd (cc (is))
some-digits (x ∷ s) is = omega arith

number-good : (b : Bool) (s : List ℕ) → is_good (cond b (number s) bad) ≡ true → b ≡ true
number-good true s good = refl
number-good false s good = good

number-step : (t : List ℕ) (o : Option (List ℕ)) → after_number t ≡ o → LeavesEnd t o → is_good (number_before t o) ≡ true → Step t
number-step t None is leaves good = absurd (false≢true good)
number-step t (Some r) is leaves good =
    let (s, whole) = leaves in
    let ended = number-good (ends_word r) _ good in
    let numbers = number_alone s r ended (subst (λ l. after_number l ≡ Some r) whole is) in
    record {
      first = token (number s) ∷ [];
      left = r;
      shorter = omega (arith, some-digits s numbers, length-append s r, ap length whole);
      lexed = λ rest after. ap (λ l. lex between (l ++ rest)) whole ∙ ap (lex between) (append_assoc s r rest) ∙ lex-number s (r ++ rest) numbers (ended-after r rest ended after);
    }

lex-true : (rest : List ℕ) → ends_word rest ≡ true → lex between (116 ∷ 114 ∷ 117 ∷ 101 ∷ rest) ≡ token (boolean true) ∷ lex between rest
unfolding lex word
lex-true rest ended = ap₂ (λ b l. token (cond b (boolean true) bad) ∷ l) ended (in_word-ended rest ended)

lex-false : (rest : List ℕ) → ends_word rest ≡ true → lex between (102 ∷ 97 ∷ 108 ∷ 115 ∷ 101 ∷ rest) ≡ token (boolean false) ∷ lex between rest
unfolding lex word
lex-false rest ended = ap₂ (λ b l. token (cond b (boolean false) bad) ∷ l) ended (in_word-ended rest ended)

lex-null : (rest : List ℕ) → ends_word rest ≡ true → lex between (110 ∷ 117 ∷ 108 ∷ 108 ∷ rest) ≡ token null ∷ lex between rest
unfolding lex word
lex-null rest ended = ap₂ (λ b l. token (cond b null bad) ∷ l) ended (in_word-ended rest ended)

literal-good : (b : Bool) (k : Token) → is_good (cond b k bad) ≡ true → b ≡ true
literal-good true k good = refl
literal-good false k good = absurd (false≢true good)

literal-step : (name : List ℕ) (k : Token) (t : List ℕ) → 0 < length name → ((rest : List ℕ) → ends_word rest ≡ true → lex between (name ++ rest) ≡ token k ∷ lex between rest) → is_good (literal name k t) ≡ true → Step t
literal-step name k t some reads good =
    let r = drop (length name) t in
    let (starts, ended) = and_parts (starts_with nat_eq t name) (ends_word r) (literal-good _ k good) in
    let front : name ≡ take (length name) t = (bytes_eq-Decides name (take (length name) t)).0 starts in
    let whole : t ≡ name ++ r = sym (take-append-drop (length name) t) ∙ ap (λ l. l ++ r) (sym front) in
    record {
      first = token k ∷ [];
      left = r;
      shorter = omega (arith, some, length-append name r, ap length whole);
      lexed = λ rest after. ap (λ l. lex between (l ++ rest)) whole ∙ ap (lex between) (append_assoc name r rest) ∙ reads (r ++ rest) (ended-after r rest ended after);
    }

choose : (b : Bool) (x y : Token) (P : Type 0) → (is_good x ≡ true → P) → (is_good y ≡ true → P) → is_good (cond b x y) ≡ true → P
choose true x y P first second = first
choose false x y P first second = second

word-step : (t : List ℕ) → is_good (word t) ≡ true → Step t
unfolding word
word-step t =
    choose (head t == 116) _ _ (Step t) (literal-step (116 ∷ 114 ∷ 117 ∷ 101 ∷ []) (boolean true) t (omega arith) lex-true)
    (choose (head t == 102) _ _ (Step t) (literal-step (102 ∷ 97 ∷ 108 ∷ 115 ∷ 101 ∷ []) (boolean false) t (omega arith) lex-false)
    (choose (head t == 110) _ _ (Step t) (literal-step (110 ∷ 117 ∷ 108 ∷ 108 ∷ []) null t (omega arith) lex-null)
    (number-step t (after_number t) refl (number-leaves t))))

-- ---- one step

string-step : (x : ℕ) (xs : List ℕ) (o : Option (List ℕ)) → class x ≡ quote → content plain xs ≡ o → is_good (string_token o) ≡ true → Step (x ∷ xs)
unfolding lex
string-step x xs None quoted is good = absurd (false≢true good)
string-step x xs (Some s) quoted is good =
    let closed = ends plain xs s is in
    record {
      first = token (string s) ∷ [];
      left = closed.left;
      shorter = omega (arith, closed.shorter);
      lexed = λ rest after. ap (λ c. lex_byte between c x (xs ++ rest) (λ m. lex m (xs ++ rest))) quoted ∙ ap₂ (λ o l. token (string_token o) ∷ l) (closed.same rest) (closed.lexed rest);
    }

step-by : (c : Class) (x : ℕ) (xs : List ℕ) → class x ≡ c → AreGood (lex_byte between c x xs (λ m. lex m xs)) → Step (x ∷ xs)
unfolding lex
step-by quote x xs is good = string-step x xs (content plain xs) is refl good.0
step-by backslash x xs is good = absurd (false≢true good.0)
step-by operator x xs is good = record {
  first = operator_lexeme x ∷ [];
  left = xs;
  shorter = omega arith;
  lexed = λ rest after. ap (λ c. lex_byte between c x (xs ++ rest) (λ m. lex m (xs ++ rest))) is;
}
step-by space x xs is good = record {
  first = [];
  left = xs;
  shorter = omega arith;
  lexed = λ rest after. ap (λ c. lex_byte between c x (xs ++ rest) (λ m. lex m (xs ++ rest))) is;
}
step-by other x xs is good = word-step (x ∷ xs) good.0

step-of : (x : ℕ) (xs : List ℕ) → AreGood (lex between (x ∷ xs)) → Step (x ∷ xs)
unfolding lex
step-of x xs good = step-by (class x) x xs refl good

good-after : (first ls : List Lexeme) → AreGood (first ++ ls) → AreGood ls
good-after [] ls good = good
good-after (token t ∷ first) ls good = good-after first ls good.1
good-after (comma ∷ first) ls good = good-after first ls good
good-after (colon ∷ first) ls good = good-after first ls good

joined-within : (n : ℕ) (t rest : List ℕ) → length t ≤ n → AreGood (lex between t) → ends_word rest ≡ true → lex between (t ++ rest) ≡ lex between t ++ lex between rest
unfolding lex
joined-within n [] rest within good ended = refl
joined-within zero (x ∷ xs) rest within good ended = absurd (omega (arith, within))
joined-within (suc n) (x ∷ xs) rest within good ended =
    let step = step-of x xs good in
    let alone : lex between (x ∷ xs) ≡ step.first ++ lex between step.left =
    ap (lex between) (sym (append-nil (x ∷ xs))) ∙ step.lexed [] refl ∙ ap (λ l. step.first ++ lex between l) (append-nil step.left) in
    let left = joined-within n step.left rest (omega (arith, within, step.shorter)) (good-after step.first (lex between step.left) (subst AreGood alone good)) ended in
    step.lexed rest ended ∙ ap (λ ls. step.first ++ ls) left ∙ sym (append_assoc step.first (lex between step.left) (lex between rest)) ∙ ap (λ ls. ls ++ lex between rest) (sym alone)

pub lex-joined : (t rest : List ℕ) → AreGood (lex between t) → ends_word rest ≡ true → lex between (t ++ rest) ≡ lex between t ++ lex between rest
lex-joined t rest good ended = joined-within (length t) t rest (omega arith) good ended
