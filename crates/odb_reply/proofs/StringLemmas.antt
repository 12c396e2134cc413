-- A string that is closed is read the same with any text after it.
use Rattle.std.proofs.Common.{◌≡◌, ◌∙◌, ◌⊎◌, ℕ, ◌<◌, ◌≤◌, ◌&&◌, ◌==◌, List, [], ◌∷◌, ◌++◌, length, Bool, true, false, cond, Option, Some, None, option_and_then, inl, inr, refl, sym, ap, subst, arith}
use Rattle.std.specs.Char.{is_digit, encode_utf8}
use Rattle.std.proofs.lemmas.Bool.{cases_Bool, cases_eq, cases_lt, true≢false, and_parts, eqb-true, ne_eqb, lt-ltb, le-ltb}
use Rattle.std.proofs.lemmas.Option.{same_Some}
use Rattle.json.specs.Lex.{Lexeme, Mode, between, in_string, in_escape, operator, space, other, lex_byte, lex}
use Rattle.json.specs.Text.{code_unit, short_escape, is_high_surrogate, is_low_surrogate, surrogate_pair, Within, plain, after_backslash, after_u, after_high, prepend, content}
use Rattle.json.specs.Word.{is_operator, is_space}

-- the mode of the lexer within a string
abbrev pub mode : Within → Mode
mode plain = in_string
mode after_backslash = in_escape
mode after_u = in_string
mode (after_high h) = in_string

-- the string has this content, and ends before `left`, whatever comes after the text
pub record Ends (w : Within) (xs s : List ℕ) : Type 0 where
  pub left : List ℕ
  pub shorter : length left < length xs
  pub same : (rest : List ℕ) → content w (xs ++ rest) ≡ Some s
  pub lexed : (rest : List ℕ) → lex (mode w) (xs ++ rest) ≡ lex between (left ++ rest)

prepend-some : (a : List ℕ) (r : Option (List ℕ)) (s : List ℕ) → prepend a r ≡ Some s → (t : List ℕ) × (r ≡ Some t) × (a ++ t ≡ s)
prepend-some a None s is = absurd (cc (is))
prepend-some a (Some t) s is = (t, refl, same_Some (a ++ t) s is)

then-some : (o : Option ℕ) (f : ℕ → Option (List ℕ)) (s : List ℕ) → option_and_then f o ≡ Some s → (c : ℕ) × (o ≡ Some c) × (f c ≡ Some s)
then-some None f s is = absurd (cc (is))
then-some (Some c) f s is = (c, refl, is)

is_true : {A : Type 0} (b : Bool) (x : Option A) (a : A) → cond b x None ≡ Some a → b ≡ true
is_true true x a is = refl
is_true false x a is = absurd (cc (is))

stays_inside : (o s : Bool) (x : ℕ) (zs : List ℕ) (k : Mode → List Lexeme) → lex_byte in_string (cond o operator (cond s space other)) x zs k ≡ k in_string
stays_inside true s x zs k = refl
stays_inside false true x zs k = refl
stays_inside false false x zs k = refl

stays : (x : ℕ) → (x ≡ 34 → ⊥) → (x ≡ 92 → ⊥) → (zs : List ℕ) → lex in_string (x ∷ zs) ≡ lex in_string zs
unfolding lex
stays x no_quote no_backslash zs = rw (ne_eqb x 34 no_quote, ne_eqb x 92 no_backslash) (stays_inside (is_operator x) (is_space x) x zs (λ m. lex m zs))

hex_stays : (x : ℕ) → is_digit x 16 ≡ true → (zs : List ℕ) → lex in_string (x ∷ zs) ≡ lex in_string zs
hex_stays x hex zs = stays x (λ e. true≢false (sym hex ∙ ap (λ y. is_digit y 16) e)) (λ e. true≢false (sym hex ∙ ap (λ y. is_digit y 16) e)) zs

four_stay : (a b c d u : ℕ) → code_unit a b c d ≡ Some u → (zs : List ℕ) → lex in_string (a ∷ b ∷ c ∷ d ∷ zs) ≡ lex in_string zs
unfolding code_unit
four_stay a b c d u is zs =
    let first = and_parts (is_digit a 16 && is_digit b 16 && is_digit c 16) (is_digit d 16) (is_true _ _ u is) in
    let second = and_parts (is_digit a 16 && is_digit b 16) (is_digit c 16) first.0 in
    let third = and_parts (is_digit a 16) (is_digit b 16) second.0 in
    hex_stays a third.0 (b ∷ c ∷ d ∷ zs) ∙ hex_stays b third.1 (c ∷ d ∷ zs) ∙ hex_stays c second.1 (d ∷ zs) ∙ hex_stays d first.1 zs

-- ---- the steps

plain-none : (x : ℕ) (zs : List ℕ) → (x ≡ 34 → ⊥) → (x ≡ 92 → ⊥) → x < 32 → content plain (x ∷ zs) ≡ None
unfolding content
plain-none x zs q b l = rw (ne_eqb x 34 q, ne_eqb x 92 b, lt-ltb x 32 l) refl

plain-more : (x : ℕ) (zs : List ℕ) → (x ≡ 34 → ⊥) → (x ≡ 92 → ⊥) → 32 ≤ x → content plain (x ∷ zs) ≡ prepend (x ∷ []) (content plain zs)
unfolding content
plain-more x zs q b l = rw (ne_eqb x 34 q, ne_eqb x 92 b, le-ltb x 32 l) refl

escape-more : (x : ℕ) (zs : List ℕ) → (x ≡ 117 → ⊥) → content after_backslash (x ∷ zs) ≡ option_and_then (λ c. prepend (c ∷ []) (content plain zs)) (short_escape x)
unfolding content
escape-more x zs u = rw (ne_eqb x 117 u) refl

quote-ends : (xs s : List ℕ) → content plain (34 ∷ xs) ≡ Some s → Ends plain (34 ∷ xs) s
unfolding content lex
quote-ends xs s is = record { left = xs; shorter = omega arith; same = λ rest. is; lexed = λ rest. refl }

backslash-ends : (xs s : List ℕ) → Ends after_backslash xs s → Ends plain (92 ∷ xs) s
unfolding content lex
backslash-ends xs s ends = record { left = ends.left; shorter = omega (arith, ends.shorter); same = λ rest. ends.same rest; lexed = λ rest. ends.lexed rest }

plain-ends : (x : ℕ) (xs s t : List ℕ) → (x ≡ 34 → ⊥) → (x ≡ 92 → ⊥) → 32 ≤ x → (x ∷ []) ++ t ≡ s → Ends plain xs t → Ends plain (x ∷ xs) s
plain-ends x xs s t q b l whole ends = record {
  left = ends.left;
  shorter = omega (arith, ends.shorter);
  same = λ rest. plain-more x (xs ++ rest) q b l ∙ ap (prepend (x ∷ [])) (ends.same rest) ∙ ap Some whole;
  lexed = λ rest. stays x q b (xs ++ rest) ∙ ends.lexed rest;
}

unit-ends : (xs s : List ℕ) → Ends after_u xs s → Ends after_backslash (117 ∷ xs) s
unfolding content lex
unit-ends xs s ends = record { left = ends.left; shorter = omega (arith, ends.shorter); same = λ rest. ends.same rest; lexed = λ rest. ends.lexed rest }

escape-ends : (x c : ℕ) (xs s t : List ℕ) → (x ≡ 117 → ⊥) → short_escape x ≡ Some c → (c ∷ []) ++ t ≡ s → Ends plain xs t → Ends after_backslash (x ∷ xs) s
unfolding lex
escape-ends x c xs s t u is whole ends = record {
  left = ends.left;
  shorter = omega (arith, ends.shorter);
  same = λ rest. escape-more x (xs ++ rest) u ∙ ap (option_and_then (λ c. prepend (c ∷ []) (content plain (xs ++ rest)))) is ∙ ap (prepend (c ∷ [])) (ends.same rest) ∙ ap Some whole;
  lexed = λ rest. ends.lexed rest;
}

-- what four digits stand for, of which some follow a high surrogate
abbrev after_unit : ℕ → List ℕ → Option (List ℕ)
after_unit u xs = cond (is_high_surrogate u) (content (after_high u) xs) (cond (is_low_surrogate u) None (prepend (encode_utf8 u) (content plain xs)))

abbrev after_pair : ℕ → ℕ → List ℕ → Option (List ℕ)
after_pair h l xs = cond (is_low_surrogate l) (prepend (encode_utf8 (surrogate_pair h l)) (content plain xs)) None

digits-end : (a b c d u : ℕ) (xs s left : List ℕ) → code_unit a b c d ≡ Some u → length left < length xs → ((rest : List ℕ) → after_unit u (xs ++ rest) ≡ Some s) → ((rest : List ℕ) → lex in_string (xs ++ rest) ≡ lex between (left ++ rest))
    → Ends after_u (a ∷ b ∷ c ∷ d ∷ xs) s
unfolding content
digits-end a b c d u xs s left is shorter same lexed = record {
  left = left;
  shorter = omega (arith, shorter);
  same = λ rest. ap (option_and_then (λ v. after_unit v (xs ++ rest))) is ∙ same rest;
  lexed = λ rest. four_stay a b c d u is (xs ++ rest) ∙ lexed rest;
}

pair-ends : (h a b c d l : ℕ) (xs s left : List ℕ) → code_unit a b c d ≡ Some l → length left < length xs → ((rest : List ℕ) → after_pair h l (xs ++ rest) ≡ Some s) → ((rest : List ℕ) → lex in_string (xs ++ rest) ≡ lex between (left ++ rest))
    → Ends (after_high h) (92 ∷ 117 ∷ a ∷ b ∷ c ∷ d ∷ xs) s
unfolding content lex
pair-ends h a b c d l xs s left is shorter same lexed = record {
  left = left;
  shorter = omega (arith, shorter);
  same = λ rest. ap (option_and_then (λ v. after_pair h v (xs ++ rest))) is ∙ same rest;
  lexed = λ rest. four_stay a b c d l is (xs ++ rest) ∙ lexed rest;
}

-- ---- each string that is closed ends

-- what is closed within ends
abbrev EndsBy : Within → List ℕ → Type 0
EndsBy w xs = (s : List ℕ) → content w xs ≡ Some s → Ends w xs s

plain-step : (x : ℕ) (xs s : List ℕ) → EndsBy plain xs → EndsBy after_backslash xs → content plain (x ∷ xs) ≡ Some s → Ends plain (x ∷ xs) s
unfolding content
plain-step x xs s next escaped is = at (cases_eq x 34) (cases_eq x 92) (cases_lt x 32)
  where
    at : (x ≡ 34) ⊎ (x ≡ 34 → ⊥) → (x ≡ 92) ⊎ (x ≡ 92 → ⊥) → (x < 32) ⊎ (32 ≤ x) → Ends plain (x ∷ xs) s
    at (inl q) b l = subst (λ y. content plain (y ∷ xs) ≡ Some s → Ends plain (y ∷ xs) s) (sym q) (quote-ends xs s) is
    at (inr q) (inl b) l = subst (λ y. content plain (y ∷ xs) ≡ Some s → Ends plain (y ∷ xs) s) (sym b) (λ found. backslash-ends xs s (escaped s found)) is
    at (inr q) (inr b) (inl l) = let none = sym (plain-none x xs q b l) ∙ is in absurd (cc (none))
    at (inr q) (inr b) (inr l) = let (t, more, whole) = prepend-some (x ∷ []) (content plain xs) s (sym (plain-more x xs q b l) ∙ is) in plain-ends x xs s t q b l whole (next t more)

escape-step : (x : ℕ) (xs s : List ℕ) → EndsBy plain xs → EndsBy after_u xs → content after_backslash (x ∷ xs) ≡ Some s → Ends after_backslash (x ∷ xs) s
unfolding content
escape-step x xs s next digits is = at (cases_eq x 117)
  where
    at : (x ≡ 117) ⊎ (x ≡ 117 → ⊥) → Ends after_backslash (x ∷ xs) s
    at (inl u) = subst (λ y. content after_backslash (y ∷ xs) ≡ Some s → Ends after_backslash (y ∷ xs) s) (sym u) (λ unit. unit-ends xs s (digits s unit)) is
    at (inr u) =
        let (c, short, found) = then-some (short_escape x) (λ c. prepend (c ∷ []) (content plain xs)) s (sym (escape-more x xs u) ∙ is) in
        let (t, more, whole) = prepend-some (c ∷ []) (content plain xs) s found in
        escape-ends x c xs s t u short whole (next t more)

unit-step : (a b c d u : ℕ) (xs s : List ℕ) → EndsBy plain xs → EndsBy (after_high u) xs → code_unit a b c d ≡ Some u → after_unit u xs ≡ Some s → Ends after_u (a ∷ b ∷ c ∷ d ∷ xs) s
unit-step a b c d u xs s next pair unit found = at (cases_Bool (is_high_surrogate u)) (cases_Bool (is_low_surrogate u))
  where
    at : (is_high_surrogate u ≡ true) ⊎ (is_high_surrogate u ≡ false) → (is_low_surrogate u ≡ true) ⊎ (is_low_surrogate u ≡ false) → Ends after_u (a ∷ b ∷ c ∷ d ∷ xs) s
    at (inl high) low =
        let more = pair s (rw high at found) in
        digits-end a b c d u xs s more.left unit more.shorter (λ rest. rw high (more.same rest)) more.lexed
    at (inr high) (inl low) = let none : None ≡ Some s = rw (high, low) at found in absurd (cc (none))
    at (inr high) (inr low) =
        let (t, more, whole) = prepend-some (encode_utf8 u) (content plain xs) s (rw (high, low) at found) in
        let after = next t more in
        digits-end a b c d u xs s after.left unit after.shorter (λ rest. rw (high, low) (ap (prepend (encode_utf8 u)) (after.same rest) ∙ ap Some whole)) after.lexed

pair-step : (h x y a b c d : ℕ) (xs s : List ℕ) → EndsBy plain xs → content (after_high h) (x ∷ y ∷ a ∷ b ∷ c ∷ d ∷ xs) ≡ Some s → Ends (after_high h) (x ∷ y ∷ a ∷ b ∷ c ∷ d ∷ xs) s
unfolding content
pair-step h x y a b c d xs s next is =
    let both = is_true ((x == 92) && (y == 117)) _ s is in
    let (first, second) = and_parts (x == 92) (y == 117) both in
    let found : option_and_then (λ l. after_pair h l xs) (code_unit a b c d) ≡ Some s = rw both at is in
    let (l, unit, pair) = then-some (code_unit a b c d) (λ l. after_pair h l xs) s found in
    let low = is_true (is_low_surrogate l) _ s pair in
    let (t, more, whole) = prepend-some (encode_utf8 (surrogate_pair h l)) (content plain xs) s (rw low at pair) in
    let after = next t more in
    subst (λ z. Ends (after_high h) (z ∷ y ∷ a ∷ b ∷ c ∷ d ∷ xs) s) (sym (eqb-true x 92 first))
    (subst (λ z. Ends (after_high h) (92 ∷ z ∷ a ∷ b ∷ c ∷ d ∷ xs) s) (sym (eqb-true y 117 second))
    (pair-ends h a b c d l xs s after.left unit after.shorter (λ rest. rw low (ap (prepend (encode_utf8 (surrogate_pair h l))) (after.same rest) ∙ ap Some whole)) after.lexed))

pub ends : (w : Within) (xs s : List ℕ) → content w xs ≡ Some s → Ends w xs s
unfolding content
ends plain [] s is = absurd (cc (is))
ends plain (x ∷ xs) s is = plain-step x xs s (λ t more. ends plain xs t more) (λ t more. ends after_backslash xs t more) is
ends after_backslash [] s is = absurd (cc (is))
ends after_backslash (x ∷ xs) s is = escape-step x xs s (λ t more. ends plain xs t more) (λ t more. ends after_u xs t more) is
ends after_u [] s is = absurd (cc (is))
ends after_u (a ∷ []) s is = absurd (cc (is))
ends after_u (a ∷ b ∷ []) s is = absurd (cc (is))
ends after_u (a ∷ b ∷ c ∷ []) s is = absurd (cc (is))
ends after_u (a ∷ b ∷ c ∷ d ∷ xs) s is =
    let (u, unit, found) = then-some (code_unit a b c d) (λ u. after_unit u xs) s is in
    unit-step a b c d u xs s (λ t more. ends plain xs t more) (λ t more. ends (after_high u) xs t more) unit found
ends (after_high h) [] s is = absurd (cc (is))
ends (after_high h) (x ∷ []) s is = absurd (cc (is))
ends (after_high h) (x ∷ y ∷ []) s is = absurd (cc (is))
ends (after_high h) (x ∷ y ∷ a ∷ []) s is = absurd (cc (is))
ends (after_high h) (x ∷ y ∷ a ∷ b ∷ []) s is = absurd (cc (is))
ends (after_high h) (x ∷ y ∷ a ∷ b ∷ c ∷ []) s is = absurd (cc (is))
ends (after_high h) (x ∷ y ∷ a ∷ b ∷ c ∷ d ∷ xs) s is = pair-step h x y a b c d xs s (λ t more. ends plain xs t more) is
