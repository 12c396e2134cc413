-- The text of a string in which nothing has to be escaped.
use Rattle.std.proofs.Common.{◌≡◌, ◌≢◌, ◌≤◌, ℕ, List, [], ◌∷◌, ◌++◌, ◌==◌, true, false, nat_lt, arith, refl, ap, codes, drop, ne_eqb, le-ltb}
use Rattle.std.proofs.lemmas.Bool.Decides.{nat_tests}
use Rattle.std.proofs.lemmas.List.Elements.{All-head, All-rest}
use Rattle.std.specs.List.{AllPass}
use Rattle.serde_json.specs.Data.{string}
use Rattle.serde_json.specs.Written.{compact_text}
use Rattle.serde_json.proofs.OnLiterals.{serde_json_on_literals}
use Rattle.odb_doc.specs.canonical.Quoting.{is_plain}

plain_byte : (x : ℕ) → is_plain x ≡ true → (32 ≤ x) × (x ≢ 34) × (x ≢ 92)
plain_byte x is = (grind (arith, nat_tests), grind (arith, nat_tests), grind (arith, nat_tests))

first_plain : (x : ℕ) (s t : List ℕ) → is_plain x ≡ true → compact_text (string s) ≡ 34 ∷ t → compact_text (string (x ∷ s)) ≡ 34 ∷ x ∷ t
unfolding serde_json_on_literals
first_plain x s t is rest =
    let plain = plain_byte x is in
    let a : (x == 34) ≡ false = ne_eqb x 34 plain.1 in
    let b : (x == 92) ≡ false = ne_eqb x 92 plain.2 in
    let c : (x == 8) ≡ false = ne_eqb x 8 (λ e. omega (arith, plain.0)) in
    let d : (x == 12) ≡ false = ne_eqb x 12 (λ e. omega (arith, plain.0)) in
    let f : (x == 10) ≡ false = ne_eqb x 10 (λ e. omega (arith, plain.0)) in
    let g : (x == 13) ≡ false = ne_eqb x 13 (λ e. omega (arith, plain.0)) in
    let h : (x == 9) ≡ false = ne_eqb x 9 (λ e. omega (arith, plain.0)) in
    let i : nat_lt x 32 ≡ false = le-ltb x 32 plain.0 in
    simp (a, b, c, d, f, g, h, i) (ap (λ t. 34 ∷ x ∷ t) (ap (drop 1) rest))

-- such a text is in quotes as it is
pub text-plain : (s : List ℕ) → AllPass is_plain s → compact_text (string s) ≡ codes "\"" ++ s ++ codes "\""
text-plain [] each = refl
text-plain (x ∷ s) each =
    let passes : ℕ → Type 0 = λ byte. is_plain byte ≡ true in
    first_plain x s (s ++ 34 ∷ []) (All-head passes x s each) (text-plain s (All-rest passes x s (x ∷ s) refl each))

-- ---- two lines

first_newline : (s : List ℕ) → compact_text (string s) ≡ 34 ∷ (s ++ 34 ∷ []) → compact_text (string (10 ∷ s)) ≡ 34 ∷ 92 ∷ 110 ∷ (s ++ 34 ∷ [])
unfolding serde_json_on_literals
first_newline s rest = ap (λ t. 34 ∷ 92 ∷ 110 ∷ t) (ap (drop 1) rest)

lines-plain : (s t : List ℕ) → AllPass is_plain s → compact_text (string t) ≡ 34 ∷ (t ++ 34 ∷ []) → compact_text (string (s ++ 10 ∷ t)) ≡ 34 ∷ (s ++ 92 ∷ 110 ∷ t ++ 34 ∷ [])
lines-plain [] t each rest = first_newline t rest
lines-plain (x ∷ s) t each rest =
    let passes : ℕ → Type 0 = λ byte. is_plain byte ≡ true in
    first_plain x (s ++ 10 ∷ t) (s ++ 92 ∷ 110 ∷ t ++ 34 ∷ []) (All-head passes x s each) (lines-plain s t (All-rest passes x s (x ∷ s) refl each) rest)

-- such lines are in quotes as they are, with an escaped newline between them
pub text-lines : (s t : List ℕ) → AllPass is_plain s → AllPass is_plain t → compact_text (string (s ++ 10 ∷ t)) ≡ 34 ∷ (s ++ 92 ∷ 110 ∷ t ++ 34 ∷ [])
text-lines s t each more = lines-plain s t each (text-plain t more)
