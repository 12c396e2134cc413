-- A text in quotation marks ends at the last of them.
use Rattle.std.proofs.Common.{◌≡◌, ◌∙◌, ◌+◌, ◌/◌, ◌%◌, ℕ, Bool, true, false, cond, if◌then◌else◌, nat_lt, List, [], ◌∷◌, ◌++◌, refl, sym, ap, subst, inl, inr, arith, append_assoc, lt-ltb}
use Rattle.std.specs.Prelude.{◌==◌}
use Rattle.std.specs.Char.{digit_char}
use Rattle.std.proofs.lemmas.Bool.{cases_eq, cases_lt, le-ltb, ne_eqb}
use Rattle.json.specs.Print.{escape, escape_byte, escape_letter}
use Rattle.odb_text.specs.Labels.{IsOneString, ends_last, is_nothing, quoted}

abbrev IsPlain : ℕ → Type 0
IsPlain x = ((x == 34) ≡ false) × ((x == 92) ≡ false)

plain-step : (x : ℕ) (rest : List ℕ) → IsPlain x → ends_last false (x ∷ rest) ≡ ends_last false rest
plain-step x rest (mark, slash) = ap (λ (b : Bool). if b then is_nothing rest else ends_last (x == 92) rest) mark ∙ ap (λ (b : Bool). ends_last b rest) slash

plain-digit : (d : ℕ) → IsPlain (digit_char d)
plain-digit d = elim (cases_lt d 10) [
  | inl less ↦ subst IsPlain (sym (ap (λ (b : Bool). cond b (48 + d) (87 + d)) (lt-ltb d 10 less))) (ne_eqb (48 + d) 34 (λ e. omega (arith, e)), ne_eqb (48 + d) 92 (λ e. omega (arith, e, less)))
  | inr more ↦ subst IsPlain (sym (ap (λ (b : Bool). cond b (48 + d) (87 + d)) (le-ltb d 10 more))) (ne_eqb (87 + d) 34 (λ e. omega (arith, e)), ne_eqb (87 + d) 92 (λ e. omega (arith, e, more)))
]

-- what is written of a byte is passed over
passed : (b c : Bool) (l x d e : ℕ) (rest : List ℕ) → IsPlain x → IsPlain d → IsPlain e
    → ends_last false (cond b (92 ∷ l ∷ []) (cond c (92 ∷ 117 ∷ 48 ∷ 48 ∷ d ∷ e ∷ []) (x ∷ [])) ++ rest) ≡ ends_last false rest
passed true c l x d e rest plain first second = refl
passed false true l x d e rest plain first second = plain-step d (e ∷ rest) first ∙ plain-step e rest second
passed false false l x d e rest plain first second = plain-step x rest plain

byte-passed : (x : ℕ) (rest : List ℕ) → ends_last false (escape_byte x ++ rest) ≡ ends_last false rest
unfolding escape_byte
byte-passed x rest =
    elim (cases_eq x 34) [
      | inl mark ↦ subst (λ (y : ℕ). ends_last false (escape_byte y ++ rest) ≡ ends_last false rest) (sym mark) refl
      | inr other ↦ elim (cases_eq x 92) [
        | inl slash ↦ subst (λ (y : ℕ). ends_last false (escape_byte y ++ rest) ≡ ends_last false rest) (sym slash) refl
        | inr plain ↦ passed (nat_lt 0 (escape_letter x)) (nat_lt x 32) (escape_letter x) x (digit_char (x / 16)) (digit_char (x % 16)) rest (ne_eqb x 34 other, ne_eqb x 92 plain) (plain-digit (x / 16)) (plain-digit (x % 16))
      ]
    ]

escaped-passed : (text : List ℕ) → ends_last false (escape text ++ 34 ∷ []) ≡ true
escaped-passed [] = refl
escaped-passed (x ∷ text) = ap (ends_last false) (append_assoc (escape_byte x) (escape text) (34 ∷ [])) ∙ byte-passed x (escape text ++ 34 ∷ []) ∙ escaped-passed text

pub one-string : (text : List ℕ) → IsOneString (quoted text)
one-string text = record { rest = escape text ++ 34 ∷ []; begins = refl; ends = escaped-passed text }
