-- Decimal digits, as they are printed and read.
use Rattle.std.proofs.Common.{◌≡◌, ◌≢◌, ◌∙◌, ◌⊎◌, ℕ, zero, suc, ◌<◌, ◌^◌, List, [], ◌∷◌, Result, Ok, Err, MatchResult, Option, Some, None, IfSome, length, get_or, inl, inr, sym, ap, subst, arith}
use Rattle.std.specs.Fmt.{decimal}
use Rattle.std.specs.Result.{result_ok}
use Rattle.std.specs.Int.{IsInRange}
use Rattle.std.specs.Str.{IsUtf8}
use Rattle.std.specs.Str.Parse.{AllDigits, ParsesUnsigned, digits_value}
use Rattle.std.proofs.lemmas.Fmt.{IsAscii-decimal, decimal-digits_value, decimal_digit, decimal_is_IsNumeral, decimal_nonempty, first_decimal, parse-decimal}
use Rattle.std.proofs.lemmas.Str.{IsUtf8-from_ascii}
use Rattle.std.proofs.lemmas.Str.Parse.{IsNumeralModel, digit_at, numerals_by_value, parse_plain, tells_digits}

own : IsNumeralModel (AllDigits 10) (digits_value 10)
own = numerals_by_value (AllDigits 10) tells_digits

first-digit : (n : ℕ) → n < 2 ^ 64 → IsInRange 48 57 (get_or (decimal n) 0 0)
first-digit n small = digit_at (decimal n) 0 (decimal_is_IsNumeral n small).0.1 (decimal_nonempty n small)

-- the digits of a number are a 0 alone, or begin with another one
pub begins : (ds : List ℕ) (n : ℕ) → n < 2 ^ 64 → ds ≡ decimal n → (ds ≡ 48 ∷ []) ⊎ IsInRange 49 57 (get_or ds 0 0)
begins ds zero small is = inl (is ∙ decimal_digit 0 (omega arith))
begins ds (suc n) small is =
    let first = first-digit (suc n) small in
    let above : 48 < get_or (decimal (suc n)) 0 0 = first_decimal (suc n) (omega arith) small in
    inr (subst (λ (xs : List ℕ). IsInRange 49 57 (get_or xs 0 0)) (sym is) (omega arith, omega arith))

pub nonempty : (ds : List ℕ) (n : ℕ) → n < 2 ^ 64 → ds ≡ decimal n → 0 < length ds
nonempty ds n small is = subst (λ (xs : List ℕ). 0 < length xs) (sym is) (decimal_nonempty n small)

pub text-of : (ds : List ℕ) (n : ℕ) → n < 2 ^ 64 → ds ≡ decimal n → IsUtf8 ds
text-of ds n small is = subst IsUtf8 (sym is) (IsUtf8-from_ascii (decimal n) (IsAscii-decimal n small))

pub zero-is : 48 ∷ [] ≡ decimal 0
zero-is = sym (decimal_digit 0 (omega arith))

-- digits that begin so are read as the number that they print
pub parsed : {E : Type 0} (ds : List ℕ) (r : Result ℕ E) → ParsesUnsigned 64 10 ds r → IsInRange 49 57 (get_or ds 0 0) → MatchResult r (λ n. ds ≡ decimal n) (λ _. (n : ℕ) → n < 2 ^ 64 → ds ≢ decimal n)
parsed {E} ds (Ok n) read range =
    let h = parse_plain own {E = E} 64 ds (Ok n) read (λ plus. omega arith) in
    sym (decimal-digits_value own ds h.0.0 h.0.1 (λ zero. absurd (omega arith)) h.0.2) ∙ ap decimal (sym h.1)
parsed {E} ds (Err e) read range = λ n small is.
    let same = parse-decimal {E = E} 64 n ds (Err e) small small is read in cc same

-- and this is what is returned
pub read-some : {E : Type 0} (ds text : List ℕ) (r : Result ℕ E) (found : Option ℕ) → text ≡ ds → ParsesUnsigned 64 10 text r → found ≡ result_ok r → IsInRange 49 57 (get_or ds 0 0) → IfSome found (λ n. ds ≡ decimal n)
read-some {E} ds text (Ok n) found same read is range = rw is (parsed {E = E} ds (Ok n) (subst (λ (xs : List ℕ). ParsesUnsigned {E = E} 64 10 xs (Ok n)) same read) range)
read-some {E} ds text (Err e) found same read is range = rw is tt

pub read-none : {E : Type 0} (ds text : List ℕ) (r : Result ℕ E) (found : Option ℕ) → text ≡ ds → ParsesUnsigned 64 10 text r → found ≡ result_ok r → IsInRange 49 57 (get_or ds 0 0) → found ≡ None → (n : ℕ) → n < 2 ^ 64 → ds ≢ decimal n
read-none {E} ds text (Ok n) found same read is range none = absurd (let e : ◌≡◌ {A = Option ℕ} (Some n) None = sym is ∙ none in cc e)
read-none {E} ds text (Err e) found same read is range none = parsed {E = E} ds (Err e) (subst (λ (xs : List ℕ). ParsesUnsigned {E = E} 64 10 xs (Err e)) same read) range
