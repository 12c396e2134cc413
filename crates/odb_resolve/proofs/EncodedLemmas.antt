-- What is percent-encoded has bytes of URLs alone.
use Rattle.std.proofs.Common.{◌≡◌, ◌<◌, ℕ, zero, suc, Bool, true, false, not, ◌&&◌, ◌||◌, ◌==◌, leb, List, refl, ap, arith, ⊎_elim}
use Rattle.std.specs.List.{AllPass}
use Rattle.std.proofs.lemmas.Bool.{and_parts, cases_eq}
use Rattle.std.proofs.lemmas.Bool.Decides.{nat_tests}
use Rattle.percent_encoding.specs.AsciiSet.{contains, should_percent_encode}
use Rattle.percent_encoding.proofs.AsciiSetLemmas.{kept_from_outside}
use Rattle.percent_encoding.proofs.PercentLemmas.{IsEscapeByte, All-percent_encode}
use Rattle.odb_resolve.specs.declared.text.TheConstants.{ESCAPED}
use Rattle.odb_resolve.specs.Roots.{encode, is_in_url}

-- a test of each number below a bound
abbrev all_below : (ℕ → Bool) → ℕ → Bool
all_below test zero = true
all_below test (suc n) = test n && all_below test n

checked : (test : ℕ → Bool) (n : ℕ) → all_below test n ≡ true → (k : ℕ) → k < n → test k ≡ true
checked test zero all k below = absurd (omega arith)
checked test (suc n) all k below =
    ⊎_elim (λ last. rw last (and_parts _ _ all).0) (λ other. checked test n (and_parts _ _ all).1 k (omega arith)) (cases_eq k n)

abbrev is_escape_byte : ℕ → Bool
is_escape_byte b = b == 37 || (leb 48 b && leb b 57) || (leb 65 b && leb b 70)

escape_tested : (b : ℕ) → IsEscapeByte b → (b < 128) × (is_escape_byte b ≡ true)
escape_tested b escape = (grind arith, grind (arith, nat_tests))

outside : (b : ℕ) → (not (is_escape_byte b) || not (contains ESCAPED b)) ≡ true → is_escape_byte b ≡ true → contains ESCAPED b ≡ false
outside b either escape = grind (arith, nat_tests)

escape_is_kept : (b : ℕ) → IsEscapeByte b → should_percent_encode ESCAPED b ≡ false
escape_is_kept b escape =
    let tested = escape_tested b escape in
    kept_from_outside ESCAPED b tested.0 (outside b (checked (λ x. not (is_escape_byte x) || not (contains ESCAPED x)) 128 refl b tested.0) tested.1)

pub encoded_in_url : (text : List ℕ) → AllPass is_in_url (encode text)
encoded_in_url text = All-percent_encode (λ b. is_in_url b ≡ true) ESCAPED text (λ b kept. ap not kept) (λ b escape. ap not (escape_is_kept b escape))
