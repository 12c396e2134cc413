-- What the first byte of a text and its length say of the text that it decodes to.
use Rattle.std.proofs.Common.{◌≡◌, ◌≢◌, ◌≤◌, ◌||◌, ◌==◌, ℕ, Bool, true, false, List, [], ◌∷◌, ◌++◌, length, refl, sym, ap, ◌∙◌, subst, inl, inr, arith, codes}
use Rattle.std.specs.List.{list_any}
use Rattle.std.proofs.lemmas.Bool.{cases_Bool}
use Rattle.std.proofs.lemmas.Bool.Decides.{nat_tests}
use Rattle.std.proofs.lemmas.List.Elements.{All-nil, All-cons}
use Rattle.std.proofs.lemmas.List.Folds.{list_any-append}
use Rattle.percent_encoding.specs.Percent.{percent_decode}
use Rattle.percent_encoding.proofs.PercentLemmas.{percent_decode-nil, percent_decode_not_percent, length-percent_decode}
use Rattle.odb_names.specs.Classes.{is_sign, begins_with_sign}
use Rattle.odb_names.specs.Fronts.{HasFront, dollar, plain}
use Rattle.odb_names.specs.Runs.{SplitsRun}
use Rattle.odb_names.specs.Segments.{IsNestedBatch, is_in_segment}

not_sign : (byte : ℕ) → is_sign byte ≡ false → (byte ≢ 36) × (byte ≢ 37)
not_sign byte e = ((λ same. grind (arith, nat_tests)), (λ same. grind (arith, nat_tests)))

-- a text that begins with neither `$` nor `%` does not begin with `$` once it is decoded
pub no_dollar : (text : List ℕ) → begins_with_sign text ≡ false → (after : List ℕ) → percent_decode text ≢ dollar ∷ after
no_dollar [] e after decoded = let none = percent_decode-nil in cc
no_dollar (byte ∷ more) e after decoded =
    let other = not_sign byte e in
    let kept : percent_decode (byte ∷ more) ≡ byte ∷ percent_decode more = percent_decode_not_percent byte more other.1 in
    other.0 (cc)

-- each text has a longest run
split_of : (test : ℕ → Bool) (text : List ℕ) → (run : List ℕ) × (rest : List ℕ) × SplitsRun test text run rest
split_of test [] = ([], [], record { whole = refl; passes = All-nil _; stops = λ first more e. cc })
split_of test (byte ∷ more) =
    elim (cases_Bool (test byte)) [
      | inl passes ↦
          let rest = split_of test more in
          (byte ∷ rest.0, rest.1, record { whole = ap (λ bytes. byte ∷ bytes) rest.2.whole; passes = All-cons (λ b. test b ≡ true) byte rest.0 passes rest.2.passes; stops = rest.2.stops })
      | inr fails ↦ ([], byte ∷ more, record { whole = refl; passes = All-nil _; stops = λ first rest e. let same : byte ≡ first = cc in subst (λ b. test b ≡ false) same fails })
    ]

no_sign_before : (run rest : List ℕ) → begins_with_sign (run ++ rest) ≡ false → begins_with_sign run ≡ false
no_sign_before [] rest e = refl
no_sign_before (byte ∷ run) rest e = e

-- a URL that begins with neither refers to nothing
pub plain_front : (url : List ℕ) → begins_with_sign url ≡ false → HasFront url plain
plain_front url e =
    let split = split_of is_in_segment url in
    record {
      segment = split.0;
      first = record { rest = split.1; splits = split.2 };
      decoded = no_dollar split.0 (no_sign_before split.0 split.1 (subst (λ text. begins_with_sign text ≡ false) split.2.whole e));
    }

-- what decodes to `$batch` has 6 to 18 bytes, and begins with `$` or `%`
pub record MayBeBatch (segment : List ℕ) : Type 0 where
  pub long : 6 ≤ length segment
  pub short : length segment ≤ 18
  pub begins : begins_with_sign segment ≡ true

pub decoded_batch : (segment : List ℕ) → percent_decode segment ≡ codes "$batch" → MayBeBatch segment
decoded_batch segment e =
    let bounds = length-percent_decode segment in
    let six : length (percent_decode segment) ≡ 6 = ap length e in
    record {
      long = omega (arith, bounds.0, six);
      short = omega (arith, bounds.1, six);
      begins = elim (cases_Bool (begins_with_sign segment)) [ inl begins ↦ begins | inr other ↦ absurd (no_dollar segment other _ e) ];
    }

any_inside : (test : ℕ → Bool) (before segment rest : List ℕ) → list_any test segment ≡ true → list_any test ((before ++ segment) ++ rest) ≡ true
any_inside test before segment rest found =
    list_any-append test (before ++ segment) rest ∙ ap (λ v. v || list_any test rest) (list_any-append test before segment ∙ ap (λ v. list_any test before || v) found)
    ∙ elim (list_any test before) as (λ v. ((v || true) || list_any test rest) ≡ true) [ true ↦ refl | false ↦ refl ]

first_any : (segment : List ℕ) → begins_with_sign segment ≡ true → list_any (λ byte. byte == 36) segment ≡ false → list_any (λ byte. byte == 37) segment ≡ true
first_any [] e none = cc
first_any (byte ∷ more) e none = grind arith

-- a URL that names a batch has one of them
pub nested_sign : (url : List ℕ) → IsNestedBatch url → list_any (λ byte. byte == 36) url ≡ false → list_any (λ byte. byte == 37) url ≡ true
nested_sign url nested none =
    let last = nested.last in
    let whole : url ≡ (last.before ++ nested.segment) ++ last.rest = last.path.whole in
    let begins = (decoded_batch nested.segment nested.named).begins in
    elim (cases_Bool (list_any (λ byte. byte == 36) nested.segment)) [
      | inl dollar_there ↦ let there = any_inside (λ byte. byte == 36) last.before nested.segment last.rest dollar_there in absurd (cc (there, none, whole))
      | inr not_there ↦ subst (λ text. list_any (λ byte. byte == 37) text ≡ true) (sym whole) (any_inside (λ byte. byte == 37) last.before nested.segment last.rest (first_any nested.segment begins not_there))
    ]
