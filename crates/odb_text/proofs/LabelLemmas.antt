-- The first characters of a text, one by one.
use Rattle.std.proofs.Common.{◌≡◌, ◌∙◌, ◌<◌, ◌≤◌, ℕ, suc, true, false, if◌then◌else◌, nat_lt, List, [], ◌∷◌, ◌++◌, length, get_or, take, chars, codes, sym, ap, append-nil}
use Rattle.std.specs.List.{flat_map}
use Rattle.std.proofs.Math.Seq.{take-suc}
use Rattle.std.proofs.lemmas.Grind.{flat_map-append}
use Rattle.std.proofs.lemmas.List.{take_all}
use Rattle.odb_text.specs.Labels.{first_shown, shown, shown_char}

-- one character more
pub one_more : (text : List ℕ) (n c : ℕ) → (n < length (chars text)) × (c ≡ get_or (chars text) n c) → first_shown (suc n) text ≡ first_shown n text ++ shown_char c
one_more text n c is =
    ap (flat_map shown_char) (take-suc (chars text) n c is.0 ∙ ap (λ d. take n (chars text) ++ (d ∷ [])) (sym is.1))
    ∙ flat_map-append shown_char (take n (chars text)) (c ∷ []) ∙ ap (λ more. first_shown n text ++ more) (append-nil (shown_char c))

-- a text has no characters after its last one
pub no_more : (text : List ℕ) (n m : ℕ) → length (chars text) ≤ n → length (chars text) ≤ m → first_shown n text ≡ first_shown m text
no_more text n m few other = ap (flat_map shown_char) (take_all n (chars text) few ∙ sym (take_all m (chars text) other))

-- what is shown of a long text, and of another
pub shown_long : (text : List ℕ) → true ≡ nat_lt 40 (length (chars text)) → shown text ≡ first_shown 38 text ++ codes ".."
unfolding shown
shown_long text is = ap (λ long. if long then first_shown 38 text ++ codes ".." else first_shown 40 text) (sym is)

pub shown_short : (text : List ℕ) → false ≡ nat_lt 40 (length (chars text)) → shown text ≡ first_shown 40 text
unfolding shown
shown_short text is = ap (λ long. if long then first_shown 38 text ++ codes ".." else first_shown 40 text) (sym is)
