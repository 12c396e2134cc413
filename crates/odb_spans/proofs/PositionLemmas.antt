-- Lines and columns of a part of a text in which no line ends, or in which each byte begins a character.
use Rattle.std.proofs.Common.{◌≡◌, ◌∙◌, ◌≤◌, ◌<◌, ◌+◌, ◌-◌, ℕ, zero, suc, Bool, true, false, List, length, get_or, take, inl, inr, ap, arith, subst, add-zero}
use Rattle.std.specs.Prelude.{count_by}
use Rattle.std.specs.List.{after_last, between}
use Rattle.std.specs.Str.{IsAscii}
use Rattle.std.proofs.lemmas.Bool.{cases_Bool}
use Rattle.std.proofs.lemmas.Bool.Decides.{nat_tests}
use Rattle.std.proofs.lemmas.Grind.{common_steps}
use Rattle.std.proofs.lemmas.List.Edits.{get_or-between, length-between}
use Rattle.std.proofs.lemmas.List.Sums.{count_by_more_no}
use Rattle.memchr.specs.Find.{Nowhere, Passes, is_byte}
use Rattle.odb_spans.specs.Positions.{begins_character, is_newline}

-- no newline is in the text, if none is in its part
pub one-line : (text : List ℕ) (from to first : ℕ) → from ≤ to → to ≤ length text → Nowhere (Passes (is_byte 10) (between from to text)) first (length (between from to text))
    → (k : ℕ) → from + first ≤ k → k < to → is_newline (get_or text k 0) ≡ false
one-line text from to first order within none k after before =
    let at = k - from in
    let there : from + at ≡ k = omega arith in
    let inside : at < length (between from to text) = omega (arith, length-between text from to within) in
    let same = get_or-between text from to at 0 (omega (arith, there, before)) in
    elim (cases_Bool (is_newline (get_or text k 0))) [
      | inl ends ↦ absurd (none at (omega (arith, after)) inside (ap is_newline same ∙ ap (λ n. is_newline (get_or text n 0)) there ∙ ends))
      | inr other ↦ other
    ]

-- P is true of each byte of the text from one place up to another
abbrev pub EachFrom : (ℕ → Bool) → Bool → List ℕ → ℕ → ℕ → Type 0
EachFrom p b text from to = (k : ℕ) → from ≤ k → k < to → p (get_or text k 0) ≡ b

-- as many lines end
same_lines : (text : List ℕ) (from more : ℕ) → from + more ≤ length text → EachFrom is_newline false text from (from + more) → count_by is_newline (take (from + more) text) ≡ count_by is_newline (take from text)
same_lines text from zero within none = ap (λ n. count_by is_newline (take n text)) (add-zero from)
same_lines text from (suc more) within none =
    let next : from + suc more ≡ (from + more) + 1 = omega arith in
    let inside : from + more < length text = omega (arith, within) in
    ap (λ n. count_by is_newline (take n text)) next ∙ count_by_more_no is_newline text (from + more) 0 inside (none (from + more) (omega arith) (omega arith))
    ∙ same_lines text from more (omega (arith, within)) (λ k after before. none k after (omega (arith, before)))

pub lines-as : (text : List ℕ) (from to : ℕ) → from ≤ to → to ≤ length text → EachFrom is_newline false text from to → count_by is_newline (take to text) ≡ count_by is_newline (take from text)
lines-as text from to order within none =
    let there : from + (to - from) ≡ to = omega arith in
    subst (λ n. count_by is_newline (take n text) ≡ count_by is_newline (take from text)) there
    (same_lines text from (to - from) (omega (arith, there, within)) (λ k after before. none k after (omega (arith, there, before))))

abbrev characters : List ℕ → ℕ → ℕ
characters text n = count_by begins_character (after_last is_newline (take n text))

-- a byte that begins a character and ends no line is one more
next_character : (text : List ℕ) (at : ℕ) → at < length text → is_newline (get_or text at 0) ≡ false → begins_character (get_or text at 0) ≡ true → characters text (at + 1) ≡ characters text at + 1
next_character text at inside same_line begins = grind (arith, common_steps)

more_characters : (text : List ℕ) (from more : ℕ) → from + more ≤ length text → EachFrom is_newline false text from (from + more) → EachFrom begins_character true text from (from + more) → characters text (from + more) ≡ characters text from + more
more_characters text from zero within none each = omega (arith, ap (characters text) (add-zero from))
more_characters text from (suc more) within none each =
    let next : from + suc more ≡ (from + more) + 1 = omega arith in
    let inside : from + more < length text = omega (arith, within) in
    let one = next_character text (from + more) inside (none (from + more) (omega arith) (omega arith)) (each (from + more) (omega arith) (omega arith)) in
    let before = more_characters text from more (omega (arith, within)) (λ k after below. none k after (omega (arith, below))) (λ k after below. each k after (omega (arith, below))) in
    omega (arith, ap (characters text) next, one, before)

pub characters-as : (text : List ℕ) (from to : ℕ) → from ≤ to → to ≤ length text → EachFrom is_newline false text from to → EachFrom begins_character true text from to
    → count_by begins_character (after_last is_newline (take to text)) ≡ count_by begins_character (after_last is_newline (take from text)) + (to - from)
characters-as text from to order within none each =
    let there : from + (to - from) ≡ to = omega arith in
    subst (λ n. characters text n ≡ characters text from + (to - from)) there
    (more_characters text from (to - from) (omega (arith, there, within)) (λ k after before. none k after (omega (arith, there, before))) (λ k after before. each k after (omega (arith, there, before))))

-- of ASCII each byte begins a character
pub begins-ascii : (text : List ℕ) (from to : ℕ) → IsAscii (between from to text) → EachFrom begins_character true text from to
begins-ascii text from to ascii k after before =
    let at = k - from in
    let there : from + at ≡ k = omega arith in
    let same = get_or-between text from to at 0 (omega (arith, there, before)) in
    let small : get_or text k 0 < 128 = subst (λ n. get_or text n 0 < 128) there (subst (λ byte. byte < 128) same (ascii at)) in
    begins_small (get_or text k 0) small
  where
    begins_small : (byte : ℕ) → byte < 128 → begins_character byte ≡ true
    begins_small byte small = grind (arith, nat_tests)
