-- What is taken of an input, and what is held of a line.
use Rattle.std.proofs.Common.{◌≡◌, ◌≢◌, ℕ, ◌+◌, ◌-◌, ◌<◌, ◌≤◌, min, Bool, true, false, cond, List, [], ◌∷◌, ◌++◌, length, take, drop, Option, None, Some, sym, ap, subst, ◌∙◌, arith, append_assoc, eq-eqb, eqb-true, take-append-drop, zero-le, ◌⊎◌, inl, inr, le_refl, lit<, get_or-take}
use Rattle.std.proofs.lemmas.Bool.{cases_lt}
use Rattle.std.proofs.lemmas.List.{take_all, take-append-le, take-take, take_more, take_min, drop-append-le, drop_all, length-take, nil_from_length}
use Rattle.std.proofs.lemmas.List.Elements.{All-from_get_or}
use Rattle.std.proofs.Math.Seq.{take-append-add}
use Rattle.std.specs.Io.KnownBytes.{Consumes, prepend_known}
use Rattle.std.specs.Io.BufRead.{DropsConsumable}
use Rattle.memchr.specs.Find.{Nowhere, Passes, is_byte}
use Rattle.odb_engine.specs.Inputs.{most_read, IsDocumentOf}
use Rattle.odb_check.specs.Texts.{newline}
use Rattle.odb_engine.specs.lines.Steps.{IsOpen, cut}

-- a reader that has some bytes ahead gives the first of them
pub Consumes_ahead : (closed : Bool) (buffer : List ℕ) (inner now : Option (List ℕ)) (n : ℕ) → n ≤ length buffer
    → DropsConsumable (cond closed None (prepend_known buffer inner)) now (Some (length buffer)) n → Consumes (cond closed None (prepend_known buffer inner)) now (take n buffer)
Consumes_ahead true buffer inner now n within drops = tt
Consumes_ahead false buffer None now n within drops = tt
Consumes_ahead false buffer (Some rest) now n within drops =
    let parts : buffer ++ rest ≡ take n buffer ++ drop n (buffer ++ rest) =
    ap (λ l. l ++ rest) (sym (take-append-drop n buffer)) ∙ append_assoc (take n buffer) (drop n buffer) rest ∙ ap (λ l. take n buffer ++ l) (sym (drop-append-le n buffer rest within)) in
    subst (λ o. Consumes (Some (buffer ++ rest)) o (take n buffer)) (sym (drops within)) parts

-- a piece is held as far as there is room
pub hold-cut : (held piece : List ℕ) (room : ℕ) → length held ≤ most_read → room ≡ min (length piece) (most_read - length held) → held ++ take room piece ≡ cut (held ++ piece)
hold-cut held piece room within is = at most_read within is
  where
    at : (m : ℕ) → length held ≤ m → room ≡ min (length piece) (m - length held) → held ++ take room piece ≡ take m (held ++ piece)
    at m short same =
        let left = m - length held in
        let whole : m ≡ length held + left = omega arith in
        let least : min (length piece) left ≡ min left (length piece) = omega arith in
        ap (λ l. held ++ l) (ap (λ k. take k piece) (same ∙ least) ∙ take_min left piece) ∙ sym (take-append-add held piece left) ∙ ap (λ k. take k (held ++ piece)) (sym whole)

-- what is held of a line and a piece is held of the two together
pub cut-append : (begun piece : List ℕ) → cut (cut begun ++ piece) ≡ cut (begun ++ piece)
cut-append begun piece = at most_read (cases_lt most_read (length begun))
  where
    at : (m : ℕ) → (m < length begun) ⊎ (length begun ≤ m) → take m (take m begun ++ piece) ≡ take m (begun ++ piece)
    at m (inl longer) =
        let full : m ≤ length (take m begun) = omega (arith, length-take m begun) in
        take-append-le m (take m begun) piece full ∙ take-take m m begun (le_refl m) ∙ sym (take-append-le m begun piece (omega arith))
    at m (inr short) = ap (λ l. take m (l ++ piece)) (take_all m begun short)

-- what is held of a line is what is read of a document
pub IsDocumentOf-cut : (line : List ℕ) → IsDocumentOf line (cut line)
IsDocumentOf-cut line = record { rest = drop most_read line; whole = sym (take-append-drop most_read line); within = short most_read; ends = λ less. drop_all most_read line (all most_read less) }
  where
    short : (n : ℕ) → length (take n line) ≤ n
    short n = omega (arith, length-take n line)

    all : (n : ℕ) → length (take n line) < n → length line ≤ n
    all n less = omega (arith, length-take n line, less)

pub length-cut : (line : List ℕ) → length (cut line) ≤ most_read
length-cut line = at most_read
  where
    at : (n : ℕ) → length (take n line) ≤ n
    at n = omega (arith, length-take n line)

-- nothing is held of an empty line alone
pub cut-nil : (line : List ℕ) → cut line ≡ [] → line ≡ []
cut-nil line none = nil_from_length line (at most_read (lit< tt) (ap length none))
  where
    at : (n : ℕ) → 0 < n → length (take n line) ≡ 0 → length line ≡ 0
    at n some e = omega (arith, length-take n line)

-- no newline was found
pub IsOpen-all : (bytes : List ℕ) → Nowhere (Passes (is_byte newline) bytes) 0 (length bytes) → IsOpen bytes
IsOpen-all bytes none = All-from_get_or (λ byte. byte ≢ newline) bytes 0 (λ k within same. none k zero-le within (eq-eqb _ _ same))

-- no newline was found before this place
pub IsOpen-take : (bytes : List ℕ) (at : ℕ) → at ≤ length bytes → Nowhere (Passes (is_byte newline) bytes) 0 at → IsOpen (take at bytes)
IsOpen-take bytes at within none = All-from_get_or (λ byte. byte ≢ newline) (take at bytes) 0 (λ k below same.
    let less : k < at = omega (arith, length-take at bytes) in
    none k zero-le less (eq-eqb _ _ (sym (get_or-take at bytes k 0 less) ∙ same)))

-- the bytes through a newline
pub take-newline : (bytes : List ℕ) (at : ℕ) → at < length bytes → Passes (is_byte newline) bytes at → take (at + 1) bytes ≡ take at bytes ++ newline ∷ []
take-newline bytes at within found = take_more bytes at 0 within ∙ ap (λ byte. take at bytes ++ byte ∷ []) (eqb-true _ _ found)
