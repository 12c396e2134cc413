-- Where the rest of a URL begins.
use Rattle.std.proofs.Common.{◌≡◌, ◌∙◌, ◌-◌, ◌<◌, ℕ, true, false, List, [], ◌∷◌, ◌++◌, length, drop, refl, ap, arith}
use Rattle.std.proofs.lemmas.List.{length-append}
use Rattle.std.proofs.lemmas.List.Elements.{All-head, All-tail}
use Rattle.std.proofs.lemmas.Str.{IsCharBoundary-before_ascii}
use Rattle.std.proofs.Math.Seq.{drop-append_seam, get_or-append_seam}
use Rattle.std.specs.List.{AllPass}
use Rattle.std.specs.Str.{IsCharBoundary}
use Rattle.odb_names.specs.Segments.{IsAfterFirstSegment, is_in_segment}
use Rattle.odb_doc.specs.batch.UrlRests.{past_segment}

-- the text after a run of a segment is what follows its first segment
past-run : (run rest : List ℕ) → AllPass is_in_segment run → ((first : ℕ) (more : List ℕ) → rest ≡ first ∷ more → is_in_segment first ≡ false) → past_segment (run ++ rest) ≡ rest
past-run [] [] passes stops = refl
past-run [] (byte ∷ rest) passes stops = rw (stops byte rest refl) refl
past-run (byte ∷ run) rest passes stops = rw (All-head (λ byte. is_in_segment byte ≡ true) byte run passes) (past-run run rest (All-tail (λ byte. is_in_segment byte ≡ true) byte run passes) stops)

pub past-segment : (url rest : List ℕ) → IsAfterFirstSegment url rest → past_segment url ≡ rest
past-segment url rest after = ap past_segment after.splits.whole ∙ past-run after.segment rest after.splits.passes after.splits.stops

-- a URL ends with its rest
pub ends-with : (segment url rest : List ℕ) → url ≡ segment ++ rest → drop (length url - length rest) url ≡ rest
ends-with segment url rest whole =
    let long : length url - length rest ≡ length segment = omega (arith, ap (λ (t : List ℕ). length t) whole, length-append segment rest) in
    rw (long, whole) (drop-append_seam segment rest)

ends-segment : (byte : ℕ) → is_in_segment byte ≡ false → byte < 128
ends-segment byte ends = grind (arith, ends)

-- a character begins where the rest does
cut-at : (segment rest : List ℕ) → ((first : ℕ) (more : List ℕ) → rest ≡ first ∷ more → is_in_segment first ≡ false) → IsCharBoundary (segment ++ rest) (length segment)
cut-at segment [] stops = (omega (arith, length-append segment []), λ within. absurd (omega (arith, within, length-append segment [])))
cut-at segment (byte ∷ rest) stops =
    IsCharBoundary-before_ascii (segment ++ byte ∷ rest) (length segment) (omega (arith, length-append segment (byte ∷ rest))) (rw (get_or-append_seam segment byte rest 0) (ends-segment byte (stops byte rest refl)))

pub cut-there : (url rest : List ℕ) → IsAfterFirstSegment url rest → IsCharBoundary url (length url - length rest)
cut-there url rest after =
    let segment = after.segment in
    let long : length url - length rest ≡ length segment = omega (arith, ap (λ (t : List ℕ). length t) after.splits.whole, length-append segment rest) in
    rw (long, after.splits.whole) (cut-at segment rest after.splits.stops)
