-- The lines of bytes that were read piece by piece.
use Rattle.std.proofs.Common.{◌≡◌, ◌≢◌, ℕ, cond, List, [], ◌∷◌, ◌++◌, All, length, take, refl, ap, ◌∙◌, append_assoc, append-nil, eq-eqb, ne_eqb}
use Rattle.std.specs.List.{flat_map}
use Rattle.std.proofs.lemmas.List.{take_at}
use Rattle.std.proofs.lemmas.List.Concat.{flat_map-append}
use Rattle.std.proofs.lemmas.List.Elements.{All-head, All-tail}
use Rattle.odb_check.specs.Texts.{newline}
use Rattle.odb_engine.specs.lines.Lines.{lines_of, ended_lines, first_of_all, first_of_ended}
use Rattle.odb_engine.specs.lines.Steps.{IsOpen}

-- the line and its newline
abbrev pub with_end : List ℕ → List ℕ
with_end line = line ++ newline ∷ []

-- lines, each with its newline
abbrev pub joined : List (List ℕ) → List ℕ
joined lines = flat_map with_end lines

-- what follows the last newline is a line unless it is empty
abbrev pub last_line : List ℕ → List (List ℕ)
last_line [] = []
last_line (byte ∷ bytes) = (byte ∷ bytes) ∷ []

-- an open line is all
pub lines-open : (bytes : List ℕ) → IsOpen bytes → lines_of bytes ≡ last_line bytes
lines-open [] open' = refl
lines-open (byte ∷ bytes) open' =
    ap (λ b. cond b ([] ∷ lines_of bytes) (first_of_all byte (lines_of bytes))) (ne_eqb byte newline (All-head (λ b. b ≢ newline) byte bytes open'))
    ∙ ap (first_of_all byte) (lines-open bytes (All-tail (λ b. b ≢ newline) byte bytes open')) ∙ one bytes
  where
    one : (bytes : List ℕ) → first_of_all byte (last_line bytes) ≡ (byte ∷ bytes) ∷ []
    one [] = refl
    one (x ∷ xs) = refl

-- an ended line is the first
pub lines-ended : (line bytes : List ℕ) → IsOpen line → lines_of (line ++ newline ∷ bytes) ≡ line ∷ lines_of bytes
lines-ended [] bytes open' = ap (λ b. cond b ([] ∷ lines_of bytes) (first_of_all newline (lines_of bytes))) (eq-eqb newline newline refl)
lines-ended (byte ∷ line) bytes open' =
    ap (λ b. cond b ([] ∷ lines_of (line ++ newline ∷ bytes)) (first_of_all byte (lines_of (line ++ newline ∷ bytes)))) (ne_eqb byte newline (All-head (λ b. b ≢ newline) byte line open'))
    ∙ ap (first_of_all byte) (lines-ended line bytes (All-tail (λ b. b ≢ newline) byte line open'))

-- no line of an open one is ended
pub ended-open : (bytes : List ℕ) → IsOpen bytes → ended_lines bytes ≡ []
ended-open [] open' = refl
ended-open (byte ∷ bytes) open' =
    ap (λ b. cond b ([] ∷ ended_lines bytes) (first_of_ended byte (ended_lines bytes))) (ne_eqb byte newline (All-head (λ b. b ≢ newline) byte bytes open'))
    ∙ ap (first_of_ended byte) (ended-open bytes (All-tail (λ b. b ≢ newline) byte bytes open'))

pub ended-ended : (line bytes : List ℕ) → IsOpen line → ended_lines (line ++ newline ∷ bytes) ≡ line ∷ ended_lines bytes
ended-ended [] bytes open' = ap (λ b. cond b ([] ∷ ended_lines bytes) (first_of_ended newline (ended_lines bytes))) (eq-eqb newline newline refl)
ended-ended (byte ∷ line) bytes open' =
    ap (λ b. cond b ([] ∷ ended_lines (line ++ newline ∷ bytes)) (first_of_ended byte (ended_lines (line ++ newline ∷ bytes)))) (ne_eqb byte newline (All-head (λ b. b ≢ newline) byte line open'))
    ∙ ap (first_of_ended byte) (ended-ended line bytes (All-tail (λ b. b ≢ newline) byte line open'))

-- one line more is joined
pub joined-more : (lines : List (List ℕ)) (line : List ℕ) → joined (lines ++ line ∷ []) ≡ joined lines ++ with_end line
joined-more lines line = flat_map-append with_end lines (line ∷ []) ∙ ap (λ l. joined lines ++ l) (append-nil (with_end line))

joined-cons : (line : List ℕ) (lines : List (List ℕ)) (rest : List ℕ) → joined (line ∷ lines) ++ rest ≡ line ++ newline ∷ (joined lines ++ rest)
joined-cons line lines rest = append_assoc (with_end line) (joined lines) rest ∙ append_assoc line (newline ∷ []) (joined lines ++ rest)

-- the lines of joined ones
pub lines-joined : (lines : List (List ℕ)) (rest : List ℕ) → All IsOpen lines → IsOpen rest → lines_of (joined lines ++ rest) ≡ lines ++ last_line rest
lines-joined [] rest all open' = lines-open rest open'
lines-joined (line ∷ lines) rest all open' =
    ap lines_of (joined-cons line lines rest) ∙ lines-ended line (joined lines ++ rest) (All-head IsOpen line lines all)
    ∙ ap (λ l. line ∷ l) (lines-joined lines rest (All-tail IsOpen line lines all) open')

pub ended-joined : (lines : List (List ℕ)) (rest : List ℕ) → All IsOpen lines → IsOpen rest → ended_lines (joined lines ++ rest) ≡ lines
ended-joined [] rest all open' = ended-open rest open'
ended-joined (line ∷ lines) rest all open' =
    ap ended_lines (joined-cons line lines rest) ∙ ended-ended line (joined lines ++ rest) (All-head IsOpen line lines all)
    ∙ ap (λ l. line ∷ l) (ended-joined lines rest (All-tail IsOpen line lines all) open')

-- the lines before an open one
pub take-joined : (lines : List (List ℕ)) (rest : List ℕ) → All IsOpen lines → IsOpen rest → take (length lines) (lines_of (joined lines ++ rest)) ≡ lines
take-joined lines rest all open' = ap (take (length lines)) (lines-joined lines rest all open') ∙ take_at lines (last_line rest) (length lines) refl

-- a line that is held is not empty
pub last_line-some : (rest : List ℕ) → rest ≢ [] → last_line rest ≡ rest ∷ []
last_line-some [] some = absurd (some refl)
last_line-some (byte ∷ bytes) some = refl
