-- The lines of some bytes.
use Rattle.std.specs.Prelude.{ℕ, List, [], ◌∷◌, ◌==◌, if◌then◌else◌}
use Rattle.odb_check.specs.Texts.{newline}

-- the byte is the first of the first line, or it is a line of its own
abbrev pub first_of_all : ℕ → List (List ℕ) → List (List ℕ)
first_of_all byte [] = (byte ∷ []) ∷ []
first_of_all byte (line ∷ lines) = (byte ∷ line) ∷ lines

-- the lines: what precedes each newline, and what follows the last one unless that is empty
abbrev pub lines_of : List ℕ → List (List ℕ)
lines_of [] = []
lines_of (byte ∷ bytes) = if byte == newline then [] ∷ lines_of bytes else first_of_all byte (lines_of bytes)

-- the byte is the first of the first line, if there is one
abbrev pub first_of_ended : ℕ → List (List ℕ) → List (List ℕ)
first_of_ended byte [] = []
first_of_ended byte (line ∷ lines) = (byte ∷ line) ∷ lines

-- the lines that a newline ends
abbrev pub ended_lines : List ℕ → List (List ℕ)
ended_lines [] = []
ended_lines (byte ∷ bytes) = if byte == newline then [] ∷ ended_lines bytes else first_of_ended byte (ended_lines bytes)
