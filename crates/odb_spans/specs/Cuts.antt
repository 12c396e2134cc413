-- Where the lexer of `json` may begin anew in a text: for private clauses, nothing to believe.
use Rattle.std.specs.Prelude.{◌≡◌, ◌≤◌, ◌<◌, ◌-◌, ℕ, List, [], ◌∷◌, length, take, drop}
use Rattle.json.specs.Lex.{Class, quote, backslash, operator, space, other, class, Mode, between, in_word, in_string, in_escape}

-- the mode after a byte of this class
abbrev pub next_mode : Mode → Class → Mode
next_mode between quote = in_string
next_mode between backslash = in_word
next_mode between operator = between
next_mode between space = between
next_mode between other = in_word
next_mode in_word quote = in_word
next_mode in_word backslash = in_word
next_mode in_word operator = between
next_mode in_word space = between
next_mode in_word other = in_word
next_mode in_string quote = between
next_mode in_string backslash = in_escape
next_mode in_string operator = in_string
next_mode in_string space = in_string
next_mode in_string other = in_string
next_mode in_escape c = in_string

-- the mode after these bytes
unfoldable pub mode_past : Mode → List ℕ → Mode
mode_past m [] = m
mode_past m (x ∷ xs) = mode_past (next_mode m (class x)) xs

-- after the position the lexer goes on as if the text began there
abbrev pub IsCut : List ℕ → ℕ → Type 0
IsCut text at = (n : ℕ) → at < n → n ≤ length text → mode_past between (take n text) ≡ mode_past between (take (n - at) (drop at text))

-- there the lexer is between lexemes, whatever follows
abbrev pub IsClear : List ℕ → ℕ → Type 0
IsClear text at = mode_past between (take at text) ≡ between
