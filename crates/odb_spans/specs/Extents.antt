-- How far a JSON value reaches in a text, by its brackets and quotes: for private clauses, nothing to believe.
use Rattle.std.specs.Prelude.{ℕ, zero, suc, List, [], ◌∷◌}
use Rattle.json.specs.Token.{Token}
use Rattle.json.specs.Lex.{Lexeme, token, comma, colon, Class, quote, backslash, operator, space, other, class, operator_lexeme, Mode, between, in_word, in_string, in_escape}

pub data Weight : Type 0 where
  opens : Weight
  closes : Weight
  flat : Weight

abbrev pub weight : Token → Weight
weight Token.begin_object = opens
weight Token.end_object = closes
weight Token.begin_array = opens
weight Token.end_array = closes
weight (Token.key s) = flat
weight (Token.string s) = flat
weight (Token.number s) = flat
weight (Token.boolean b) = flat
weight Token.null = flat
weight Token.bad = flat

abbrev pub lexeme_weight : Lexeme → Weight
lexeme_weight (token t) = weight t
lexeme_weight comma = flat
lexeme_weight colon = flat

-- how many brackets are open after the lexeme, of one more than n before it
abbrev pub level : Weight → ℕ → ℕ
level opens n = suc (suc n)
level closes n = n
level flat n = suc n

-- how many brackets the first lexeme of a value opens
abbrev pub first_level : Weight → ℕ
first_level opens = 1
first_level closes = 0
first_level flat = 0

abbrev pub after_operator : ℕ → ℕ → ℕ
after_operator x n = level (lexeme_weight (operator_lexeme x)) n

-- k goes on after the byte x of class c, which comes where n brackets are open
abbrev pub extent_byte : Mode → Class → ℕ → ℕ → (Mode → ℕ → ℕ) → ℕ
extent_byte between c zero x k = zero
extent_byte between quote (suc n) x k = suc (k in_string (suc n))
extent_byte between backslash (suc n) x k = suc (k in_word (suc n))
extent_byte between operator (suc n) x k = suc (k between (after_operator x n))
extent_byte between space (suc n) x k = suc (k between (suc n))
extent_byte between other (suc n) x k = suc (k in_word (suc n))
extent_byte in_word quote n x k = suc (k in_word n)
extent_byte in_word backslash n x k = suc (k in_word n)
extent_byte in_word operator zero x k = zero
extent_byte in_word operator (suc n) x k = suc (k between (after_operator x n))
extent_byte in_word space zero x k = zero
extent_byte in_word space (suc n) x k = suc (k between (suc n))
extent_byte in_word other n x k = suc (k in_word n)
extent_byte in_string quote n x k = suc (k between n)
extent_byte in_string backslash n x k = suc (k in_escape n)
extent_byte in_string operator n x k = suc (k in_string n)
extent_byte in_string space n x k = suc (k in_string n)
extent_byte in_string other n x k = suc (k in_string n)
extent_byte in_escape c n x k = suc (k in_string n)

-- how many bytes there are until n brackets are closed, and the word or string has ended
unfoldable pub extent : Mode → ℕ → List ℕ → ℕ
extent m n [] = zero
extent m n (x ∷ xs) = extent_byte m (class x) n x (λ m n. extent m n xs)

abbrev pub first_byte : Class → ℕ → (Mode → ℕ → ℕ) → ℕ
first_byte quote x k = k in_string 0
first_byte backslash x k = k in_word 0
first_byte operator x k = k between (first_level (lexeme_weight (operator_lexeme x)))
first_byte space x k = k between 0
first_byte other x k = k in_word 0

-- how many bytes the value has with which the text begins
unfoldable pub value_extent : List ℕ → ℕ
value_extent [] = zero
value_extent (x ∷ xs) = suc (first_byte (class x) x (λ m n. extent m n xs))
