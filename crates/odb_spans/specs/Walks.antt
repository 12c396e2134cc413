-- Where a scan is among the tokens of its text: for private clauses, nothing to believe.
use Rattle.std.specs.Prelude.{◌≡◌, ◌≤◌, ◌<◌, ℕ, List, ◌∷◌, length, drop, get_or, true, false, Option, Some, None, ⊤, IsUtf8}
use Rattle.std.specs.Str.{IsCharBoundary}
use Rattle.json.specs.Token.{Token}
use Rattle.json.specs.Word.{is_space}
use Rattle.json.specs.Align.{is_blank, is_good}
use Rattle.json.specs.Lex.{Lexeme, token, between, class, lex, Place, fresh, after_value, after_comma, after_key, begins_colon, place_token, punctuate}
use Rattle.odb_spans.specs.Cuts.{IsClear, IsCut}
use Rattle.odb_spans.specs.Extents.{closes, weight}

-- the lexemes from a position of the text on
abbrev pub lexemes_from : List ℕ → ℕ → List Lexeme
lexemes_from text at = lex between (drop at text)

-- the tokens from there on, at a place among commas and colons
abbrev pub tokens_from : Place → List ℕ → ℕ → List Token
tokens_from p text at = punctuate p (lexemes_from text at)

-- no blank is there
abbrev pub IsSolidAt : List ℕ → ℕ → Type 0
IsSolidAt text at = at < length text → is_blank (class (get_or text at 0)) ≡ false

-- the text's value, if any, begins there
pub record IsStart (text : List ℕ) (start : ℕ) : Type 0 where
  pub within : start ≤ length text
  pub same : lexemes_from text start ≡ lexemes_from text 0
  pub solid : IsSolidAt text start
  pub boundary : IsUtf8 text → IsCharBoundary text start
  pub cut : IsCut text start
  pub blanks : (k : ℕ) → k < start → is_space (get_or text k 0) ≡ true

-- after an opening bracket or an element
abbrev pub IsInside : Place → Type 0
IsInside fresh = ⊤
IsInside after_value = ⊤
IsInside after_comma = ⊥
IsInside after_key = ⊥

-- what is there is t, with no separator before it, and then ts
pub record Faces (text : List ℕ) (at : ℕ) (t : Token) (ts : List Token) : Type 0 where
  pub place : Place
  pub first : Token
  pub rest : List Lexeme
  pub lexed : lexemes_from text at ≡ token first ∷ rest
  pub placed : place_token place first (begins_colon rest) (λ next. punctuate next rest) ≡ t ∷ ts

-- an element begins with t
pub record StepsOn (text : List ℕ) (at : ℕ) (t : Token) (ts : List Token) : Type 0 where
  pub inner : weight t ≡ closes → ⊥
  pub faces : Faces text at t ts

-- where the first token is t, which closes nothing, the lexer is clear at the end, as it was at the start if nothing came before
abbrev pub Clears : List ℕ → ℕ → ℕ → Type 0
Clears text from at =
    (q : Place) (t : Token) (ts : List Token) → IsInside q → is_good t ≡ true → (weight t ≡ closes → ⊥) → tokens_from q text from ≡ t ∷ ts → IsCut text from → (q ≡ fresh → IsClear text from) → IsClear text at

-- the step from there, whatever the tokens are: to an element, or none where the next token closes
abbrev pub Steps : List ℕ → ℕ → Option ℕ → Type 0
Steps text from None = (q : Place) (t : Token) (ts : List Token) → IsInside q → is_good t ≡ true → tokens_from q text from ≡ t ∷ ts → weight t ≡ closes
Steps text from (Some at) =
    (from ≤ at) × (at < length text) × IsSolidAt text at × (IsUtf8 text → IsCharBoundary text from → IsCharBoundary text at)
    × ((q : Place) (t : Token) (ts : List Token) → IsInside q → is_good t ≡ true → tokens_from q text from ≡ t ∷ ts → StepsOn text at t ts)
    × (IsCut text from → IsCut text at)
    × Clears text from at
