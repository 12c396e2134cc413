-- What a byte is for the lexer of `json`: for private clauses, nothing to believe.
use Rattle.std.specs.Prelude.{◌≡◌, ◌<◌, ℕ, Bool, true, false}
use Rattle.json.specs.Lex.{class, operator_lexeme}
use Rattle.json.specs.Lex as lexer
use Rattle.odb_spans.specs.declared.byte.Kind.{Kind}
use Rattle.odb_spans.specs.declared.byte.Kind.TheVariants.{Quote, Backslash, Open, Close, Separator, Blank, Other}
use Rattle.odb_spans.specs.Extents.{Weight, opens, closes, flat, lexeme_weight}

-- an operator of this weight
pub record IsOperator (w : Weight) (x : ℕ) : Type 0 where
  pub is : class x ≡ lexer.operator
  pub weighs : lexeme_weight (operator_lexeme x) ≡ w
  pub ascii : x < 128

pub record IsOfClass (c : lexer.Class) (x : ℕ) : Type 0 where
  pub is : class x ≡ c
  pub ascii : x < 128

abbrev pub IsKind : Kind → ℕ → Type 0
IsKind Quote x = IsOfClass lexer.quote x
IsKind Backslash x = class x ≡ lexer.backslash
IsKind Open x = IsOperator opens x
IsKind Close x = IsOperator closes x
IsKind Separator x = IsOperator flat x
IsKind Blank x = IsOfClass lexer.space x
IsKind Other x = class x ≡ lexer.other

-- a number or a literal ends before it
abbrev pub ends_word : Kind → Bool
ends_word Quote = false
ends_word Backslash = false
ends_word Open = true
ends_word Close = true
ends_word Separator = true
ends_word Blank = true
ends_word Other = false

abbrev pub is_separator : Kind → Bool
is_separator Quote = false
is_separator Backslash = false
is_separator Open = false
is_separator Close = false
is_separator Separator = true
is_separator Blank = false
is_separator Other = false

abbrev pub is_close : Kind → Bool
is_close Quote = false
is_close Backslash = false
is_close Open = false
is_close Close = true
is_close Separator = false
is_close Blank = false
is_close Other = false
