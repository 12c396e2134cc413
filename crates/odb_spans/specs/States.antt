-- The states of a scan, as those of the machine of `Extents`: for private clauses, nothing to believe.
use Rattle.std.specs.Prelude.{◌≡◌, ◌<◌, ◌⊎◌, ℕ, suc, true, ⊤}
use Rattle.json.specs.Lex.{class}
use Rattle.json.specs.Lex as lexer
use Rattle.odb_spans.specs.declared.byte.Kind.{Kind}
use Rattle.odb_spans.specs.declared.extent.Mode.{Mode}
use Rattle.odb_spans.specs.declared.extent.Mode.TheVariants.{Between, Word, Text, Escape}
use Rattle.odb_spans.specs.declared.extent.State.{State}
use Rattle.odb_spans.specs.Extents.{extent_byte, first_byte}
use Rattle.odb_spans.specs.Kinds.{ends_word, IsKind}

abbrev pub mode_of : Mode → lexer.Mode
mode_of Between = lexer.between
mode_of Word = lexer.in_word
mode_of Text = lexer.in_string
mode_of Escape = lexer.in_escape

-- between words and strings only after an ASCII byte
abbrev pub IsAfter : ℕ → Mode → Type 0
IsAfter x Between = x < 128
IsAfter x Word = ⊤
IsAfter x Text = ⊤
IsAfter x Escape = ⊤

-- the mode after a byte of this kind in a string
pub record ContinuesText (kind : Kind) (next : Mode) : Type 0 where
  pub passes : (n x : ℕ) (k : lexer.Mode → ℕ → ℕ) → IsKind kind x → extent_byte lexer.in_string (class x) n x k ≡ suc (k (mode_of next) n)
  pub after : (x : ℕ) → IsKind kind x → IsAfter x next

-- the state is that after a byte of this kind, where n brackets are open and no word or string
pub record Begins (kind : Kind) (n : ℕ) (next : State) : Type 0 where
  pub first : n ≡ 0 → (x : ℕ) (k : lexer.Mode → ℕ → ℕ) → IsKind kind x → first_byte (class x) x k ≡ k (mode_of next.mode) next.depth
  pub later : (m : ℕ) → n ≡ suc m → (x : ℕ) (k : lexer.Mode → ℕ → ℕ) → IsKind kind x → extent_byte lexer.between (class x) (suc m) x k ≡ suc (k (mode_of next.mode) next.depth)
  pub word : ends_word kind ≡ true → (m : ℕ) → n ≡ suc m → (x : ℕ) (k : lexer.Mode → ℕ → ℕ) → IsKind kind x → extent_byte lexer.in_word (class x) (suc m) x k ≡ suc (k (mode_of next.mode) next.depth)
  pub after : (x : ℕ) → IsKind kind x → IsAfter x next.mode

-- the value ends before a byte of this kind
pub record Ends (kind : Kind) (state : State) : Type 0 where
  pub ends : (x : ℕ) (k : lexer.Mode → ℕ → ℕ) → IsKind kind x → extent_byte (mode_of state.mode) (class x) state.depth x k ≡ 0
  pub ascii : (x y : ℕ) → IsKind kind x → IsAfter y state.mode → (x < 128) ⊎ (y < 128)

-- the next state is that after a byte of this kind
pub record Passes (kind : Kind) (state next : State) : Type 0 where
  pub passes : (x : ℕ) (k : lexer.Mode → ℕ → ℕ) → IsKind kind x → extent_byte (mode_of state.mode) (class x) state.depth x k ≡ suc (k (mode_of next.mode) next.depth)
  pub after : (x : ℕ) → IsKind kind x → IsAfter x next.mode
