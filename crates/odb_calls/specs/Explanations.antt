-- What the call returns that explains a fault.
use Rattle.std.specs.Prelude.{◌≡◌, ℕ, List, None, Some}
use Rattle.odb_explain.specs.Explanations.{explanation}
use Rattle.odb_calls.specs.Returns.{Fills, IsWrongOption}

-- the explanation of the code, or that there is no such code
pub data Explains (code : List ℕ) (status text_length : ℕ) (old new : List ℕ) : Type 0 where
  Explained : (text : List ℕ) → explanation code ≡ Some text → Fills text 0 status text_length old new → Explains code status text_length old new
  NoCode : explanation code ≡ None → IsWrongOption status text_length old new → Explains code status text_length old new
