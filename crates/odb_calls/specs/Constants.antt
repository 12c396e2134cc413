-- What the call returns that gives what packages for other languages need to know of the library.
use Rattle.std.specs.Prelude.{ℕ, List}
use Rattle.odb_calls.specs.declared.constants.TheConstants.{CONSTANTS}
use Rattle.odb_calls.specs.Returns.{Fills}

-- the text, or that it does not fit
abbrev pub GivesConstants : ℕ → ℕ → List ℕ → List ℕ → Type 0
GivesConstants status text_length old new = Fills CONSTANTS.now 0 status text_length old new
