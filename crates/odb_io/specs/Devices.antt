-- What a reader and a writer show that remember whether they failed, and what a writer has received of a text.
use Rattle.std.specs.Prelude.{◌≡◌, ℕ, Bool, List, ◌++◌, Option}
use Rattle.std.specs.Io.KnownBytes.{Appends}

pub record Reading (R : Type 0) : Type 0 where
  pub reader : R
  pub failed : Bool
  pub reads : ℕ

-- `flushed` says that the writer was flushed, and nothing was put since
pub record Writing (W : Type 0) : Type 0 where
  pub writer : W
  pub failed : Bool
  pub flushed : Bool

-- the writer has received a prefix of the text, and this is the rest
pub record HasWritten (old new : Option (List ℕ)) (text rest : List ℕ) : Type 0 where
  pub prefix : List ℕ
  pub whole : text ≡ prefix ++ rest
  pub written : Appends old new prefix

-- the writer has received a prefix of the text
abbrev pub AppendsPrefix : Option (List ℕ) → Option (List ℕ) → List ℕ → Type 0
AppendsPrefix old new text = (rest : List ℕ) × HasWritten old new text rest
