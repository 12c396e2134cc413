-- Runs: a text is cut before its first character that fails a test, as a URL where a part of it ends (RFC 3986, section 3).
use Rattle.std.specs.Prelude.{◌≡◌, ℕ, Bool, false, List, ◌∷◌, ◌++◌}
use Rattle.std.specs.List.{AllPass}

-- the text is its longest run of characters that pass the test, and then the rest
pub record SplitsRun (test : ℕ → Bool) (text run rest : List ℕ) : Type 0 where
  pub whole : text ≡ run ++ rest
  pub passes : AllPass test run
  pub stops : (first : ℕ) (more : List ℕ) → rest ≡ first ∷ more → test first ≡ false
