-- Values that hold whole numbers alone, which are read and written without loss.
use Rattle.std.specs.Prelude.{◌≡◌, ◌<◌, ℕ, false, Option, IfSome}
use Rattle.serde_json.specs.Data.{Data}
use Rattle.serde_json.specs.Written.{has_float}

-- no number in the value, however deep, has a fraction or an exponent or goes beyond 64 bits
abbrev pub IsWhole : Data → Type 0
IsWhole d = has_float d ≡ false

-- each number in the body, if there is one, is whole
abbrev pub HasWholeBody : Option Data → Type 0
HasWholeBody body = IfSome body IsWhole

-- each of the first `count` bodies holds whole numbers alone
abbrev pub HasWholeBodies : ℕ → (ℕ → Option Data) → Type 0
HasWholeBodies count body_at = (i : ℕ) → i < count → HasWholeBody (body_at i)

-- the first of `count` positions at which the body holds a number that is not whole
pub record IsFirstNotWhole (count : ℕ) (body_at : ℕ → Option Data) (at : ℕ) : Type 0 where
  pub within : at < count
  pub holds : ¬ HasWholeBody (body_at at)
  pub first : (i : ℕ) → i < at → HasWholeBody (body_at i)
