-- The text in a buffer is a response that is done, if the call returns 0.
use Rattle.std.proofs.Common.{◌≡◌, ℕ, List, length, sym}
use Rattle.odb_engine.specs.declared.ending.Ended.TheVariants.{Done, Refused}
use Rattle.odb_engine.specs.declared.form.Form.TheVariants.{Lines}
use Rattle.odb_live.specs.Live.{Live}
use Rattle.odb_calls.specs.Live.{Responds}
use Rattle.odb_calls.specs.Returns.{Fills, Returns, status_of}
use Rattle.odb_calls.specs.Returns as returns

-- a response that is done, and is so long
abbrev pub IsWritten : Live → ℕ → Type 0
IsWritten live count = (text : List ℕ) × (length text ≡ count) × Responds live Lines Done text

pub written : (live : Live) (status count : ℕ) (old new : List ℕ) → Returns (Responds live Lines) status count old new → status ≡ 0 → IsWritten live count
written live status count old new (returns.OutOfMemory is) zero = absurd (cc (zero, is.is))
written live status count old new (returns.Given Done text responds fills) zero = at fills
  where
    at : Fills text 0 status count old new → IsWritten live count
    at (returns.Whole fits is counted begins) = (text, sym counted, responds)
    at (returns.TooLong long is counted same) = absurd (cc (zero, is))
written live status count old new (returns.Given Refused text responds fills) zero = at fills
  where
    at : Fills text 1 status count old new → IsWritten live count
    at (returns.Whole fits is counted begins) = absurd (cc (zero, is))
    at (returns.TooLong long is counted same) = absurd (cc (zero, is))
