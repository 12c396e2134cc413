-- When a part of a batch has a request.
use Rattle.std.specs.Prelude.{◌≡◌, ◌⊎◌, ◌<◌, ℕ, Bool, true, false, List, length}
use Rattle.odb_send.specs.Units.{marked}

-- By these marks each unit is done, or has not begun, and one is not done.
pub record GoesOn (done left : List Bool) : Type 0 where
  pub open_unit : ℕ
  pub within : open_unit < length done
  pub not_done : marked done open_unit ≡ false
  pub each : (u : ℕ) → u < length done → (marked done u ≡ true) ⊎ (marked left u ≡ true)
