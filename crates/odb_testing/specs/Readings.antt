-- What two readings of one thing, or two calls that write, have in common.
use Rattle.std.specs.Prelude.{◌≡◌, ℕ, Option, Result, Vec, IsOk, IfOk, IfErr, IfSome}
use Rattle.std.specs.Global.{Global}

-- a reading has the property of a value or that of a fault
abbrev pub IsReading : {X F : Type 0} → (X → Type 0) → (F → Type 0) → Result X F → Type 0
IsReading P Q read = IfOk read P × IfErr read Q

-- both readings return a value, and these show the same, or both return the same fault
pub record IsSame {X F Y : Type 0} (shown : X → Y) (one other : Result X F) : Type 0 where
  pub values : IfOk one (λ x. IfOk other (λ y. shown x ≡ shown y))
  pub faults : IfErr one (λ f. IfErr other (λ g. f ≡ g))
  pub alike : IsOk one → IsOk other

-- two calls that both wrote something ended alike, and wrote one text
abbrev pub AreOne : {E : Type 0} → Option (E × Vec ℕ Global) → Option (E × Vec ℕ Global) → Type 0
AreOne a b = IfSome a (λ one. IfSome b (λ other. (one.0 ≡ other.0) × (one.1.items ≡ other.1.items)))
