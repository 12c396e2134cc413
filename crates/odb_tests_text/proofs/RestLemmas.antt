-- What two calls find of which there is one, or the one fault by which there is none.
use Rattle.std.proofs.Common.{◌≡◌, Option, Some, None, Result, Ok, Err, IfSome}
use Rattle.odb_testing.specs.Readings.{IsReading, IsSame}

module _ {X F Y : Type 0} (shown : X → Y) (P : Y → Type 0) (Q : F → Type 0) where
  abbrev pub Finds : Result X F → Type 0
  Finds found = IsReading (λ x. P (shown x)) Q found

  pub one_or_none : ((x y : Y) → P x → P y → x ≡ y) → ((f g : F) → Q f → Q g → f ≡ g) → ((x : Y) (f : F) → P x → ¬ Q f)
      → (a b : Option (Result X F)) → IfSome a Finds → IfSome b Finds → IfSome a (λ one. IfSome b (IsSame shown one))
  one_or_none value fault none None b _ _ = tt
  one_or_none value fault none (Some a) None _ _ = tt
  one_or_none value fault none (Some (Ok x)) (Some (Ok y)) p q = record { values = value (shown x) (shown y) p.0 q.0; faults = tt; alike = λ is. is }
  one_or_none value fault none (Some (Ok x)) (Some (Err g)) p q = absurd (none (shown x) g p.0 q.1)
  one_or_none value fault none (Some (Err f)) (Some (Ok y)) p q = absurd (none (shown y) f q.0 p.1)
  one_or_none value fault none (Some (Err f)) (Some (Err g)) p q = record { values = tt; faults = fault f g p.1 q.1; alike = λ no. no }
