-- What a law says of two calls: two readings of one thing, and two texts of one document.
use Rattle.std.proofs.Common.{◌≡◌, ℕ, List, Option, Some, None, Result, Ok, Err, IfSome}
use Rattle.odb_testing.specs.Readings.{IsReading, IsSame}

module _ {X F Y D : Type 0} (shown : X → Y) (Good : D → Type 0) (ReadsAs : D → Y → Type 0) (Num : F → Type 0) (Refuses : F → D → Type 0) where
  -- how a call reads the thing
  abbrev pub Reads : D → Result X F → Type 0
  Reads d = IsReading (λ x. Good d × ReadsAs d (shown x)) (λ f. Num f × Refuses f d)

  pub one_reading : ((d : D) (x y : Y) → ReadsAs d x → ReadsAs d y → x ≡ y) → ((d : D) (f g : F) → Num f → Num g → Refuses f d → Refuses g d → f ≡ g)
      → ((d : D) (f : F) → Num f → Refuses f d → ¬ Good d) → (d : D) (a b : Option (Result X F))
      → IfSome a (Reads d) → IfSome b (Reads d) → IfSome a (λ one. IfSome b (IsSame shown one))
  one_reading same one none d None b _ _ = tt
  one_reading same one none d (Some a) None _ _ = tt
  one_reading same one none d (Some (Ok x)) (Some (Ok y)) p q = record { values = same d (shown x) (shown y) p.0.1 q.0.1; faults = tt; alike = λ is. is }
  one_reading same one none d (Some (Ok x)) (Some (Err g)) p q = absurd (none d g q.1.0 q.1.1 p.0.0)
  one_reading same one none d (Some (Err f)) (Some (Ok y)) p q = absurd (none d f p.1.0 p.1.1 q.0.0)
  one_reading same one none d (Some (Err f)) (Some (Err g)) p q = record { values = tt; faults = one d f g p.1.0 q.1.0 p.1.1 q.1.1; alike = λ no. no }

-- two calls that find such a thing, of which there is one
pub one_found : {X Y : Type 0} (shown : X → Y) (P : Y → Type 0) → ((x y : Y) → P x → P y → x ≡ y) → (a b : Option X) → IfSome a (λ x. P (shown x)) → IfSome b (λ x. P (shown x))
    → IfSome a (λ x. IfSome b (λ y. shown x ≡ shown y))
one_found shown P one None b _ _ = tt
one_found shown P one (Some x) None _ _ = tt
one_found shown P one (Some x) (Some y) p q = one (shown x) (shown y) p q

-- the property that does not depend on the value, said twice
pub with_good : {X F : Type 0} (A : Type 0) (B : X → Type 0) (Q : F → Type 0) (a : Option (Result X F)) → IfSome a (IsReading (λ x. A × B x) Q) → IfSome a (IsReading (λ x. A × (A × B x)) Q)
with_good A B Q None _ = tt
with_good A B Q (Some (Ok x)) p = ((p.0.0, (p.0.0, p.0.1)), tt)
with_good A B Q (Some (Err f)) p = (tt, p.1)

-- two calls that may each write such a text, of which there is one, have written one, and ended alike
pub one_of : {X E : Type 0} (ended : X → E) (text : X → List ℕ) (W : E → List ℕ → Type 0) → ((e f : E) (one other : List ℕ) → W e one → W f other → (e ≡ f) × (one ≡ other)) → (a b : Option X)
    → IfSome a (λ x. W (ended x) (text x)) → IfSome b (λ y. W (ended y) (text y)) → IfSome a (λ x. IfSome b (λ y. (ended x ≡ ended y) × (text x ≡ text y)))
one_of ended text W one None b _ _ = tt
one_of ended text W one (Some x) None _ _ = tt
one_of ended text W one (Some x) (Some y) is too = one (ended x) (ended y) (text x) (text y) is too

-- what holds of each two such things holds of what two calls find
pub both_found : {X : Type 0} (P : X → Type 0) (R : X → X → Type 0) → ((x y : X) → P x → P y → R x y) → (a b : Option X) → IfSome a P → IfSome b P → IfSome a (λ x. IfSome b (R x))
both_found P R so None b _ _ = tt
both_found P R so (Some x) None _ _ = tt
both_found P R so (Some x) (Some y) p q = so x y p q
