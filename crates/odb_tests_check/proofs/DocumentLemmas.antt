-- What two readings of the bytes of one document have in common.
use Rattle.std.proofs.Common.{◌≡◌, ◌∙◌, ℕ, List, Option, Some, None, Result, IfSome, unwrap_or, ap, sym, subst}
use Rattle.serde_json.specs.Data.{Data}
use Rattle.odb_doc.specs.Documents.{IsDocument}
use Rattle.odb_testing.specs.Readings.{IsSame}
use Rattle.odb_testing.proofs.ReadingLemmas.{Reads, one_reading}
use Rattle.odb_tests_check.specs.Documents.{HasValue}

-- bytes have one value
one_value : (bytes : List ℕ) (d e : Data) → IsDocument bytes d → IsDocument bytes e → d ≡ e
one_value bytes d e first second = ap (λ o. unwrap_or o d) (sym first.1.1 ∙ second.1.1)

module _ {X F Y : Type 0} (shown : X → Y) (Good : Data → Type 0) (ReadsAs : Data → Y → Type 0) (Num : F → Type 0) (Refuses : F → Data → Type 0) where
  -- how a call reads the bytes of a document
  abbrev ReadsBytes : List ℕ → Result X F → Type 0
  ReadsBytes bytes read = HasValue bytes (λ d. Reads shown Good ReadsAs Num Refuses d read)

  pub one_reading_of_bytes : ((d : Data) (x y : Y) → ReadsAs d x → ReadsAs d y → x ≡ y) → ((d : Data) (f g : F) → Num f → Num g → Refuses f d → Refuses g d → f ≡ g)
      → ((d : Data) (f : F) → Num f → Refuses f d → ¬ Good d) → (bytes : List ℕ) (a b : Option (Result X F))
      → IfSome a (ReadsBytes bytes) → IfSome b (ReadsBytes bytes) → IfSome a (λ one. IfSome b (IsSame shown one))
  one_reading_of_bytes same one none bytes None b _ _ = tt
  one_reading_of_bytes same one none bytes (Some a) None _ _ = tt
  one_reading_of_bytes same one none bytes (Some a) (Some b) p q =
      one_reading shown Good ReadsAs Num Refuses same one none q.value (Some a) (Some b) (subst (λ d. Reads shown Good ReadsAs Num Refuses d a) (one_value bytes p.value q.value p.document q.document) p.holds) q.holds
