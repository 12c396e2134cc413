use Rattle.std.proofs.Common.{◌≡◌, Bool, true, false, not, List, ℕ, Option, None, Some, map, bytes_eq, refl, subst, sym}
use Rattle.std.specs.Prelude.{IfNone, IfSome, is_some}
use Rattle.std.specs.Bool.{Decides}
use Rattle.std.specs.List.{IsDistinct}
use Rattle.std.specs.Map.{keys_of}
use Rattle.std.proofs.lemmas.Bool.{false≢true}
use Rattle.odb_doc.specs.Headers.{lent_header}
use Rattle.odb_doc.proofs.LentLemmas.{apart-from_order}
use Rattle.odb_doc.proofs.batch.headers.has_name_twice.Goals as goal

none_Decides : {X : Type 0} (o : Option X) (none : Bool) (P : Type 0) (Q : X → Type 0) → is_some o ≡ not none → IfNone o (¬ P) → IfSome o Q → ((x : X) → Q x → P) → Decides none (¬ P)
none_Decides None true P Q is broken holds fits = (λ e. broken, λ h. refl)
none_Decides None false P Q is broken holds fits = absurd (false≢true is)
none_Decides (Some x) true P Q is broken holds fits = absurd (false≢true (sym is))
none_Decides (Some x) false P Q is broken holds fits = (λ e. absurd (false≢true e), λ h. absurd (h (fits x holds)))

pub returns : goal.returns
returns c =
    let items = c.in_ok-names_of.field-0.items in
    subst (λ (names : List (List ℕ)). Decides c.is_none.result (¬ IsDistinct bytes_eq names)) c.in_ok-names_of.ensures
    (none_Decides c.in_order.result c.is_none.result (IsDistinct bytes_eq (keys_of (map lent_header items))) _ c.is_none.ensures c.in_order.ensures.twice c.in_order.ensures.sorted
    (λ sorted is. apart-from_order items sorted.entries.items is.0 is.1))
