-- What a service has answered a part.
use Rattle.std.proofs.Common.{◌≡◌, ◌<◌, ℕ, zero, suc, Bool, true, List, [], ◌∷◌, All, length, map, Option, Some, None, option_and_then, slice_get, subst, arith}
use Rattle.std.specs.List.{AllZip}
use Rattle.std.proofs.lemmas.List.Elements.{All-push}
use Rattle.serde_json.specs.Data.{Data}
use Rattle.odb_check.specs.Firsts.{list_below}
use Rattle.odb_doc.proofs.ElementLemmas.{Contains-head}
use Rattle.odb_dense.specs.Lists.{ListsOnce}
use Rattle.odb_sched.proofs.ChoiceLemmas.{listed-in}
use Rattle.odb_spans.specs.Spans.{HasMemberAt, IsWithin}
use Rattle.odb_spans.specs.declared.span.Span.{Span}
use Rattle.odb_send.specs.declared.responses.ResponseParts.{ResponseParts}

-- ---- the requests of the part

-- each has a partner
pub partner : {X Y : Type 0} (R : X → Y → Type 0) (xs : List X) (ys : List Y) (k : ℕ) (x : X) → AllZip R xs ys → slice_get xs k ≡ Some x → (y : Y) × R x y
partner R [] ys k x so here = absurd (cc here)
partner R (e ∷ xs) [] k x so here = absurd so
partner R (e ∷ xs) (y ∷ ys) zero x so here = (y, subst (λ z. R z y) (some-same e x here) so.0)
  where
    some-same : {X : Type 0} (a b : X) → ◌≡◌ {A = Option X} (Some a) (Some b) → a ≡ b
    some-same a b same = cc same
partner R (e ∷ xs) (y ∷ ys) (suc k) x so here = partner R xs ys k x so.1 here

-- what is listed passes
pub some-listed : (n : ℕ) (test : ℕ → Bool) (xs : List ℕ) → ListsOnce n test xs → 0 < length xs → (i : ℕ) × (i < n) × (test i ≡ true)
some-listed n test [] lists more = absurd (omega arith)
some-listed n test (x ∷ xs) lists more = let listed = listed-in n test (x ∷ xs) x lists (Contains-head x xs) in (x, listed.0, listed.1)

-- ---- their answers

pub all-below : {X : Type 0} (P : X → Type 0) (n : ℕ) (value : ℕ → X) → ((k : ℕ) → P (value k)) → All P (list_below n value)
all-below P zero value each = λ k d less. absurd (omega arith)
all-below P (suc n) value each = All-push P (list_below n value) (value n) (all-below P n value each) (each n)

within-one : (name document : List ℕ) (d : Data) (span : Option Span) → HasMemberAt name document d span → IsWithin (length document) span
within-one name document d None has = tt
within-one name document d (Some span) (value, is, reads) = (reads.order, reads.within)

-- the spans of a member lie in the document
pub spans-within : (name document : List ℕ) (part : ResponseParts → Option Span) (ds : List Data) (parts : List ResponseParts) (place : ℕ) → AllZip (HasMemberAt name document) ds (map part parts) → IsWithin (length document) (option_and_then part (slice_get parts place))
spans-within name document part ds [] place zip = tt
spans-within name document part [] (p ∷ parts) place zip = absurd zip
spans-within name document part (d ∷ ds) (p ∷ parts) zero zip = within-one name document d (part p) zip.0
spans-within name document part (d ∷ ds) (p ∷ parts) (suc place) zip = spans-within name document part ds parts place zip.1
