-- The front of a URL: what its first segment means in a batch (OData JSON Format 4.01, section 19.1, `url`).
use Rattle.std.specs.Prelude.{◌≡◌, ◌≢◌, ◌⊎◌, ℕ, Bool, List, [], ◌∷◌, IsTrue, codes, string_bytes, bytes_eq}
use Rattle.std.specs.List.{list_any}
use Rattle.percent_encoding.specs.Percent.{percent_decode}
use Rattle.odb_names.specs.declared.segment.Front.{Front}
use Rattle.odb_names.specs.declared.segment.Front.TheVariants as fronts
use Rattle.odb_names.specs.Identifiers.{is_unreserved}
use Rattle.odb_names.specs.Runs.{SplitsRun}
use Rattle.odb_names.specs.Segments.{IsFirstSegment}

-- what a front means
pub data FrontForm : Type 0 where
  plain : FrontForm
  reserved : FrontForm
  reference : List ℕ → FrontForm
  bad : FrontForm

-- a front with its identifier as bytes, wherever they are in memory
abbrev pub form : Front → FrontForm
form fronts.Plain = plain
form fronts.Reserved = reserved
form (fronts.Reference id) = reference (string_bytes id)
form fronts.Bad = bad

-- `$`
abbrev pub dollar : ℕ
dollar = 36

-- The names after a `$` that OData reserves. By the rules `odataRelativeUri` and
-- `resourcePath` of the OData ABNF 4.01 a URL begins with `$batch`, `$entity`, `$metadata`, `$all` or
-- `$crossjoin(`; `$root` begins an expression (rule `rootExpr`), and `$id` is an option of `$entity`
-- (rule `entityOptions`). That none of them is a reference, though a request may have such an
-- identifier, is a choice of this profile.
abbrev pub reserved_names : List (List ℕ)
reserved_names =
    codes "batch" ∷ codes "crossjoin" ∷ codes "all" ∷ codes "entity" ∷ codes "root" ∷ codes "id" ∷ codes "metadata" ∷ []

-- the test of these names
abbrev pub is_reserved : List ℕ → Bool
is_reserved name = list_any (λ reserved_name. bytes_eq name reserved_name) reserved_names

-- the name is one of them
abbrev pub IsReserved : List ℕ → Type 0
IsReserved name = IsTrue (is_reserved name)

-- the segment is `$`, then the longest run of unreserved characters, and then the rest
pub record Refers (segment run rest : List ℕ) : Type 0 where
  pub after : List ℕ
  pub begins : segment ≡ dollar ∷ after
  pub splits : SplitsRun is_unreserved after run rest

-- the front of a URL by its first segment, percent-decoded
abbrev pub IsFrontOf : List ℕ → FrontForm → Type 0
IsFrontOf segment plain = (after : List ℕ) → segment ≢ dollar ∷ after
IsFrontOf segment reserved = (run rest : List ℕ) × Refers segment run rest × IsReserved run
IsFrontOf segment (reference run) = Refers segment run [] × (run ≢ []) × ¬ IsReserved run
IsFrontOf segment bad =
    (run rest : List ℕ) × Refers segment run rest × ¬ IsReserved run × ((run ≡ []) ⊎ (rest ≢ []))

-- the front of a URL is that of its first segment, percent-decoded
pub record HasFront (url : List ℕ) (front : FrontForm) : Type 0 where
  pub segment : List ℕ
  pub first : IsFirstSegment url segment
  pub decoded : IsFrontOf (percent_decode segment) front
