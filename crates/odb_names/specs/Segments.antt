-- The first and the last segment of a URL (RFC 3986, sections 3.3 to 3.5), and a URL that names a batch
-- (OData JSON Format 4.01, section 19; OData ABNF 4.01, rule `odataRelativeUri`).
use Rattle.std.specs.Prelude.{◌≡◌, ◌≢◌, ◌⊎◌, ◌==◌, ◌||◌, ℕ, Bool, not, List, [], ◌∷◌, ◌++◌, codes, All}
use Rattle.percent_encoding.specs.Percent.{percent_decode, percent_sign}
use Rattle.odb_names.specs.Runs.{SplitsRun}

-- `/`
abbrev pub slash : ℕ
slash = 47

-- neither `?` nor `#`
abbrev pub is_in_path : ℕ → Bool
is_in_path byte = not ((byte == 63) || (byte == 35))

-- none of `/`, `?` and `#`
abbrev pub is_in_segment : ℕ → Bool
is_in_segment byte = not ((byte == slash) || (byte == 63) || (byte == 35))

-- no `/`
abbrev pub HasNoSlash : List ℕ → Type 0
HasNoSlash text = All (λ byte. byte ≢ slash) text

-- no `%`: decoding does not change such a text
abbrev pub HasNoEscape : List ℕ → Type 0
HasNoEscape text = All (λ byte. byte ≢ percent_sign) text

-- nothing, or a text that ends with `/`
abbrev pub EndsSegment : List ℕ → Type 0
EndsSegment before = (before ≡ []) ⊎ ((more : List ℕ) × (before ≡ more ++ slash ∷ []))

-- the first segment is the part before the first `/`, `?` or `#`
pub record IsFirstSegment (url segment : List ℕ) : Type 0 where
  pub rest : List ℕ
  pub splits : SplitsRun is_in_segment url segment rest

-- the part after the first segment
pub record IsAfterFirstSegment (url rest : List ℕ) : Type 0 where
  pub segment : List ℕ
  pub splits : SplitsRun is_in_segment url segment rest

-- the last segment is the part after the last `/` of the path, which ends before the first `?` or `#`
pub record IsLastSegment (url segment : List ℕ) : Type 0 where
  pub before : List ℕ
  pub rest : List ℕ
  pub path : SplitsRun is_in_path url (before ++ segment) rest
  pub starts : EndsSegment before
  pub inside : HasNoSlash segment

-- the last segment, percent-decoded, is `$batch`
pub record IsNestedBatch (url : List ℕ) : Type 0 where
  pub segment : List ℕ
  pub last : IsLastSegment url segment
  pub named : percent_decode segment ≡ codes "$batch"
