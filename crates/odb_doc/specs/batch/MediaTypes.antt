-- The media type in a `content-type`, and the bodies that it allows (OData JSON Format 4.01, section 19.1, `body`; RFC
-- 9110, section 8.3.1; RFC 6839, section 3.1).
use Rattle.std.specs.Prelude.{◌≡◌, ◌⊎◌, ◌==◌, ◌||◌, ℕ, Bool, not, false, List, [], ◌∷◌, ◌++◌, codes, IsSome, IsSomeAnd}
use Rattle.std.specs.List.{AllPass}
use Rattle.std.specs.Str.{str_to_ascii_lowercase}
use Rattle.serde_json.specs.Data.{Data}
use Rattle.serde_json.specs.Find.{as_str}
use Rattle.odb_names.specs.Base64Url.{IsBase64Url}
use Rattle.odb_names.specs.Runs.{SplitsRun}

-- no `;`, with which the parameters begin
abbrev pub is_in_type : ℕ → Bool
is_in_type byte = not (byte == 59)

-- a space or a tab
abbrev pub is_blank : ℕ → Bool
is_blank byte = (byte == 32) || (byte == 9)

-- the text is the name and then blanks, and the name does not end with one
pub record IsEndOf (text name : List ℕ) : Type 0 where
  pub after : List ℕ
  pub whole : text ≡ name ++ after
  pub blanks : AllPass is_blank after
  pub ends : (more : List ℕ) (last : ℕ) → name ≡ more ++ last ∷ [] → is_blank last ≡ false

-- the name is the text without the blanks at its ends
pub record IsTrimmed (text name : List ℕ) : Type 0 where
  pub before : List ℕ
  pub rest : List ℕ
  pub leading : SplitsRun is_blank text before rest
  pub trailing : IsEndOf rest name

-- the value has this media type, which ends before the first `;`
pub record HasType (value name : List ℕ) : Type 0 where
  pub text : List ℕ
  pub parameters : List ℕ
  pub splits : SplitsRun is_in_type value text parameters
  pub trimmed : IsTrimmed text name

-- no media type, `application/json`, or one with the suffix `+json`
abbrev pub IsJsonType : List ℕ → Type 0
IsJsonType name = (name ≡ []) ⊎ (name ≡ codes "application/json") ⊎ ((prefix : List ℕ) × (name ≡ prefix ++ codes "+json"))

-- a type of `text`
abbrev pub IsTextType : List ℕ → Type 0
IsTextType name = (subtype : List ℕ) × (name ≡ codes "text/" ++ subtype)

-- The bodies that a media type in lower case allows: any value for JSON, also for JSON below `text`, a string for other
-- text, and base64url for all else.
pub record TypeAllows (name : List ℕ) (body : Data) : Type 0 where
  pub text : ¬ IsJsonType name → IsTextType name → IsSome (as_str body)
  pub other : ¬ IsJsonType name → ¬ IsTextType name → IsSomeAnd (as_str body) IsBase64Url

-- the body is one that the media type in the value allows, in any case of its letters
pub record AllowsBody (value : List ℕ) (body : Data) : Type 0 where
  pub name : List ℕ
  pub has : HasType value name
  pub allows : TypeAllows (str_to_ascii_lowercase name) body
