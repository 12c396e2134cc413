-- The kinds of bodies that the code distinguishes: for private clauses, nothing to believe.
use Rattle.std.specs.Prelude.{ℕ, List, IsSome, IsSomeAnd}
use Rattle.std.specs.Str.{str_to_ascii_lowercase}
use Rattle.serde_json.specs.Data.{Data}
use Rattle.serde_json.specs.Find.{as_str}
use Rattle.odb_names.specs.Base64Url.{IsBase64Url}
use Rattle.odb_doc.specs.declared.batch.media_type.BodyKind.{BodyKind}
use Rattle.odb_doc.specs.declared.batch.media_type.BodyKind.TheVariants.{Any, Text, Base64Url}
use Rattle.odb_doc.specs.batch.MediaTypes.{HasType, IsJsonType, IsTextType}

-- the kind that a media type in lower case asks for
abbrev pub AsksFor : List ℕ → BodyKind → Type 0
AsksFor name Any = IsJsonType name
AsksFor name Text = IsTextType name × ¬ IsJsonType name
AsksFor name Base64Url = ¬ IsTextType name × ¬ IsJsonType name

-- the kind that the media type in the value asks for
pub record HasKind (value : List ℕ) (kind : BodyKind) : Type 0 where
  pub name : List ℕ
  pub has : HasType value name
  pub asks : AsksFor (str_to_ascii_lowercase name) kind

-- the value is a body of this kind
abbrev pub IsOfKind : BodyKind → Data → Type 0
IsOfKind Any d = Unit {0}
IsOfKind Text d = IsSome (as_str d)
IsOfKind Base64Url d = IsSomeAnd (as_str d) IsBase64Url
