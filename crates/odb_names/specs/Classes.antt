-- The classes of characters that runs are made of, and of those that may begin a reference, each by its test: for
-- private clauses, nothing to believe.
use Rattle.std.specs.Prelude.{◌==◌, ◌||◌, ℕ, Bool, false, List, [], ◌∷◌}
use Rattle.percent_encoding.specs.Percent.{percent_sign}
use Rattle.odb_names.specs.declared.run.Class.{Class}
use Rattle.odb_names.specs.declared.run.Class.TheVariants.{Unreserved, Base64Url, Path, Segment}
use Rattle.odb_names.specs.Base64Url.{is_base64url_digit}
use Rattle.odb_names.specs.Fronts.{dollar}
use Rattle.odb_names.specs.Identifiers.{is_unreserved}
use Rattle.odb_names.specs.Segments.{is_in_path, is_in_segment}

-- the character belongs to the class
abbrev pub is_of : Class → ℕ → Bool
is_of Unreserved = is_unreserved
is_of Base64Url = is_base64url_digit
is_of Path = is_in_path
is_of Segment = is_in_segment

-- `$` or `%`
abbrev pub is_sign : ℕ → Bool
is_sign byte = (byte == dollar) || (byte == percent_sign)

-- the text begins with one of these
abbrev pub begins_with_sign : List ℕ → Bool
begins_with_sign [] = false
begins_with_sign (byte ∷ more) = is_sign byte
