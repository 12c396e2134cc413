-- What follows, in the URL of a request, the id that it refers to (OData JSON Format 4.01, section 19.1).
use Rattle.std.specs.Prelude.{ℕ, List, [], ◌∷◌, Option, None, Some, if◌then◌else◌}
use Rattle.odb_names.specs.Segments.{is_in_segment}
use Rattle.odb_doc.specs.batch.Records.{Record}

-- the URL from its first `/`, `?` or `#` on
abbrev pub past_segment : List ℕ → List ℕ
past_segment [] = []
past_segment (byte ∷ url) = if is_in_segment byte then past_segment url else byte ∷ url

-- what follows the id that the URL refers to, which is its first segment; the whole URL if it refers to no request
abbrev pub rest_after : Option (List ℕ) → List ℕ → List ℕ
rest_after None url = url
rest_after (Some id) url = past_segment url

abbrev pub url_rest : Record → List ℕ
url_rest r = rest_after r.reference r.url
