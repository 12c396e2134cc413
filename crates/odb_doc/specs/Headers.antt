-- The headers of a request or of an outcome (OData JSON Format 4.01, sections 19.1 and 19.5, `headers`; RFC
-- 9110, section 5).
use Rattle.std.specs.Prelude.{◌≡◌, ℕ, List, [], ◌∷◌, map, Option, Some, None, IsSome, option_and_then, option_map, unwrap_or, codes, bytes_eq, string_bytes, String}
use Rattle.std.specs.declared.alloc.Global.{Global}
use Rattle.std.specs.BTreeMap.{BTreeMap}
use Rattle.std.specs.Cmp.Lexicographic.{slice_cmp}
use Rattle.std.specs.List.{IsDistinct}
use Rattle.std.specs.List.Sorted.{IsPermutation, IsStrictlySortedBy}
use Rattle.std.specs.Map.{keys_of}
use Rattle.std.specs.Ordering.{nat_cmp}
use Rattle.std.specs.Str.{str_to_ascii_lowercase}
use Rattle.serde_json.specs.Data.{Data, null, Members, no_members, member}
use Rattle.serde_json.specs.Find.{get, as_str, as_object}
use Rattle.odb_doc.specs.declared.batch.folded.Header.{Header as Lent}
use Rattle.odb_doc.specs.declared.batch.folded.Headers.{Headers as LentHeaders}
use Rattle.odb_doc.specs.Members.{names_in, given}

-- a name and a value
abbrev pub Header : Type 0
Header = List ℕ × List ℕ

-- with the name in lower case, since field names have no case
abbrev pub folded : Header → Header
folded header = (str_to_ascii_lowercase header.0, header.1)

-- the members of an object whose values are all strings
abbrev pub text_members : Members → Option (List Header)
text_members no_members = Some []
text_members (member name d ms) =
    option_and_then (λ text. option_map (λ headers. (name, text) ∷ headers) (text_members ms)) (as_str d)

-- the members of the value, if there is one: names and texts
abbrev pub text_members_in : Option Data → Option (List Header)
text_members_in None = Some []
text_members_in (Some d) = option_and_then text_members (as_object d)

-- the members of the value at `headers`, which is treated as absent if it is null
abbrev pub listed_in : Option Data → Option (List Header)
listed_in o = text_members_in (given o)

abbrev pub listed_headers : Data → Option (List Header)
listed_headers d = listed_in (get (codes "headers") d)

-- the names of the members of the value in lower case, whatever their values are
abbrev pub folded_names : Option Data → List (List ℕ)
folded_names o = map str_to_ascii_lowercase (names_in (unwrap_or o null))

abbrev pub header_names : Data → List (List ℕ)
header_names d = folded_names (get (codes "headers") d)

-- absent, null, or an object of strings of which no two have one name in lower case
pub record IsHeaders (o : Option Data) : Type 0 where
  pub texts : IsSome (listed_in o)
  pub apart : IsDistinct bytes_eq (folded_names o)

-- in byte order of the names, each name once
abbrev pub IsInOrder : List Header → Type 0
IsInOrder headers = IsStrictlySortedBy (slice_cmp nat_cmp) (keys_of headers)

-- the members of the value with their names in lower case, each name once, in byte order of the names
pub record HoldsHeaders (o : Option Data) (headers : List Header) : Type 0 where
  pub listed : List Header
  pub are : listed_in o ≡ Some listed
  pub same : IsPermutation (map folded listed) headers
  pub ordered : IsInOrder headers

-- the member `headers` holds these headers
abbrev pub HasHeaders : Data → List Header → Type 0
HasHeaders d headers = HoldsHeaders (get (codes "headers") d) headers

-- the headers that a map holds, in its order
abbrev pub header_of : String Global × String Global → Header
header_of entry = (string_bytes entry.0, string_bytes entry.1)

abbrev pub headers_in : BTreeMap (String Global) (String Global) → List Header
headers_in m = map header_of m.entries

-- a header as a request has it, and all of them in order
abbrev pub lent_header : Lent → Header
lent_header header = (str_to_ascii_lowercase header.written.now, header.value.now)

abbrev pub lent_headers : LentHeaders → List Header
lent_headers headers = map lent_header headers.entries.items
