-- A map of headers into which the members of an object are put one by one: for private clauses, nothing to believe.
use Rattle.std.specs.Prelude.{◌≡◌, ◌<◌, ◌+◌, ℕ, false, List, [], ◌∷◌, ◌++◌, length, slice_index_or, Some, string_bytes, String}
use Rattle.std.specs.declared.alloc.Global.{Global}
use Rattle.std.specs.declared.cmp.Ordering.{Ordering}
use Rattle.std.specs.BTreeMap.{BTreeMap}
use Rattle.std.specs.Cmp.Lexicographic.{slice_cmp}
use Rattle.std.specs.Ordering.{is_lt, nat_cmp}
use Rattle.std.specs.Str.{str_to_ascii_lowercase}
use Rattle.serde_json.specs.Data.{Data, object}
use Rattle.serde_json.specs.View.{view, members_view}
use Rattle.serde_json.specs.declared.value.Value.{Value}
use Rattle.odb_doc.specs.declared.batch.folded.Header as folded
use Rattle.odb_doc.specs.Headers.{Header, HoldsHeaders, IsHeaders, headers_in}

abbrev pub Entry : Type 0
Entry = String Global × Value

abbrev pub Headers : Type 0
Headers = BTreeMap (String Global) (String Global)

-- an object with these members has headers
abbrev pub AreHeaders : List Entry → Type 0
AreHeaders es = IsHeaders (Some (object (members_view es)))

-- the map holds the headers of an object with these members
abbrev pub HoldsMembers : List Entry → Headers → Type 0
HoldsMembers es m = HoldsHeaders (Some (object (members_view es))) (headers_in m)

-- a member of this name and value, after those that the map holds, makes it the other map
abbrev pub AddsMember : List ℕ → Data → Headers → Headers → Type 0
AddsMember name d old new =
    (es : List Entry) (e : Entry) → string_bytes e.0 ≡ name → view e.1 ≡ d → HoldsMembers es old → HoldsMembers (es ++ e ∷ []) new

-- an object has no headers if it has such a member after those that the map holds
abbrev pub RefusesMember : List ℕ → Data → Headers → Type 0
RefusesMember name d old =
    (es rest : List Entry) (e : Entry) → string_bytes e.0 ≡ name → view e.1 ≡ d → HoldsMembers es old → ¬ AreHeaders (es ++ e ∷ rest)

-- ---- headers that are lent from an object

abbrev pub Lent : Type 0
Lent = folded.Header

-- the header as it is written
abbrev pub written : Lent → Header
written header = (header.written.now, header.value.now)

-- the order of the names in lower case
abbrev pub by_name : Lent → Lent → Ordering
by_name x y = slice_cmp nat_cmp (str_to_ascii_lowercase x.written.now) (str_to_ascii_lowercase y.written.now)

-- some name does not come before the next
abbrev pub HasUnordered : List Lent → Type 0
HasUnordered hs = (k : ℕ) × (k + 1 < length hs) × ((d : Lent) → false ≡ is_lt (by_name (slice_index_or hs k d) (slice_index_or hs (k + 1) d)))
