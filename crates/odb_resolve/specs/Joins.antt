-- A URL that is relative to another one (RFC 3986, section 5.2), and one that begins with a reference to a request (OData
-- JSON Format 4.01, section 19.2).
use Rattle.std.specs.Prelude.{ℕ, ◌==◌, Bool, cond, not, ◌&&◌, List, [], ◌∷◌, ◌++◌, length, take}
use Rattle.odb_resolve.specs.Texts.{begins, slash, is_slash, folder_len}
use Rattle.odb_resolve.specs.Urls.{Url, hierarchy, query_of}
use Rattle.odb_resolve.specs.Dots.{remove_dots}

abbrev pub is_empty : List ℕ → Bool
is_empty text = length text == 0

-- the path of a reference after the folder of the base's path (section 5.2.3)
abbrev pub merge : Url → List ℕ → List ℕ
merge base path =
    cond (not (is_empty base.authority) && is_empty base.path) (slash ∷ path) (take (folder_len base.path) base.path ++ path)

-- the path of a reference that has neither scheme nor authority
abbrev pub relative_path : Url → List ℕ → List ℕ
relative_path base path =
    cond (is_empty path) base.path (remove_dots (cond (begins is_slash path) path (merge base path)))

-- the query of such a reference
abbrev pub relative_query : Url → Url → List ℕ
relative_query base reference = cond (is_empty reference.path && is_empty reference.query) base.query reference.query

-- the reference names its host
abbrev pub is_elsewhere : Url → Bool
is_elsewhere reference = not (is_empty reference.scheme && is_empty reference.authority)

-- the target of a reference (section 5.2.2)
unfoldable pub join : Url → Url → Url
join base reference = record {
  scheme = cond (is_empty reference.scheme) base.scheme reference.scheme;
  authority = cond (is_elsewhere reference) reference.authority base.authority;
  path = cond (is_elsewhere reference) (remove_dots reference.path) (relative_path base reference.path);
  query = cond (is_elsewhere reference) reference.query (relative_query base reference);
}

-- the path without the slashes at its end
abbrev pub trimmed : List ℕ → List ℕ
trimmed [] = []
trimmed (first ∷ more) = cond (is_slash first && is_empty (trimmed more)) [] (first ∷ trimmed more)

-- the URL of an entity and what follows a reference to it: further segments, a query and a fragment
unfoldable pub extended : Url → List ℕ → Url
extended entity text = record {
  scheme = entity.scheme;
  authority = entity.authority;
  path = trimmed entity.path ++ hierarchy text;
  query = query_of text;
}
