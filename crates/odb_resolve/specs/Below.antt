-- What a gateway wants of each URL that is sent: it begins with a root, and stays below it.
use Rattle.std.specs.Prelude.{◌≡◌, ℕ, List, ◌++◌, IsTrue, Contains}
use Rattle.std.specs.Borrow.{Bor}
use Rattle.std.specs.List.{AllPass}
use Rattle.odb_resolve.specs.Urls.{read_url}
use Rattle.odb_resolve.specs.Safety.{is_safe}
use Rattle.odb_resolve.specs.Roots.{is_root, is_in_url}

-- The URL is a root of the list, which ends with `/` and has no user information, and what follows its path, and a query. The
-- whole path is safe, and each byte is one that a URL has, as those of a root are: so no control character, space, `\` or `#`.
pub record IsSentBelow (roots : List (Bor (List ℕ))) (url : List ℕ) : Type 0 where
  pub root : Bor (List ℕ)
  pub rest : List ℕ
  pub query : List ℕ
  pub listed : Contains roots root
  pub root_read : IsTrue (is_root root.now)
  pub whole : url ≡ root.now ++ rest ++ query
  pub safe : IsTrue (is_safe ((read_url root.now).path ++ rest))
  pub written : AllPass is_in_url (rest ++ query)
