-- Texts as lists of bytes: a text is cut before its first byte that fails a test, and a path at each `/` (RFC 3986, section 3.3).
use Rattle.std.specs.Prelude.{ℕ, ◌+◌, ◌==◌, Bool, false, cond, List, [], ◌∷◌, nat_lt}
use Rattle.std.specs.List.{slice_split}

-- the longest prefix whose bytes pass the test
abbrev pub run : (ℕ → Bool) → List ℕ → List ℕ
run test [] = []
run test (first ∷ more) = cond (test first) (first ∷ run test more) []

-- the text after it
abbrev pub rest : (ℕ → Bool) → List ℕ → List ℕ
rest test [] = []
rest test (first ∷ more) = cond (test first) (rest test more) (first ∷ more)

-- the text begins with a byte that passes the test
abbrev pub begins : (ℕ → Bool) → List ℕ → Bool
begins test [] = false
begins test (first ∷ more) = test first

abbrev pub slash : ℕ
slash = 47

abbrev pub is_slash : ℕ → Bool
is_slash byte = byte == slash

-- what is between the slashes of a path, before the first one and after the last
abbrev pub segments : List ℕ → List (List ℕ)
segments path = slice_split is_slash path

-- how many bytes a path has up to its last slash, with this slash; 0 without one
abbrev pub folder_len : List ℕ → ℕ
folder_len [] = 0
folder_len (first ∷ more) = cond (nat_lt 0 (folder_len more)) (folder_len more + 1) (cond (is_slash first) 1 0)
