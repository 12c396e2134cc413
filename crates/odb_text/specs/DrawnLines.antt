-- The lines of a text, and which of a drawing draw what: that is told by the first byte that is neither a blank nor a digit.
use Rattle.std.specs.Prelude.{ℕ, ◌||◌, ◌&&◌, ◌==◌, List, [], ◌∷◌, Option, None, Some, if◌then◌else◌, nat_lt}
use Rattle.std.specs.List.{filter}
use Rattle.odb_doc.specs.batch.Records.{Record}
use Rattle.odb_text.specs.Drawings.{cluster_line, node_line}

-- a byte before the lines of what follows it
abbrev pub before_lines : ℕ → List (List ℕ) → List (List ℕ)
before_lines x [] = (x ∷ []) ∷ []
before_lines x (line ∷ lines) = (x ∷ line) ∷ lines

-- the lines of a text, each with the newline that ends it
abbrev pub lines_of : List ℕ → List (List ℕ)
lines_of [] = []
lines_of (x ∷ text) = if x == 10 then (10 ∷ []) ∷ lines_of text else before_lines x (lines_of text)

-- the first byte of a line that is neither a digit nor a blank
abbrev pub mark_of : List ℕ → ℕ
mark_of [] = 0
mark_of (x ∷ line) = if (nat_lt 47 x && nat_lt x 58) || x == 32 then mark_of line else x

-- the lines of a text with this mark
abbrev pub marked : ℕ → List ℕ → List (List ℕ)
marked mark text = filter (λ line. mark_of line == mark) (lines_of text)

-- the line of the node of the request at a position
abbrev pub nodes_of : ℕ → Option Record → List (List ℕ)
nodes_of i None = []
nodes_of i (Some request) = node_line i request ∷ []

-- the line of the cluster of a request, if it has a group
abbrev pub clusters_of : ℕ → ℕ → Option (List ℕ) → List (List ℕ)
clusters_of u i None = []
clusters_of u i (Some group) = cluster_line u i (Some group) ∷ []
