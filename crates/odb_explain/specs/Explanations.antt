-- Which explanation is that of a code.
use Rattle.std.specs.Prelude.{◌==◌, ◌&&◌, ℕ, Bool, List, length, map, take, get_or, bytes_eq, find, nat_lt, Option}
use Rattle.odb_explain.specs.declared.faults.TheConstants.{FAULTS}

-- the first word of the text is the code
abbrev pub has_code : List ℕ → List ℕ → Bool
has_code code text = nat_lt (length code) (length text) && bytes_eq (take (length code) text) code && (get_or text (length code) 0 == 32)

-- the first of these texts with the code
unfoldable pub with_code : List ℕ → List (List ℕ) → Option (List ℕ)
with_code code texts = find (has_code code) texts

-- the explanation of a code, if it is one of a fault or a cause
unfoldable pub explanation : List ℕ → Option (List ℕ)
explanation code = with_code code (map (λ text. text.now) FAULTS)
