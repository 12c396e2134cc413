-- Lists of names without repeats.
use Rattle.std.specs.Prelude.{ℕ, List, [], ◌∷◌, ◌++◌, map, filter, bytes_eq, not, if◌then◌else◌}
use Rattle.std.specs.Borrow.{Bor}
use Rattle.std.specs.List.{list_any}

-- what the references point to
abbrev pub texts_in : List (Bor (List ℕ)) → List (List ℕ)
texts_in references = map (λ text. text.now) references

-- the names that are not this one
abbrev pub without : List ℕ → List (List ℕ) → List (List ℕ)
without name names = filter (λ other. not (bytes_eq other name)) names

-- each name at its first place
abbrev pub distinct : List (List ℕ) → List (List ℕ)
distinct [] = []
distinct (name ∷ names) = name ∷ without name (distinct names)

-- the names, and this one at the end unless the list has it
abbrev pub with_name : List (List ℕ) → List ℕ → List (List ℕ)
with_name names name = if list_any (bytes_eq name) names then names else names ++ name ∷ []
