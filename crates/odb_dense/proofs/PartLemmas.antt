-- The parts of a list, once more was added to the list.
use Rattle.std.proofs.Common.{◌≡◌, ◌≤◌, ◌-◌, ◌∙◌, ℕ, suc, zero, List, [], ◌∷◌, ◌++◌, refl, ap, arith, length, take, drop, length-append, length-drop}
use Rattle.std.proofs.Math.Seq.{drop-append_seam}
use Rattle.std.proofs.lemmas.List.{map-append, take_all, take-append-le, drop-append-le}
use Rattle.odb_dense.specs.Parts.{part_of, rows_of, IsPart, HasParts}

module _ {T : Type 0} where
  -- a part of a list stays as it is
  part_stays : (list row : List T) (part : ℕ × ℕ) → IsPart (length list) part → part_of (list ++ row) part ≡ part_of list part
  part_stays list row part is =
      ap (take (part.1 - part.0)) (drop-append-le part.0 list row (omega (arith, is.0, is.1)))
      ∙ take-append-le (part.1 - part.0) (drop part.0 list) row (omega (arith, is.0, is.1, length-drop part.0 list))

  pub parts_stay : (list row : List T) (parts : List (ℕ × ℕ)) → HasParts list parts → rows_of (list ++ row) parts ≡ rows_of list parts
  parts_stay list row [] are = refl
  parts_stay list row (part ∷ parts) are =
      let first : part_of (list ++ row) part ≡ part_of list part = part_stays list row part (are zero part (omega arith)) in
      let rest : rows_of (list ++ row) parts ≡ rows_of list parts = parts_stay list row parts (λ k d less. are (suc k) d (omega arith)) in
      cc

  -- what was added is a part too
  pub rows_more : (list row : List T) (parts : List (ℕ × ℕ)) (from to : ℕ) → HasParts list parts → from ≡ length list → to ≡ length (list ++ row)
      → rows_of (list ++ row) (parts ++ (from, to) ∷ []) ≡ rows_of list parts ++ row ∷ []
  rows_more list row parts from to are begins ends =
      let all : length row ≤ to - from = omega (arith, length-append list row) in
      let last : part_of (list ++ row) (from, to) ≡ row = ap (λ n. take (to - from) (drop n (list ++ row))) begins ∙ ap (take (to - from)) (drop-append_seam list row) ∙ take_all (to - from) row all in
      map-append (part_of (list ++ row)) parts ((from, to) ∷ []) ∙ ap (λ xs. xs ++ part_of (list ++ row) (from, to) ∷ []) (parts_stay list row parts are) ∙ ap (λ xs. rows_of list parts ++ xs ∷ []) last
