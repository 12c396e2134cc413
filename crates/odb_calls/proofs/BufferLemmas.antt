-- What is made of a list, as it is written to the buffer of the caller.
use Rattle.std.proofs.Common.{◌≡◌, ◌∙◌, ◌+◌, ◌<◌, ◌≤◌, ℕ, List, [], ◌∷◌, ◌++◌, length, map, take, drop, get_or, sym, ap, arith, append_assoc}
use Rattle.std.proofs.Math.ListN.{set}
use Rattle.std.proofs.Math.Seq.{set-append_seam, take-length}
use Rattle.std.proofs.lemmas.List.{drop_more, length-map, length-take-le, map-append, take_more}
use Rattle.odb_calls.specs.Lists.{BeginsWith}

-- what is made of the items up to one is written, and the rest of the buffer is as it was
abbrev pub written : {P T : Type 0} → (P → T) → List P → List T → ℕ → List T
written made items old i = map made (take i items) ++ drop i old

-- one item more
pub written_next : {P T : Type 0} (made : P → T) (items : List P) (old : List T) (i : ℕ) (d : P) → i < length items → length items ≤ length old → set (written made items old i) i (made (get_or items i d)) ≡ written made items old (i + 1)
written_next made items old i d within room =
    let before = map made (take i items) in
    let x = made (get_or items i d) in
    let rest = drop (i + 1) old in
    let count : length before ≡ i = length-map (take i items) made ∙ length-take-le i items (omega (arith, within)) in
    let next : map made (take (i + 1) items) ≡ before ++ x ∷ [] = ap (map made) (take_more items i d within) ∙ map-append made (take i items) (get_or items i d ∷ []) in
    ap (λ xs. set (before ++ xs) i x) (drop_more old i x (omega (arith, within, room)))
    ∙ ap (λ n. set (before ++ get_or old i x ∷ rest) n x) (sym count)
    ∙ set-append_seam before (get_or old i x) rest x
    ∙ sym (append_assoc before (x ∷ []) rest)
    ∙ ap (λ xs. xs ++ rest) (sym next)

-- what is made of all items is written
pub written_all : {P T : Type 0} (made : P → T) (items : List P) (old new : List T) (i : ℕ) → i ≡ length items → length items ≤ length old → new ≡ written made items old i → BeginsWith (map made items) old new
written_all made items old new i all room is = record {
  fits = omega (arith, length-map items made, room);
  begins = is ∙ ap (written made items old) all ∙ ap (λ xs. map made xs ++ drop (length items) old) (take-length items) ∙ ap (λ n. map made items ++ drop n old) (sym (length-map items made));
}
