-- The slashes at the end of a path.
use Rattle.std.proofs.Common.{◌≡◌, ◌+◌, ℕ, Bool, true, false, cond, ◌&&◌, List, [], ◌∷◌, ◌++◌, length, get_or, take, refl, sym, ap, ◌∙◌, arith}
use Rattle.std.proofs.lemmas.Bool.{ne_eqb}
use Rattle.std.proofs.lemmas.List.{take_more, take_all}
use Rattle.odb_resolve.specs.Texts.{slash, is_slash}
use Rattle.odb_resolve.specs.Joins.{is_empty, trimmed}

-- a slash at the end does not count
trimmed_slash : (path : List ℕ) → trimmed (path ++ slash ∷ []) ≡ trimmed path
trimmed_slash [] = refl
trimmed_slash (x ∷ more) = rw (trimmed_slash more) refl

not_empty : (path : List ℕ) (last : ℕ) → is_empty (path ++ last ∷ []) ≡ false
not_empty [] last = refl
not_empty (x ∷ more) last = ne_eqb (length (x ∷ (more ++ last ∷ []))) 0 (λ none. omega arith)

and_no : (test : Bool) (x y : List ℕ) → cond (test && false) x y ≡ y
and_no true x y = refl
and_no false x y = refl

-- a path that does not end with a slash stays
trimmed_kept : (path : List ℕ) (last : ℕ) → is_slash last ≡ false → trimmed (path ++ last ∷ []) ≡ path ++ last ∷ []
trimmed_kept [] last other = rw other refl
trimmed_kept (x ∷ more) last other =
    let tail = trimmed_kept more last other in
    let some = not_empty more last in
    rw (tail, some) (and_no (is_slash x) _ _)

-- the path and its last byte
parted : (path : List ℕ) (n d : ℕ) → n + 1 ≡ length path → path ≡ take n path ++ get_or path n d ∷ []
parted path n d last = sym (take_all (n + 1) path (omega arith)) ∙ take_more path n d (omega arith)

pub trimmed_more : (path : List ℕ) (n d : ℕ) → n + 1 ≡ length path → get_or path n d ≡ slash → trimmed (take n path) ≡ trimmed path
trimmed_more path n d last found =
    sym (ap trimmed (parted path n d last) ∙ ap (λ (byte : ℕ). trimmed (take n path ++ byte ∷ [])) found ∙ trimmed_slash (take n path))

pub trimmed_end : (path : List ℕ) (n d : ℕ) → n + 1 ≡ length path → is_slash (get_or path n d) ≡ false → trimmed path ≡ path
trimmed_end path n d last other =
    let whole = parted path n d last in
    ap trimmed whole ∙ trimmed_kept (take n path) (get_or path n d) other ∙ sym whole
