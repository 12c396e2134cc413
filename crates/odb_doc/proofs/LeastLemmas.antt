-- The first broken rule of a list, while its elements are read one by one.
use Rattle.std.proofs.Common.{◌≡◌, ◌∙◌, inl, inr, ◌<◌, ◌≤◌, ℕ, List, [], ◌∷◌, ◌++◌, length, take, slice_get, Option, Some, IsSomeAnd, ap, sym, subst, arith}
use Rattle.std.specs.List.{AllZip}
use Rattle.std.proofs.lemmas.Bool.{cases_order}
use Rattle.std.proofs.lemmas.List.{length-append, take-append-le, get_or_append_left}
use Rattle.std.proofs.lemmas.Option.{slice_get-get_or, slice_get_past}
use Rattle.std.proofs.lemmas.Slice.Zip.{all_zipped_more, AllZip-long}
use Rattle.std.proofs.Math.Seq.{take-append_seam}
use Rattle.odb_doc.specs.declared.broken.Broken.{Broken}
use Rattle.odb_doc.specs.declared.broken.Broken.TheVariants as broken
use Rattle.odb_doc.specs.BrokenRules.{OnRule, OnPlace, broken_at}
use Rattle.odb_doc.specs.LeastRules.{IsLeast, BreaksAt, NoneBroken, IsFirst}
use Rattle.odb_doc.proofs.ElementLemmas.{slice_get-seam}

-- ---- positions of a list, and of a prefix of it

slice_get-front : {X : Type 0} (xs rest : List X) (d : X) (i : ℕ) → i < length xs → slice_get (xs ++ rest) i ≡ slice_get xs i
slice_get-front xs rest d i within =
    let longer : i < length (xs ++ rest) = omega (arith, length-append xs rest) in
    slice_get-get_or (xs ++ rest) i d longer ∙ ap Some (get_or_append_left xs rest d i within) ∙ sym (slice_get-get_or xs i d within)

module _ {R X : Type 0} (number : R → ℕ) (Breaks : R → List X → X → Type 0) where
  -- what is broken depends on the element and on those before it alone
  BreaksAt-front : (rule : R) (xs : List X) (x : X) (rest : List X) (i : ℕ) → i < length xs → BreaksAt Breaks (xs ++ x ∷ rest) rule i → BreaksAt Breaks xs rule i
  BreaksAt-front rule xs x rest i within broken =
      let front : take i (xs ++ x ∷ rest) ≡ take i xs = take-append-le i xs (x ∷ rest) (omega arith) in
      let there = subst (λ (o : Option X). IsSomeAnd o (Breaks rule (take i (xs ++ x ∷ rest)))) (slice_get-front xs (x ∷ rest) x i within) broken in
      subst (λ (before : List X). IsSomeAnd (slice_get xs i) (Breaks rule before)) front there

  BreaksAt-here : (rule : R) (xs : List X) (x : X) (rest : List X) → BreaksAt Breaks (xs ++ x ∷ rest) rule (length xs) → Breaks rule xs x
  BreaksAt-here rule xs x rest broken =
      let there = subst (λ (o : Option X). IsSomeAnd o (Breaks rule (take (length xs) (xs ++ x ∷ rest)))) (slice_get-seam xs x rest) broken in
      subst (λ (before : List X). Breaks rule before x) (take-append_seam xs (x ∷ rest)) there

  BreaksAt-from : (rule : R) (xs : List X) (x : X) (rest : List X) → Breaks rule xs x → BreaksAt Breaks (xs ++ x ∷ rest) rule (length xs)
  BreaksAt-from rule xs x rest broken =
      let there = subst (λ (before : List X). Breaks rule before x) (sym (take-append_seam xs (x ∷ rest))) broken in
      subst (λ (o : Option X). IsSomeAnd o (Breaks rule (take (length xs) (xs ++ x ∷ rest)))) (sym (slice_get-seam xs x rest)) there

  BreaksAt-past : (rule : R) (xs : List X) (i : ℕ) → length xs ≤ i → ¬ BreaksAt Breaks xs rule i
  BreaksAt-past rule xs i past broken = subst (λ (o : Option X). IsSomeAnd o (Breaks rule (take i xs))) (slice_get_past xs i past) broken

  -- ---- while the list is read

  sound_none : NoneBroken (BreaksAt Breaks [])
  sound_none = λ rule i. BreaksAt-past rule [] i (omega arith)

  sound_push : (xs : List X) (x : X) → NoneBroken (BreaksAt Breaks xs) → ((rule : R) → ¬ Breaks rule xs x) → NoneBroken (BreaksAt Breaks (xs ++ x ∷ []))
  sound_push xs x before here rule i =
      elim (cases_order i (length xs)) [
        | inl is ↦ λ broken. here rule (BreaksAt-here rule xs x [] (subst (BreaksAt Breaks (xs ++ x ∷ []) rule) is broken))
        | inr other ↦ elim other [
          | inl within ↦ λ broken. before rule i (BreaksAt-front rule xs x [] i within broken)
          | inr past ↦ BreaksAt-past rule (xs ++ x ∷ []) i (omega (arith, length-append xs (x ∷ [])))
        ]
      ]

  -- the first broken rule of an element is that of the list if the elements before it break none
  first_from : (xs : List X) (x : X) (rest : List X) (rule : R) → NoneBroken (BreaksAt Breaks xs) → IsLeast number (λ other. Breaks other xs x) rule
      → IsFirst number (BreaksAt Breaks (xs ++ x ∷ rest)) (length xs) rule
  first_from xs x rest rule sound first = record {
    here = record {
      broken = BreaksAt-from rule xs x rest first.broken;
      least = λ other less broken. first.least other less (BreaksAt-here other xs x rest broken);
    };
    before = λ other i less broken. sound other i (BreaksAt-front other xs x rest i less broken);
  }

-- the elements break no rule and read as these
pub record AreRead {R X Y : Type 0} (Breaks : R → List X → X → Type 0) (ReadsAs : X → Y → Type 0) (xs : List X) (ys : List Y) : Type 0 where
  pub unbroken : NoneBroken (BreaksAt Breaks xs)
  pub says : AllZip ReadsAs xs ys

module _ {R X Y : Type 0} (number : R → ℕ) (Breaks : R → List X → X → Type 0) (ReadsAs : X → Y → Type 0) where
  pub AreRead-none : AreRead Breaks ReadsAs [] []
  AreRead-none = record { unbroken = sound_none number Breaks; says = tt }

  -- one element more
  pub AreRead-more : (xs : List X) (ys : List Y) (x : X) (y : Y) → AreRead Breaks ReadsAs xs ys → ((rule : R) → ¬ Breaks rule xs x) → ReadsAs x y → AreRead Breaks ReadsAs (xs ++ x ∷ []) (ys ++ y ∷ [])
  AreRead-more xs ys x y read sound says = record {
    unbroken = sound_push number Breaks xs x read.unbroken sound;
    says = all_zipped_more ReadsAs xs ys x y read.says says;
  }

  -- the rule that the next element breaks is the first of the list
  pub first_broken : (xs : List X) (ys : List Y) (x : X) (rest : List X) (at : ℕ) (why : Broken R) → AreRead Breaks ReadsAs xs ys → at ≡ length ys → OnRule (IsLeast number (λ other. Breaks other xs x)) why
      → OnPlace (IsFirst number (BreaksAt Breaks (xs ++ x ∷ rest))) (broken_at at why)
  first_broken xs ys x rest at (broken.Rule rule) read place first =
      let here : at ≡ length xs = place ∙ AllZip-long ReadsAs xs ys read.says in
      rw here (first_from number Breaks xs x rest rule read.unbroken first)
  first_broken xs ys x rest at broken.OutOfMemory read place first = tt
