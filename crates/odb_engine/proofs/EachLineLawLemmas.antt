-- The answers to some lines are one.
use Rattle.std.proofs.Common.{◌≡◌, ◌⊎◌, ℕ, suc, ◌<◌, ◌≤◌, List, [], ◌++◌, length, take, refl, sym, ap, ap₂, subst, ◌∙◌, inl, inr, append-nil, arith}
use Rattle.std.proofs.lemmas.Bool.{cases_lt}
use Rattle.std.proofs.lemmas.List.{take_all, take_at}
use Rattle.odb_engine.specs.Cascade.{Writes, IsOne}
use Rattle.odb_engine.specs.Inputs.{most_read, IsDocumentOf}
use Rattle.odb_engine.specs.lines.Answers.{AnswersFrom, OfAnyLine, both}
use Rattle.odb_engine.specs.lines.Answers.AnswersFrom.{NoLine, Line}
use Rattle.odb_engine.specs.lines.Steps.{cut}

-- what is read of a line is what is held of it
pub document-cut : (line bytes : List ℕ) → IsDocumentOf line bytes → bytes ≡ cut line
document-cut line bytes is = at most_read is.within is.ends
  where
    at : (m : ℕ) → length bytes ≤ m → (length bytes < m → is.rest ≡ []) → bytes ≡ take m line
    at m within ends = from (cases_lt (length bytes) m)
      where
        from : (length bytes < m) ⊎ (m ≤ length bytes) → bytes ≡ take m line
        from (inl short) = sym (ap (take m) (is.whole ∙ ap (λ l. bytes ++ l) (ends short) ∙ append-nil bytes) ∙ take_all m bytes within)
        from (inr full) =
            let same : length bytes ≡ m = omega arith in
            sym (ap (take m) is.whole ∙ take_at bytes is.rest m same)

pub OfAnyLine-one : (P : ℕ → List ℕ → Writes) → ((number : ℕ) (bytes : List ℕ) → IsOne (P number bytes)) → (number : ℕ) (line : List ℕ) → IsOne (OfAnyLine P number line)
OfAnyLine-one P one number line ended other text different (bytes, is, so) (others, are, also) =
    let same : others ≡ bytes = document-cut line others are ∙ sym (document-cut line bytes is) in
    one number bytes ended other text different so (subst (λ b. P number b other different) same also)

pub answers-one : (P : ℕ → List ℕ → Writes) → ((number : ℕ) (line : List ℕ) → IsOne (P number line)) → (number : ℕ) (lines : List (List ℕ)) → IsOne (AnswersFrom P number lines)
answers-one P one number lines ended other text different (NoLine _) (NoLine _) = (refl, refl)
answers-one P one number lines ended other text different (Line _ line answer texts rest first others so more) (Line _ _ second words _ last ends also further) =
    let here = one number line first last answer second so also in
    let after = answers-one P one (suc number) rest others ends texts words more further in
    (ap₂ both here.0 after.0, ap₂ (λ a b. a ++ b) here.1 after.1)
