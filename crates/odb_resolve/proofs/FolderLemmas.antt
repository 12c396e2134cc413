-- What follows a folder has no other bytes than the path.
use Rattle.std.proofs.Common.{◌≡◌, ℕ, List, [], ◌∷◌, Some, All, inl, inr, subst}
use Rattle.std.proofs.lemmas.Bool.{cases_Bool}
use Rattle.std.proofs.lemmas.List.Elements.{All-nil, All-tail}
use Rattle.odb_resolve.specs.Roots.{is_escape, past_first, begins_with, after_folder}

past_passes : (Passes : ℕ → Type 0) (text : List ℕ) → All Passes text → All Passes (past_first text)
past_passes Passes [] all = all
past_passes Passes (x ∷ []) all = All-nil Passes
past_passes Passes (x ∷ y ∷ []) all = All-tail Passes x (y ∷ []) all
past_passes Passes (x ∷ y ∷ z ∷ more) all =
    let after : All Passes (y ∷ z ∷ more) = All-tail Passes x (y ∷ z ∷ more) all in
    elim (cases_Bool (is_escape x y z)) [
      | inl escape ↦ rw escape (All-tail Passes z more (All-tail Passes y (z ∷ more) after))
      | inr other ↦ rw other after
    ]

pub folder_passes : (Passes : ℕ → Type 0) (folder path more : List ℕ) → All Passes path → after_folder folder path ≡ Some more → All Passes more
folder_passes Passes [] path more all e = subst (λ (text : List ℕ). All Passes text) (cc) all
folder_passes Passes (x ∷ folder) path more all e =
    elim (cases_Bool (begins_with x path)) [
      | inl begins ↦ folder_passes Passes folder (past_first path) more (past_passes Passes path all) (rw begins at e)
      | inr other ↦ absurd (cc (rw other at e))
    ]
