-- One step of the scan over a text.
use Rattle.std.proofs.Common.{◌≡◌, ◌∙◌, ℕ, zero, suc, ◌+◌, ◌<◌, ◌≤◌, Bool, true, false, cond, ◌||◌, ◌==◌, List, [], ◌∷◌, length, drop, get_or, slice_index, refl, ap, subst, arith}
use Rattle.std.proofs.lemmas.List.{at_drop_more, at_drop_all, drop-drop}
use Rattle.json.specs.Lex.{in_string}
use Rattle.json.specs.Lex as lexer
use Rattle.odb_spans.specs.Extents.{extent, value_extent}
use Rattle.odb_spans.specs.Kinds.{IsKind}
use Rattle.odb_spans.specs.States.{mode_of, Begins, Ends, Passes}
use Rattle.odb_spans.specs.declared.byte.Kind.{Kind}
use Rattle.odb_spans.specs.declared.extent.State.{State}
use Rattle.odb_spans.proofs.ContentLemmas.{in-string}

neither : {A : Type 0} (q b : Bool) (x y z : A) → ((q || b) ≡ true → ⊥) → cond q x (cond b y z) ≡ z
neither true b x y z free = absurd (free refl)
neither false true x y z free = absurd (free refl)
neither false false x y z free = refl

abbrev IsPlain : List ℕ → ℕ → Type 0
IsPlain xs k = (i : ℕ) → i < k → (slice_index xs i == 34 || slice_index xs i == 92) ≡ true → ⊥

plain : (xs : List ℕ) (k n : ℕ) → k ≤ length xs → IsPlain xs k → extent in_string n xs ≡ k + extent in_string n (drop k xs)
plain xs zero n within free = omega arith
plain [] (suc k) n within free = absurd (omega (arith, within))
plain (x ∷ xs) (suc k) n within free =
    let one : extent in_string n (x ∷ xs) ≡ suc (extent in_string n xs) = in-string n x xs ∙ ap suc (neither (x == 34) (x == 92) _ _ _ (free 0 (omega arith))) in
    let more : extent in_string n xs ≡ k + extent in_string n (drop k xs) = plain xs k n (omega (arith, within)) (λ i less. free (suc i) (omega (arith, less))) in
    omega (arith, one, more)

-- bytes in a string that are neither a quote nor a backslash are passed
pub plain-extent : (text rest : List ℕ) (at k n : ℕ) → rest ≡ drop at text → k ≤ length rest → IsPlain rest k → at + extent in_string n (drop at text) ≡ (at + k) + extent in_string n (drop (at + k) text)
plain-extent text rest at k n is within free =
    let same : extent in_string n (drop at text) ≡ k + extent in_string n (drop k (drop at text)) = subst (λ l. extent in_string n l ≡ k + extent in_string n (drop k l)) is (plain rest k n within free) in
    let more : extent in_string n (drop k (drop at text)) ≡ extent in_string n (drop (at + k) text) = ap (extent in_string n) (drop-drop k at text) in
    omega (arith, same, more)

module _ (text : List ℕ) (at : ℕ) where
  abbrev byte : ℕ
  byte = get_or text at 0

  abbrev rest : List ℕ
  rest = drop (at + 1) text

  pub value-begins : (kind : Kind) (next : State) → at < length text → IsKind kind byte → Begins kind 0 next → value_extent (drop at text) ≡ suc (extent (mode_of next.mode) next.depth rest)
  unfolding value_extent
  value-begins kind next within is begins = at_drop_more value_extent text at 0 within ∙ ap suc (begins.first refl byte (λ m n. extent m n rest) is)

  pub value-none : length text ≤ at → value_extent (drop at text) ≡ 0
  unfolding value_extent
  value-none past = at_drop_all value_extent text at past

  pub extent-passes : (kind : Kind) (state next : State) → at < length text → IsKind kind byte → Passes kind state next
      → extent (mode_of state.mode) state.depth (drop at text) ≡ suc (extent (mode_of next.mode) next.depth rest)
  unfolding extent
  extent-passes kind state next within is passes =
      at_drop_more (extent (mode_of state.mode) state.depth) text at 0 within ∙ passes.passes byte (λ m n. extent m n rest) is

  pub extent-ends : (kind : Kind) (state : State) → at < length text → IsKind kind byte → Ends kind state → extent (mode_of state.mode) state.depth (drop at text) ≡ 0
  unfolding extent
  extent-ends kind state within is ends = at_drop_more (extent (mode_of state.mode) state.depth) text at 0 within ∙ ends.ends byte (λ m n. extent m n rest) is

  pub extent-none : (m : lexer.Mode) (n : ℕ) → length text ≤ at → extent m n (drop at text) ≡ 0
  unfolding extent
  extent-none m n past = at_drop_all (extent m n) text at past
