use Rattle.std.proofs.Common.{◌≡◌, ◌⊎◌, ◌<◌, ℕ, true, false}
use Rattle.odb_send.specs.Units.{marked}
use Rattle.odb_tests_text.proofs.laws.parts.goes_on.Given as goal

-- each unit so far is done or has not begun, and one is not done if it is noted
abbrev pub invariant-loop-u : goal.invariant-loop-u
invariant-loop-u l =
    ((v : ℕ) → v < l.u → (marked l.done v ≡ true) ⊎ (marked l.left v ≡ true))
    × (l.is_open ≡ true → (v : ℕ) × (v < l.u) × (marked l.done v ≡ false))
