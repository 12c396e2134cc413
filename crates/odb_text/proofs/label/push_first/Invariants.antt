use Rattle.std.proofs.Common.{◌≡◌, ◌+◌, ◌++◌, length, string_bytes}
use Rattle.odb_text.specs.Labels.{first_shown}
use Rattle.odb_text.proofs.label.push_first.Given as goal

-- the characters so far, and how many more there may be
abbrev pub invariant-loop-c : goal.invariant-loop-c
invariant-loop-c l = (l.left + length l.yielded ≡ l.count) × (string_bytes l.text ≡ string_bytes l.fn.text ++ first_shown (length l.yielded) l.piece)
