use Rattle.std.proofs.Common.{◌≡◌, ◌++◌, take, string_bytes}
use Rattle.std.specs.List.{flat_map}
use Rattle.odb_text.specs.Traces.{undo_line}
use Rattle.odb_text.proofs.trace.push_undone.Given as goal

-- the lines so far
abbrev pub invariant-loop-i : goal.invariant-loop-i
invariant-loop-i l = string_bytes l.text ≡ string_bytes l.fn.text ++ flat_map (undo_line l.done) (take l.i-index l.positions)
