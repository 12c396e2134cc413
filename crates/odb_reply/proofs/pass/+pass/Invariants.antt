use Rattle.std.proofs.Common.{◌≡◌, ℕ, ◌+◌, ◌*◌, ◌≤◌, length}
use Rattle.json.specs.Json.{items, members, value}
use Rattle.odb_reply.specs.Passes.{items_have_numbers, members_have_numbers, left_if, pass_items, pass_members}
use Rattle.odb_reply.proofs.pass.+pass.Given as goal

abbrev pub decreases-pass_from : goal.decreases-pass_from
decreases-pass_from l = 3 * l.depth

abbrev pub decreases-pass_value : goal.decreases-pass_value
decreases-pass_value l = 3 * l.depth + 1

abbrev pub decreases-pass_items : goal.decreases-pass_items
decreases-pass_items l = 3 * l.depth + 2

abbrev pub decreases-pass_members : goal.decreases-pass_members
decreases-pass_members l = 3 * l.depth + 2

abbrev pub invariant-pass_items-loop-reader : goal.invariant-pass_items-loop-reader
invariant-pass_items-loop-reader l =
    (turns : ℕ) × (length l.reader ≤ turns) × (length l.reader ≤ length l.initial.reader)
    × (pass_items l.depth l.initial.reader ≡ left_if items_have_numbers (items (value l.depth) turns l.reader))

abbrev pub decreases-pass_items-loop-reader : goal.decreases-pass_items-loop-reader
decreases-pass_items-loop-reader l = length l.reader

abbrev pub invariant-pass_members-loop-reader : goal.invariant-pass_members-loop-reader
invariant-pass_members-loop-reader l =
    (turns : ℕ) × (length l.reader ≤ turns) × (length l.reader ≤ length l.initial.reader)
    × (pass_members l.depth l.initial.reader ≡ left_if members_have_numbers (members (value l.depth) turns l.reader))

abbrev pub decreases-pass_members-loop-reader : goal.decreases-pass_members-loop-reader
decreases-pass_members-loop-reader l = length l.reader
