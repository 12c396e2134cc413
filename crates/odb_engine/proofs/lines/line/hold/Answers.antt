use Rattle.std.proofs.Common.{rules, ◌≡◌, ◌∙◌, ℕ, List, ◌-◌, min, length, cond, Result, Ok, Err, OnOk}
use Rattle.std.specs.Result.{is_ok}
use Rattle.odb_engine.specs.Inputs.{most_read}
use Rattle.odb_engine.proofs.ByteLemmas.{hold-cut}
use Rattle.odb_engine.proofs.lines.line.hold.Goals as goal

at_ok : {T E : Type 0} (r : Result T E) (x a b c : List ℕ) → x ≡ cond (is_ok r) a b → a ≡ c → OnOk r (x ≡ c)
at_ok (Ok t) x a b c is same = is ∙ same
at_ok (Err e) x a b c is same = tt

pub returns : goal.returns
returns c =
    let held = c.args.held.now.items in
    let piece = c.args.piece.now in
    let room : c.min-room.result ≡ min (length piece) (most_read - length held) = search rules in
    at_ok c.extend_from_slice.result _ _ _ _ c.extend_from_slice.ensures.items (hold-cut held piece c.min-room.result c.requires room)
