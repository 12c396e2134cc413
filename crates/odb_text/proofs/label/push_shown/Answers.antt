use Rattle.std.proofs.Common.{◌≡◌, ◌++◌, OnOk, string_bytes, sym, subst}
use Rattle.odb_text.proofs.LabelLemmas.{shown_long, shown_short}
use Rattle.odb_text.proofs.label.push_shown.Goals as goal

pub returns-then-is_long : goal.returns-then-is_long
returns-then-is_long c =
    subst (λ text. OnOk c.push_long.result (string_bytes c.push_long.new.text ≡ string_bytes c.args.text.now ++ text))
    (sym (shown_long c.args.piece.now c.if-is_long.ensures)) c.push_long.ensures

pub returns-else-is_long : goal.returns-else-is_long
returns-else-is_long c =
    subst (λ text. OnOk c.push_first.result (string_bytes c.push_first.new.text ≡ string_bytes c.args.text.now ++ text))
    (sym (shown_short c.args.piece.now c.if-is_long.ensures)) c.push_first.ensures
