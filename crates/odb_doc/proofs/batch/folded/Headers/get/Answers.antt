use Rattle.std.proofs.Common.{◌≡◌, ◌∙◌, ◌+◌, bytes_eq, cond, drop, get_or, map, false, ap, sym, Some}
use Rattle.std.specs.Map.{lookup}
use Rattle.std.specs.Str.{str_to_ascii_lowercase}
use Rattle.odb_doc.specs.Headers.{lent_header}
use Rattle.odb_doc.proofs.LentLemmas.{find_more, no_header}
use Rattle.odb_doc.proofs.batch.folded.Headers.get.Goals as goal

pub loop-header-preserved : goal.loop-header-preserved
loop-header-preserved c =
    let hs = c.as_slice-header-items.result.now in
    let k = c.loop-header.header-index in
    let h = get_or hs k no_header in
    let test = bytes_eq (str_to_ascii_lowercase c.args.name.now) in
    let other : test (str_to_ascii_lowercase h.written.now) ≡ false =
    sym c.is_named.ensures ∙ c.if-is_named.false in
    ap (λ b. cond b (Some h.value.now) (lookup test (map lent_header (drop (k + 1) hs)))) (sym other) ∙ sym (find_more test hs k no_header c.loop-header-test.true) ∙ c.loop-header.invariant
