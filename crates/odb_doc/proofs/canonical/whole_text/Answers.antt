use Rattle.std.proofs.Common.{◌∙◌, ◌≤◌, ◌++◌, sym, ap, length}
use Rattle.odb_doc.specs.batch.Batches.{records}
use Rattle.odb_doc.specs.canonical.CanonicalParts.{requests_left}
use Rattle.odb_doc.proofs.CanonicalLemmas.{canonical_text-front, requests_left-none}
use Rattle.odb_doc.proofs.canonical.whole_text.Goals as goal

pub loop-i-init : goal.loop-i-init
loop-i-init c =
    let rs = records c.args.batch.now in
    let begun = rw c.in_ok-text.ensures.bytes at c.in_ok-push_str.ensures.bytes in
    ap (λ text. text ++ requests_left rs 0) begun ∙ sym (canonical_text-front rs)

pub returns : goal.returns
returns c =
    let rs = records c.args.batch.now in
    let all : length rs ≤ c.loop-i.i = rw c.len-count.ensures.count at c.loop-i-test.false in
    let end = requests_left-none rs c.loop-i.i all in
    let whole = rw end at c.loop-i.invariant in
    c.in_ok-push_str-2.ensures.bytes ∙ whole
