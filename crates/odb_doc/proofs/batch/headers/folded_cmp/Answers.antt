use Rattle.std.proofs.Common.{◌≡◌, ◌∙◌, ◌+◌, get_or, sym, arith, rules}
use Rattle.std.specs.Char.{to_ascii_lowercase}
use Rattle.std.specs.Ordering.{nat_cmp}
use Rattle.odb_doc.proofs.LentLemmas.{cmp_from, cmp_longer, cmp_more, cmp_same, cmp_shorter, then_other, then_rest}
use Rattle.odb_doc.proofs.batch.headers.folded_cmp.Goals as goal

pub returns-then-k-y : goal.returns-then-k-y
returns-then-k-y c =
    sym (cmp_longer c.args.x.now c.args.y.now c.loop-k.k (omega arith) (omega arith)) ∙ c.loop-k.invariant.same

pub returns-in_default : goal.returns-in_default
returns-in_default c =
    let x = c.args.x.now in
    let y = c.args.y.now in
    let k = c.loop-k.k in
    let order : c.cmp.result ≡ nat_cmp (to_ascii_lowercase (get_or x k 0)) (to_ascii_lowercase (get_or y k 0)) = search rules in
    sym (then_other c.cmp.result (cmp_from x y (k + 1)) c.in_default.not-Equal) ∙ rw order (sym (cmp_more x y k (omega arith) (omega arith)) ∙ c.loop-k.invariant.same)

pub loop-k-preserved : goal.loop-k-preserved
loop-k-preserved c =
    let x = c.args.x.now in
    let y = c.args.y.now in
    let k = c.loop-k.k in
    let order : c.cmp.result ≡ nat_cmp (to_ascii_lowercase (get_or x k 0)) (to_ascii_lowercase (get_or y k 0)) = search rules in
    record {
      same = sym (then_rest _ (cmp_from x y (k + 1)) (sym order ∙ c.in-Equal.is)) ∙ sym (cmp_more x y k (omega arith) (omega arith)) ∙ c.loop-k.invariant.same;
      within = omega arith;
    }

pub returns-then-x-y : goal.returns-then-x-y
returns-then-x-y c = sym (cmp_shorter c.args.x.now c.args.y.now c.loop-k.k (omega arith) (omega arith)) ∙ c.loop-k.invariant.same

pub returns-else-x-y : goal.returns-else-x-y
returns-else-x-y c = sym (cmp_same c.args.x.now c.args.y.now c.loop-k.k (omega arith) (omega arith)) ∙ c.loop-k.invariant.same
