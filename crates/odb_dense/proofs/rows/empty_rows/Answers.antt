use Rattle.std.proofs.Common.{◌≡◌, ◌<◌, ◌≤◌, ◌+◌, ◌∙◌, sym, ap, arith, rules, length, get_or, take}
use Rattle.std.proofs.lemmas.List.{get_or_read, length-set, length_push, take_all}
use Rattle.odb_dense.specs.Starts.{at_key, below_key}
use Rattle.odb_dense.proofs.KeyLemmas.{below_key_first, below_key_next, below_key_most}
use Rattle.odb_dense.proofs.RowLemmas.{at_key_first, counted_more, empty_more}
use Rattle.odb_dense.proofs.rows.empty_rows.Goals as goal

pub overflow_add-index_mut : goal.overflow_add-index_mut
overflow_add-index_mut c =
    let ps = c.args.pairs.now in
    let n = c.loop-key.key-index in
    let counts = c.loop-key.counts.items in
    let key = (get_or ps n (0, 0)).0 in
    let room : length counts ≡ c.args.keys = c.loop-key.invariant.room in
    let below : key < c.args.keys = c.requires.keys n c.loop-key-test.true in
    let read : c.index_mut.result.now ≡ get_or counts key 0 = get_or_read counts key c.index_mut.result.now (omega arith) c.index_mut.ensures.value 0 in
    let few : at_key key (take n ps) ≤ n = at_key_first key n ps in
    let counted : get_or counts key 0 ≡ at_key key (take n ps) = c.loop-key.invariant.counted key (omega arith) in
    let most : c.index_mut.result.now ≤ n = omega arith in
    search rules

pub loop-key-preserved : goal.loop-key-preserved
loop-key-preserved c =
    let ps = c.args.pairs.now in
    let n = c.loop-key.key-index in
    let counts = c.loop-key.counts.items in
    let key = (get_or ps n (0, 0)).0 in
    let count = c.index_mut.result.now in
    let room : length counts ≡ c.args.keys = c.loop-key.invariant.room in
    let below : key < c.args.keys = c.requires.keys n c.loop-key-test.true in
    let read : count ≡ get_or counts key 0 = get_or_read counts key count (omega arith) c.index_mut.ensures.value 0 in
    record {
      room = length-set counts key (count + 1) ∙ room;
      counted = λ k less. counted_more counts ps n count c.loop-key-test.true (omega arith) c.loop-key.invariant.counted read k (omega (arith, less, length-set counts key (count + 1)));
    }

pub loop-key-2-init : goal.loop-key-2-init
loop-key-2-init c = record {
  count = ap length c.in_ok-parts.ensures.items;
  from = sym (below_key_first c.args.pairs.now);
  empty = rw c.in_ok-parts.ensures.items (λ k less. absurd (omega arith));
}

pub overflow_add-from : goal.overflow_add-from
overflow_add-from c =
    let ps = c.args.pairs.now in
    let key = c.loop-key-2.key in
    let counts = c.loop-key.counts.items in
    let room : length counts ≡ c.args.keys = c.loop-key.invariant.room in
    let less : key < c.args.keys = c.loop-key-2-test.true in
    let read : c.index.result.now ≡ get_or counts key 0 = get_or_read counts key c.index.result.now (omega arith) c.index.ensures 0 in
    let counted : get_or counts key 0 ≡ at_key key ps = c.loop-key.invariant.counted key (omega arith) ∙ ap (at_key key) (take_all c.loop-key.key-index ps c.loop-key-test.false) in
    let from : c.loop-key-2.from ≡ below_key key ps = c.loop-key-2.invariant.from in
    let next : below_key (key + 1) ps ≡ below_key key ps + at_key key ps = below_key_next key ps in
    let few : below_key (key + 1) ps ≤ length ps = below_key_most (key + 1) ps in
    let most : c.loop-key-2.from + c.index.result.now ≤ length ps = omega arith in
    search rules

pub loop-key-2-preserved : goal.loop-key-2-preserved
loop-key-2-preserved c =
    let ps = c.args.pairs.now in
    let key = c.loop-key-2.key in
    let counts = c.loop-key.counts.items in
    let room : length counts ≡ c.args.keys = c.loop-key.invariant.room in
    let less : key < c.args.keys = c.loop-key-2-test.true in
    let read : c.index.result.now ≡ get_or counts key 0 = get_or_read counts key c.index.result.now (omega arith) c.index.ensures 0 in
    let counted : get_or counts key 0 ≡ at_key key ps = c.loop-key.invariant.counted key (omega arith) ∙ ap (at_key key) (take_all c.loop-key.key-index ps c.loop-key-test.false) in
    let from : c.loop-key-2.from ≡ below_key key ps = c.loop-key-2.invariant.from in
    let next : below_key (key + 1) ps ≡ below_key key ps + at_key key ps = below_key_next key ps in
    record {
      count = ap length c.in_ok-push.ensures.items ∙ length_push c.loop-key-2.parts.items (c.loop-key-2.from, c.loop-key-2.from) ∙ ap (λ m. m + 1) c.loop-key-2.invariant.count;
      from = omega arith;
      empty = empty_more ps c.loop-key-2.parts.items _ key c.loop-key-2.from c.loop-key-2.invariant.count c.in_ok-push.ensures.items from c.loop-key-2.invariant.empty;
    }
