use Rattle.std.proofs.Common.{◌<◌, ◌∙◌, ap, false, length, set}
use Rattle.std.proofs.lemmas.List.{length-set}
use Rattle.std.proofs.lemmas.List.FromFn.{length-map-range_with_len}
use Rattle.odb_dense.specs.Bits.{has, members}
use Rattle.odb_dense.proofs.BitLemmas.{bits_less, bits_none, bits_of, members_of}
use Rattle.odb_dense.proofs.bit_set.BitSet.remove.Goals as goal

pub invariant_of-self : goal.invariant_of-self
invariant_of-self c =
    let s = c.self.inside in
    let below : c.args.i < length (members s) = rw (c.self.view_is) c.requires in
    bits_of (set (members s) c.args.i false) _ _ s.bound (length-set (members s) c.args.i false ∙ length-map-range_with_len (has s.words.items) 0 s.bound)
    (bits_none (members s) s.words.items s.summary.items c.self.invariant c.args.i below c.index_mut.result.now c.index_mut-then-index-eq0.result.now c.index.result.now c.index_mut.ensures.value c.index_mut-then-index-eq0.ensures.value c.index.ensures c.if-index-eq0.true)

pub invariant_of-self-else-index-eq0 : goal.invariant_of-self-else-index-eq0
invariant_of-self-else-index-eq0 c =
    let s = c.self.inside in
    let below : c.args.i < length (members s) = rw (c.self.view_is) c.requires in
    bits_of (set (members s) c.args.i false) _ _ s.bound (length-set (members s) c.args.i false ∙ length-map-range_with_len (has s.words.items) 0 s.bound)
    (bits_less (members s) s.words.items s.summary.items c.self.invariant c.args.i below c.index_mut.result.now c.index.result.now c.index_mut.ensures.value c.index.ensures c.if-index-eq0.false)

pub returns-then-index-eq0 : goal.returns-then-index-eq0
returns-then-index-eq0 c =
    let s = c.self.inside in
    let below : c.args.i < length (members s) = rw (c.self.view_is) c.requires in
    members_of (set (members s) c.args.i false) _ _ s.bound (length-set (members s) c.args.i false ∙ length-map-range_with_len (has s.words.items) 0 s.bound)
    (bits_none (members s) s.words.items s.summary.items c.self.invariant c.args.i below c.index_mut.result.now c.index_mut-then-index-eq0.result.now c.index.result.now c.index_mut.ensures.value c.index_mut-then-index-eq0.ensures.value c.index.ensures c.if-index-eq0.true)
    ∙ ap (λ ms. set ms c.args.i false) c.self.view_is

pub returns-else-index-eq0 : goal.returns-else-index-eq0
returns-else-index-eq0 c =
    let s = c.self.inside in
    let below : c.args.i < length (members s) = rw (c.self.view_is) c.requires in
    members_of (set (members s) c.args.i false) _ _ s.bound (length-set (members s) c.args.i false ∙ length-map-range_with_len (has s.words.items) 0 s.bound)
    (bits_less (members s) s.words.items s.summary.items c.self.invariant c.args.i below c.index_mut.result.now c.index.result.now c.index_mut.ensures.value c.index.ensures c.if-index-eq0.false)
    ∙ ap (λ ms. set ms c.args.i false) c.self.view_is
