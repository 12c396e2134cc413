use Rattle.std.proofs.Common.{◌<◌, ◌∙◌, ap, true, length, set}
use Rattle.std.proofs.lemmas.List.{length-set}
use Rattle.std.proofs.lemmas.List.FromFn.{length-map-range_with_len}
use Rattle.odb_dense.specs.Bits.{has, members}
use Rattle.odb_dense.proofs.BitLemmas.{bits_more, bits_of, members_of}
use Rattle.odb_dense.proofs.bit_set.BitSet.insert.Goals as goal

pub invariant_of-self : goal.invariant_of-self
invariant_of-self c =
    let s = c.self.inside in
    let below : c.args.i < length (members s) = rw (c.self.view_is) c.requires in
    bits_of (set (members s) c.args.i true) _ _ s.bound (length-set (members s) c.args.i true ∙ length-map-range_with_len (has s.words.items) 0 s.bound)
    (bits_more (members s) s.words.items s.summary.items c.self.invariant c.args.i below c.index_mut.result.now c.index_mut-2.result.now c.index_mut.ensures.value c.index_mut-2.ensures.value)

pub returns : goal.returns
returns c =
    let s = c.self.inside in
    let below : c.args.i < length (members s) = rw (c.self.view_is) c.requires in
    members_of (set (members s) c.args.i true) _ _ s.bound (length-set (members s) c.args.i true ∙ length-map-range_with_len (has s.words.items) 0 s.bound)
    (bits_more (members s) s.words.items s.summary.items c.self.invariant c.args.i below c.index_mut.result.now c.index_mut-2.result.now c.index_mut.ensures.value c.index_mut-2.ensures.value)
    ∙ ap (λ ms. set ms c.args.i true) c.self.view_is
