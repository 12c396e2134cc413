use Rattle.std.proofs.Common.{ℕ, ◌≤◌, ◌+◌, ◌/◌, arith, rules, false, replicate}
use Rattle.std.proofs.lemmas.List.{length-replicate}
use Rattle.odb_dense.specs.Bits.{HaveRoom}
use Rattle.odb_dense.proofs.BitLemmas.{bits_zero, bits_of, members_of}
use Rattle.odb_dense.proofs.bit_set.BitSet.new.Goals as goal

-- so many words and blocks have room for the numbers
room : (bound : ℕ) → bound ≤ 4294967295 → HaveRoom bound (bound / 64 + 1) ((bound / 64 + 1) / 64 + 1)
room bound few = record { few = omega arith; words_do = omega arith; fewer = omega arith; blocks_do = omega arith }

pub invariant_of-result : goal.invariant_of-result
invariant_of-result c =
    let words = c.in_ok-vec.ensures.items_if_clones_equal (λ y same. search rules) in
    let blocks = c.in_ok-vec-2.ensures.items_if_clones_equal (λ y same. search rules) in
    rw (words, blocks) (bits_of (replicate c.args.bound false) _ _ c.args.bound (length-replicate c.args.bound false) (bits_zero c.args.bound _ _ (room c.args.bound (omega arith))))

pub returns : goal.returns
returns c =
    let words = c.in_ok-vec.ensures.items_if_clones_equal (λ y same. search rules) in
    rw words (members_of (replicate c.args.bound false) _ _ c.args.bound (length-replicate c.args.bound false) (bits_zero c.args.bound _ _ (room c.args.bound (omega arith))))
