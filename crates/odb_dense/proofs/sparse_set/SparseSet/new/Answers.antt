use Rattle.std.proofs.Common.{◌∙◌, ap, length, map, is_some, replicate, rules, arith, subst, sym, ◌≡◌, ◌≤◌}
use Rattle.std.proofs.lemmas.List.{length-replicate}
use Rattle.odb_dense.specs.Places.{places_of, ArePlaced}
use Rattle.odb_dense.proofs.PlacedLemmas.{members_none, none_placed}
use Rattle.odb_dense.proofs.sparse_set.SparseSet.new.Goals as goal

pub returns : goal.returns
returns c = ap (λ numbers. map is_some (places_of numbers)) (c.in_ok-vec-2.ensures.items_if_clones_equal (λ y same. search rules)) ∙ members_none c.args.bound

pub invariant_of-result : goal.invariant_of-result
invariant_of-result c =
    let all : c.in_ok-vec-2.field-0.items ≡ replicate c.args.bound 4294967295 = c.in_ok-vec-2.ensures.items_if_clones_equal (λ y same. search rules) in
    let few : c.args.bound ≤ 4294967295 = omega arith in
    subst (λ numbers. ArePlaced c.in_ok-vec.field-0.items (places_of numbers) 0) (sym all)
    (none_placed c.in_ok-vec.field-0.items c.args.bound few (ap length (c.in_ok-vec.ensures.items_if_clones_equal (λ y same. search rules)) ∙ length-replicate c.args.bound 0))
