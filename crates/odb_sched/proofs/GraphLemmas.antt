-- The numbers of a plan are its units and needs.
use Rattle.std.proofs.Common.{◌≡◌, ℕ, ◌<◌, ◌+◌, ◌∙◌, sym, ap, subst, arith, List, [], ◌∷◌, ◌++◌, length, get_or, inl, inr}
use Rattle.std.proofs.lemmas.Bool.{cases_lt}
use Rattle.std.proofs.lemmas.List.{get_or_append_left, get_or_at, length_push}
use Rattle.odb_check.specs.declared.need.Need.{Need}
use Rattle.odb_check.specs.PlanGraph.{PlanGraph, IsPlan, IsSpan}
use Rattle.odb_sched.specs.declared.graph.Graph.TheInside.{Inside}
use Rattle.odb_sched.specs.invariants.Dependents.{AreDependents}
use Rattle.odb_sched.specs.invariants.Graphs.{AreSpans, IsGraph, plan_graph_kept}

-- where the units so far begin and end
pub record AreSpansBelow (plan : PlanGraph) (n : ℕ) (members : List (ℕ × ℕ)) : Type 0 where
  pub count : length members ≡ n
  pub spans : (u : ℕ) → u < n → IsSpan plan u (get_or members u (0, 0)).0 (get_or members u (0, 0)).1

-- one unit more
pub spans_more : (plan : PlanGraph) (n from to : ℕ) (members written : List (ℕ × ℕ)) → AreSpansBelow plan n members → written ≡ members ++ (from, to) ∷ [] → IsSpan plan n from to → AreSpansBelow plan (n + 1) written
spans_more plan n from to members written are write span = subst (AreSpansBelow plan (n + 1)) (sym write) (record {
  count = length_push members (from, to) ∙ ap (λ k. k + 1) are.count;
  spans = λ u below. elim (cases_lt u n) [
    | inl before ↦ subst (λ p. IsSpan plan u p.0 p.1) (sym (get_or_append_left members ((from, to) ∷ []) (0, 0) u (omega (arith, are.count, before)))) (are.spans u before)
    | inr last ↦
        let here : n ≡ u = omega arith in
        subst (λ p. IsSpan plan u p.0 p.1) (sym (get_or_at members (from, to) [] (0, 0) u (are.count ∙ here))) (subst (λ v. IsSpan plan v from to) here span)
  ];
})

abbrev plan_graph_from : List ℕ → ℕ → List (List Need) → PlanGraph
plan_graph_from units count needs = record { units = units; unit_count = count; needs = needs }

-- these are the units and needs of a plan
pub kept_is : (g : Inside) (plan : PlanGraph) → g.units.items ≡ plan.units → length g.members.items ≡ plan.unit_count → g.needs ≡ plan.needs → plan_graph_kept g ≡ plan
kept_is g plan units count needs =
    ap (λ us. plan_graph_from us (length g.members.items) g.needs) units ∙ ap (λ n. plan_graph_from plan.units n g.needs) count ∙ ap (plan_graph_from plan.units plan.unit_count) needs

pub graph_is : (g : Inside) (plan : PlanGraph) → IsPlan plan → plan_graph_kept g ≡ plan → AreSpans plan g.members.items → AreDependents plan g.dependents → IsGraph g
graph_is g plan laws same spans dependents = record {
  order = subst IsPlan (sym same) laws;
  spans = subst (λ s. AreSpans s g.members.items) (sym same) spans;
  dependents = subst (λ s. AreDependents s g.dependents) (sym same) dependents;
}
