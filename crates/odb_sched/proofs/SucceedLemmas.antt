-- The counts after a request has succeeded, through the steps that bring them there.
use Rattle.std.proofs.Common.{◌≡◌, ℕ, suc, ◌<◌, ◌+◌, ◌-◌, ◌==◌, ◌∙◌, subst, arith, true, List, length, get_or, set, inl, inr, count_by, get_or-set_same, get_or-set_other}
use Rattle.std.proofs.lemmas.Bool.{cases_eq}
use Rattle.odb_check.specs.PlanGraph.{PlanGraph, IsPlan, unit_of}
use Rattle.odb_sched.specs.declared.phase.Phase.{Phase}
use Rattle.odb_sched.specs.declared.phase.Phase.TheVariants.{Unstarted, Running}
use Rattle.odb_sched.specs.run.State.{has_succeeded}
use Rattle.odb_sched.specs.invariants.Counts.{AreUnmet, ArePending, unmet_in, satisfied_by_unit, pending_in}
use Rattle.odb_sched.specs.invariants.Dependents.{need_count}
use Rattle.odb_sched.proofs.UnmetLemmas.{unmet_falls, pending_own, pending_other}

-- the unit of the request has one pending member less, and each other unit as many as before
pub pending_after : (plan : PlanGraph) (phases : List Phase) (i : ℕ) (before pending : List ℕ) → IsPlan plan → i < length plan.units → length phases ≡ length plan.units → has_succeeded (get_or phases i Unstarted) ≡ true
    → length before ≡ plan.unit_count → ArePending plan (set phases i Running) before → pending ≡ set before (unit_of plan i) (get_or before (unit_of plan i) 0 - 1) → ArePending plan phases pending
pending_after plan phases i before pending laws within each done members are e u inside = rw e (elim (cases_eq u (unit_of plan i)) [
  | inl here ↦
      let counted : get_or before (unit_of plan i) 0 ≡ suc (pending_in plan phases (unit_of plan i)) = are (unit_of plan i) (laws.counted i within) ∙ pending_own plan phases i within each done in
      rw (here, get_or-set_same before (unit_of plan i) (get_or before (unit_of plan i) 0 - 1) 0 (rw members (laws.counted i within))) (omega arith)
  | inr elsewhere ↦ get_or-set_other before (unit_of plan i) u _ 0 elsewhere ∙ are u inside ∙ pending_other plan phases i u elsewhere
])

-- a need that is unmet while a request runs is satisfied by the request, or by its unit, or is still unmet
pub unmet_satisfied : (plan : PlanGraph) (phases : List Phase) (i : ℕ) (row before satisfied last : List ℕ) → IsPlan plan → i < length plan.units → length phases ≡ length plan.units → has_succeeded (get_or phases i Unstarted) ≡ true
    → ((j : ℕ) → j < length plan.units → count_by (λ k. k == j) row ≡ need_count plan i j)
    → AreUnmet plan (set phases i Running) before
    → ((j : ℕ) → j < length plan.units → get_or satisfied j 0 + count_by (λ k. k == j) row ≡ get_or before j 0)
    → ((j : ℕ) → j < length plan.units → get_or last j 0 + satisfied_by_unit plan phases (unit_of plan i) j ≡ get_or satisfied j 0)
    → AreUnmet plan phases last
unmet_satisfied plan phases i row before satisfied last laws within each done listed are first second j inside =
    let counted : get_or before j 0 ≡ unmet_in plan phases j + (need_count plan i j + satisfied_by_unit plan phases (unit_of plan i) j) = are j inside ∙ unmet_falls plan phases i j laws within inside each done in
    let by_request : get_or satisfied j 0 + need_count plan i j ≡ get_or before j 0 = subst (λ n. get_or satisfied j 0 + n ≡ get_or before j 0) (listed j inside) (first j inside) in
    let by_unit : get_or last j 0 + satisfied_by_unit plan phases (unit_of plan i) j ≡ get_or satisfied j 0 = second j inside in
    omega arith
