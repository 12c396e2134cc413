-- Phases that pass the same tests are counted alike.
use Rattle.std.proofs.Math.Path.{fun_ext}
use Rattle.std.proofs.Common.{◌≡◌, ℕ, ◌==◌, ◌∙◌, sym, ap, Bool, not, ◌&&◌, ◌||◌, List, length, get_or, set, map, [], ◌∷◌, zero, suc, refl, inl, inr, count_by}
use Rattle.odb_check.specs.declared.need.Need.{Need}
use Rattle.odb_check.specs.declared.need.Need.TheVariants.{One, Group}
use Rattle.odb_check.specs.Firsts.{all_below}
use Rattle.odb_check.specs.PlanGraph.{PlanGraph, unit_of, needs_of}
use Rattle.odb_dense.specs.declared.worklist.Mark.{Mark}
use Rattle.odb_sched.specs.declared.phase.Phase.{Phase}
use Rattle.odb_sched.specs.declared.phase.Phase.TheVariants.{Unstarted}
use Rattle.odb_sched.specs.run.Failing.{fails}
use Rattle.odb_sched.specs.run.State.{is_running, has_succeeded, has_failed}
use Rattle.odb_sched.specs.run.Steps.{satisfied_in}
use Rattle.odb_sched.specs.invariants.Counts.{ArePropagated, unmet_in, pending_in}
use Rattle.odb_sched.proofs.CountLemmas.{count_same}
use Rattle.odb_sched.proofs.PhaseLemmas.{get_or-set_cases}

-- a new phase changes no answer of a test that answers alike for it and for the phase before
pub as_before : (test : Phase → Bool) (phases : List Phase) (i : ℕ) (new : Phase) → test new ≡ test (get_or phases i Unstarted) → (j : ℕ) → test (get_or (set phases i new) j Unstarted) ≡ test (get_or phases j Unstarted)
as_before test phases i new same j = elim (get_or-set_cases phases i j new) [
  | inl written ↦ ap test written.1 ∙ same ∙ ap (λ k. test (get_or phases k Unstarted)) (sym written.0)
  | inr kept ↦ ap test kept
]

-- if the same requests have succeeded, the same needs are satisfied
pub satisfied_same : (plan : PlanGraph) (phases other : List Phase) → ((j : ℕ) → has_succeeded (get_or phases j Unstarted) ≡ has_succeeded (get_or other j Unstarted)) → (need : Need) → satisfied_in plan phases need ≡ satisfied_in plan other need
satisfied_same plan phases other same (One r) = same r
satisfied_same plan phases other same (Group u) = ap (λ (f : ℕ → Bool). all_below (length plan.units) (λ j. not (unit_of plan j == u) || f j)) (fun_ext same)

pub unmet_same : (plan : PlanGraph) (phases other : List Phase) → ((j : ℕ) → has_succeeded (get_or phases j Unstarted) ≡ has_succeeded (get_or other j Unstarted)) → (i : ℕ) → unmet_in plan phases i ≡ unmet_in plan other i
unmet_same plan phases other same i = ap (λ (f : Need → Bool). count_by (λ need. not (f need)) (needs_of plan i)) (fun_ext (satisfied_same plan phases other same))

pub pending_same : (plan : PlanGraph) (phases other : List Phase) → ((j : ℕ) → has_succeeded (get_or phases j Unstarted) ≡ has_succeeded (get_or other j Unstarted)) → (u : ℕ) → pending_in plan phases u ≡ pending_in plan other u
pending_same plan phases other same u = count_same (length plan.units) _ _ (λ j below. ap (λ b. (unit_of plan j == u) && not b) (same j))

-- if the same requests have failed, the same units have
pub propagated_same : (plan : PlanGraph) (phases other : List Phase) (units : List Mark) → ((j : ℕ) → has_failed (get_or phases j Unstarted) ≡ has_failed (get_or other j Unstarted)) → ArePropagated plan phases units → ArePropagated plan other units
propagated_same plan phases other units same are = record {
  each = are.each;
  failed = λ u inside. are.failed u inside ∙ ap (λ bad. fails plan bad u) (fun_ext same);
  marked = are.marked;
}

-- the running requests are those before, but for the one whose phase was written
pub running_same : (phases : List Phase) (i : ℕ) (old : Phase) (runs : Bool) → is_running (get_or phases i Unstarted) ≡ runs → set (map is_running (set phases i old)) i runs ≡ map is_running phases
running_same [] i old runs e = refl
running_same (phase ∷ phases) zero old runs e = ap (λ b. b ∷ map is_running phases) (sym e)
running_same (phase ∷ phases) (suc i) old runs e = ap (λ bs. is_running phase ∷ bs) (running_same phases i old runs e)
