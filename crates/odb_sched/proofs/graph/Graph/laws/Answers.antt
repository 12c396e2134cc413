-- Each unit has members.
use Rattle.std.proofs.Common.{ℕ, ◌<◌, arith, subst}
use Rattle.odb_sched.specs.invariants.Dependents.{Numbers}
use Rattle.odb_sched.specs.run.State.{members_in}
use Rattle.odb_sched.proofs.FirstLemmas.{members_of_span}
use Rattle.odb_sched.proofs.graph.Graph.laws.Goals as goal

pub returns-clause-members : goal.returns-clause-members
returns-clause-members c = subst (λ (g : Numbers). (u : ℕ) → u < g.plan_graph.unit_count → 0 < members_in g.plan_graph u) c.self.view_is (λ u inside.
    let span = c.self.invariant.spans u inside in
    let begins = span.begins in
    let counted = members_of_span _ u _ _ span begins in
    omega (arith, begins, counted))
