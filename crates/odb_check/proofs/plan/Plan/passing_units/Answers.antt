use Rattle.std.proofs.Common.{◌≡◌, ◌∙◌, ◌<◌, true, length, replicate, ap, sym, subst, arith}
use Rattle.odb_check.specs.Plans.{plan_graph}
use Rattle.odb_check.specs.PlanGraph.{ArePassing, unit_of}
use Rattle.odb_check.proofs.PassingLemmas.{passing-none, passing-more, passing-less}
use Rattle.odb_check.proofs.plan.Plan.passing_units.Goals as goal
use Rattle.odb_check.proofs.plan.Plan.passing_units.Goals.{then-not-passes, else-not-passes}

pub loop-i-init : goal.loop-i-init
loop-i-init g c test answers =
    let plan = plan_graph c.args.self.now in
    let all : c.in_ok-units.units.items ≡ replicate plan.unit_count true = c.in_ok-units.ensures.items_if_clones_equal (λ y same. same) ∙ ap (λ n. replicate n true) c.unit_count.ensures.size in
    rw all (passing-none plan test)

pub passes-requires : goal.passes-requires
passes-requires g c = c.requires c.loop-i.i (omega (arith, c.loop-i-test.true, c.len-i-end.ensures.size))

pub loop-i-preserved : goal.loop-i-preserved
loop-i-preserved g c test answers =
    let plan = plan_graph c.args.self.now in
    let i = c.loop-i.i in
    let within : i < length plan.units = omega (arith, c.loop-i-test.true, c.len-i-end.ensures.size) in
    let before = c.loop-i.invariant test answers in
    let answer : c.passes.result ≡ test i = answers i c.passes.result within c.passes.ensures in
    elim c.if-not-passes.branch [
      | then-not-passes w ↦
          let known : unit_of plan i < plan.unit_count = rw w.unit_of.ensures.unit at w.unit_of.ensures.counted in
          rw (w.units-is, w.unit_of.ensures.unit) (passing-less plan test i c.loop-i.units.items before within known (sym answer ∙ w.if-not-passes.true))
      | else-not-passes w ↦ rw w.units-is (passing-more plan test i c.loop-i.units.items before (sym answer ∙ w.if-not-passes.false))
    ]

pub returns : goal.returns
returns g c test answers =
    let plan = plan_graph c.args.self.now in
    let all : c.loop-i.i ≡ length plan.units = omega (arith, c.loop-i.auto.i-end, c.len-i-end.ensures.size, c.loop-i-test.false) in
    subst (λ n. ArePassing plan test n c.loop-i.units.items) all (c.loop-i.invariant test answers)
