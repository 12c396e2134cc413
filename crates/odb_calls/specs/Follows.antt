-- For private clauses: a run after steps that were tried.
use Rattle.std.specs.Prelude.{◌≡◌, ℕ, List, [], ◌∷◌}
use Rattle.odb_live.specs.declared.run.LiveRun.{LiveRun}
use Rattle.odb_calls.specs.Live.{Starts, TakesAt}
use Rattle.odb_calls.specs.Units.{StartsUnit}
use Rattle.odb_calls.specs.declared.steps.Step.{Step}
use Rattle.odb_calls.specs.declared.steps.Step.TheVariants as steps

-- what a step does: it comes, or nothing has changed
abbrev pub Tries : LiveRun → Step → LiveRun → Type 0
Tries old (steps.StartUnit i) new = (returned : ℕ) × StartsUnit old new i returned
Tries old (steps.Start i) new = (returned : ℕ) × Starts old new i returned
Tries old (steps.Report i outcome body) new = (returned : ℕ) × TakesAt old new i outcome body returned

-- the same of steps, one after another
abbrev pub FollowsAll : LiveRun → List Step → LiveRun → Type 0
FollowsAll first [] last = last ≡ first
FollowsAll first (step ∷ steps) last = (next : LiveRun) × Tries first step next × FollowsAll next steps last
