use Rattle.std.proofs.Common.{◌≡◌, ◌++◌}
use Rattle.odb_check.specs.Firsts.{passing_below}
use Rattle.odb_sched.specs.run.Answers.{is_undone, undone}
use Rattle.odb_sched.proofs.owned.OwnedRun.undone.Given as goal

-- the undone positions from the last on, and then the remaining ones
abbrev pub invariant-loop-i : goal.invariant-loop-i
invariant-loop-i l = l.positions.items ++ passing_below l.i (is_undone l.self) ≡ undone l.self
