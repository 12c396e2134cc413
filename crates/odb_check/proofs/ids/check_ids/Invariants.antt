use Rattle.std.proofs.Common.{◌<◌, ℕ}
use Rattle.odb_check.specs.declared.fault.NameRule.{NameRule}
use Rattle.odb_check.specs.Walks.{BreaksIn}
use Rattle.odb_check.specs.Requests.{requests}
use Rattle.odb_check.proofs.ids.check_ids.Given as goal

-- the requests before i break no rule
abbrev pub invariant-loop-i : goal.invariant-loop-i
invariant-loop-i l = (rule : NameRule) (k : ℕ) → k < l.i → ¬ BreaksIn 3 (requests l.tables) rule k
