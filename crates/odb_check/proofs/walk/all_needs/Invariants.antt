use Rattle.std.proofs.Common.{◌≡◌, ◌<◌, ℕ}
use Rattle.odb_check.specs.declared.fault.NameRule.{NameRule}
use Rattle.odb_check.specs.Firsts.{list_below}
use Rattle.odb_check.specs.Needs.{needs_at}
use Rattle.odb_check.specs.Walks.{BreaksIn}
use Rattle.odb_check.specs.Marks.{AreUpTo}
use Rattle.odb_check.specs.Requests.{requests}
use Rattle.odb_check.proofs.walk.all_needs.Given as goal

-- the requests before i break no rule, and these are their needs
abbrev pub invariant-loop-i : goal.invariant-loop-i
invariant-loop-i l = record {
  none : (rule : NameRule) (k : ℕ) → k < l.i → ¬ BreaksIn 4 (requests l.tables) rule k;
  needs : l.needs ≡ list_below l.i (needs_at (requests l.tables));
  marks : AreUpTo (requests l.tables) l.i l.marks.ones.items l.marks.groups.items;
}
