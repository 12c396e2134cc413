use Rattle.odb_doc.specs.batch.Batches.{records}
use Rattle.odb_check.proofs.levels.levels_of.Given as goal
use Rattle.odb_check.proofs.LevelLemmas.{AreLevelsOf}

-- the levels of the requests before i, and of the units among these
abbrev pub invariant-loop-i : goal.invariant-loop-i
invariant-loop-i l = AreLevelsOf (records l.tables.all.batch.now) l.i l.levels.items l.unit_levels.items
