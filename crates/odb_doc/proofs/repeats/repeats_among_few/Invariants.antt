use Rattle.std.proofs.Common.{bytes_eq, take}
use Rattle.std.specs.List.{IsDistinct}
use Rattle.odb_doc.specs.Names.{texts_in}
use Rattle.odb_doc.proofs.repeats.repeats_among_few.Given as goal

-- the texts so far are distinct
abbrev pub invariant-loop-k : goal.invariant-loop-k
invariant-loop-k l = IsDistinct bytes_eq (texts_in (take l.k l.texts))
