use Rattle.std.proofs.Common.{take}
use Rattle.odb_doc.specs.Names.{texts_in}
use Rattle.odb_doc.specs.SameTexts.{AreSameTexts, RepeatNoneBefore}
use Rattle.odb_doc.proofs.repeats.first_repeat.Given as goal

-- the set has the texts so far, of which none repeats
abbrev pub invariant-loop-k : goal.invariant-loop-k
invariant-loop-k l = record {
  seen : AreSameTexts (texts_in l.seen.keys) (texts_in (take l.k l.texts));
  apart : RepeatNoneBefore (texts_in l.texts) l.k;
}
