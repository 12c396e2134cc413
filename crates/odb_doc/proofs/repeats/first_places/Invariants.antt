use Rattle.std.proofs.Common.{◌≡◌, drop, fold}
use Rattle.odb_doc.specs.Names.{distinct, texts_in, with_name}
use Rattle.odb_doc.specs.SameTexts.{AreSameTexts}
use Rattle.odb_doc.proofs.repeats.first_places.Given as goal

-- the set has the texts that were kept, and those with the texts to come are the distinct ones
abbrev pub invariant-loop-text : goal.invariant-loop-text
invariant-loop-text l = record {
  seen : AreSameTexts (texts_in l.seen.keys) (texts_in l.kept.items);
  kept : fold with_name (texts_in l.kept.items) (texts_in (drop l.text-index l.texts)) ≡ distinct (texts_in l.texts);
}
