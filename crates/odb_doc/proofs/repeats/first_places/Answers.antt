use Rattle.std.proofs.Common.{refl}
use Rattle.odb_doc.specs.Names.{texts_in}
use Rattle.odb_doc.proofs.NameLemmas.{fold-with_name-nil}
use Rattle.odb_doc.proofs.repeats.first_places.Goals as goal

pub loop-text-init : goal.loop-text-init
loop-text-init c = record {
  seen = λ q. rw (c.new-seen.ensures.empty, c.in_ok-kept.ensures.items) refl;
  kept = rw c.in_ok-kept.ensures.items (fold-with_name-nil (texts_in c.args.texts.now));
}
