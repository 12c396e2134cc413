use Rattle.std.proofs.Common.{◌≡◌, ◌≤◌, ◌++◌, length, map, All, bytes_eq}
use Rattle.std.specs.List.{IsDistinct}
use Rattle.std.specs.Map.{keys_of}
use Rattle.std.specs.Slice.Iter.{iter_mut_rest}
use Rattle.serde_json.specs.View.{view}
use Rattle.odb_doc.specs.recorded.Outcomes.{ReadsAs, IsWellFormedOutcome, ids, recorded}
use Rattle.odb_doc.specs.SameTexts.{IsFirstRepeat}
use Rattle.odb_doc.proofs.LeastLemmas.{AreRead}
use Rattle.odb_doc.proofs.OutcomeListLemmas.{Breaks}
use Rattle.odb_doc.proofs.recorded.outcomes.outcomes_from.Given as goal

abbrev pub invariant-loop-element : goal.invariant-loop-element
invariant-loop-element l = record {
  split : l.fn.elements.items ≡ map (λ y. y.now) l.yielded ++ iter_mut_rest l.element-iterator;
  first : IsFirstRepeat (ids (map view l.fn.elements.items)) l.repeat;
  within : length l.entries.items ≤ l.repeat;
  read : AreRead Breaks ReadsAs (map view (map (λ y. y.now) l.yielded)) (map recorded l.entries.items);
  apart : IsDistinct bytes_eq (keys_of (map recorded l.entries.items));
  fit : All IsWellFormedOutcome (map recorded l.entries.items);
}
