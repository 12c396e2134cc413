use Rattle.std.proofs.Common.{◌≡◌, ◌≤◌, ◌<◌, ◌-◌, ℕ, true, get_or, length}
use Rattle.std.specs.Prelude.{IsUtf8}
use Rattle.std.specs.Str.{IsCharBoundary}
use Rattle.json.specs.Word.{is_space}
use Rattle.odb_spans.specs.Cuts.{IsClear, IsCut}
use Rattle.odb_spans.specs.Walks.{lexemes_from}
use Rattle.odb_spans.proofs.walk.past_blanks.Given as goal

abbrev pub invariant-loop-end : goal.invariant-loop-end
invariant-loop-end l = record {
  same : lexemes_from l.text l.end ≡ lexemes_from l.text l.at;
  after : l.at ≤ l.end;
  within : l.end ≤ length l.text;
  boundary : IsUtf8 l.text → IsCharBoundary l.text l.at → IsCharBoundary l.text l.end;
  cut : IsCut l.text l.at → IsCut l.text l.end;
  clear : IsCut l.text l.at → IsClear l.text l.at → IsClear l.text l.end;
  blanks : (k : ℕ) → l.at ≤ k → k < l.end → is_space (get_or l.text k 0) ≡ true;
}

abbrev pub decreases-loop-end : goal.decreases-loop-end
decreases-loop-end l = length l.text - l.end
