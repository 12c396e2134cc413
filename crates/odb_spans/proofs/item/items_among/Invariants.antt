use Rattle.std.proofs.Common.{List, ◌≤◌, ◌-◌, Some, length}
use Rattle.json.specs.Token.{Token}
use Rattle.json.specs.Json as json
use Rattle.std.specs.List.{All}
use Rattle.odb_spans.specs.Spans.{IsWithin}
use Rattle.odb_spans.specs.Parts.{HasItems, ItemsPassed}
use Rattle.odb_spans.proofs.item.items_among.Given as goal

abbrev pub invariant-items : goal.invariant-items
invariant-items l = record {
  within : l.at ≤ length l.document;
  bounds : All (λ span. IsWithin (length l.document) (Some span)) l.items.items;
  remaining : (js : json.Items) (ts : List Token) → HasItems l.document l.start js ts → ItemsPassed l.document l.at l.items.items js ts;
}

abbrev pub decreases-items : goal.decreases-items
decreases-items l = length l.document - l.at
