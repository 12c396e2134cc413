use Rattle.std.proofs.Common.{◌+◌, Some, length, slice_get, refl, sym, ap, subst}
use Rattle.std.proofs.lemmas.Bool.{true≢false}
use Rattle.odb_spans.specs.Parts.{FindsItems, GivesItem, GivesItemsAt, IsValueSpan, ItemLiesAt, items_in}
use Rattle.odb_spans.proofs.BracketLemmas.{array-at, no-array}
use Rattle.odb_spans.proofs.ItemLemmas.{bound-at}
use Rattle.odb_spans.proofs.PartLemmas.{if-ok, value-within}
use Rattle.odb_spans.proofs.item.items_at.Goals as goal

pub returns-then-has_byte-clause-found : goal.returns-then-has_byte-clause-found
returns-then-has_byte-clause-found c =
    let text = c.args.document.now in
    let at = c.args.at in
    if-ok (λ found. FindsItems text (at + 1) found.items) (λ found. GivesItemsAt text at found.items) c.items_among.result
    (λ found all position. record {
      bounds = bound-at (length text) found.items all.bounds position;
      gives = λ j ts v.
          (let array = array-at text at j ts v (c.if-has_byte.ensures.0 refl).1 in
          let span = slice_get found.items position in
          subst (λ i. IsValueSpan text span (slice_get (items_in (Some i)) position) × ItemLiesAt text span position i ts) (sym array.is) (all.finds array.inner ts array.has position));
    })
    c.items_among.ensures

pub returns-else-has_byte-clause-found : goal.returns-else-has_byte-clause-found
returns-else-has_byte-clause-found c position =
    let text = c.args.document.now in
    let at = c.args.at in
    subst (λ spans. GivesItem text at position (slice_get spans position)) (sym c.new.ensures.items) record {
      bounds = tt;
      gives = λ j ts v.
          (let within = value-within text at j ts v in
          (ap (λ l. slice_get l position) (no-array text at j ts v (λ here. true≢false (sym (c.if-has_byte.ensures.1 (within, here))))), tt));
    }
