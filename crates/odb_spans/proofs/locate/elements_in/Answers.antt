use Rattle.std.proofs.Common.{[], refl, slice_get, sym, ap, subst, ◌∙◌}
use Rattle.std.proofs.lemmas.Bool.{true≢false}
use Rattle.json.specs.Find.{get, get_member}
use Rattle.odb_spans.specs.Parts.{FindsElement, FindsElements, GivesItemsAt, IsValueSpan, LiesInMemberSome, items_in}
use Rattle.odb_spans.proofs.BracketLemmas.{no-object, object-at}
use Rattle.odb_spans.proofs.ItemLemmas.{member-item, no-member-item}
use Rattle.odb_spans.proofs.PartLemmas.{if-ok, value-within}
use Rattle.odb_spans.proofs.locate.elements_in.Goals as goal

pub returns-then-not-has_byte-clause-found : goal.returns-then-not-has_byte-clause-found
returns-then-not-has_byte-clause-found c position =
    let text = c.args.document.now in
    let name = c.args.name.now in
    let start = c.args.start in
    subst (λ spans. FindsElement name text start position (slice_get spans position)) (sym c.new.ensures.items) record {
      bounds = tt;
      finds = λ j v.
          (let within = value-within text start j [] v in
          (ap (λ o. slice_get (items_in o) position) (no-object name text start j [] v (λ here. true≢false (sym (c.if-not-has_byte.ensures.1 (within, here))))), tt));
    }

pub returns-in-Some-clause-found : goal.returns-in-Some-clause-found
returns-in-Some-clause-found c =
    let text = c.args.document.now in
    let name = c.args.name.now in
    let start = c.args.start in
    if-ok (λ found. GivesItemsAt text c.in-Some.value.start found.items) (λ found. FindsElements name text start found.items) c.items_at.result
    (λ found all position. record {
      bounds = (all position).bounds;
      finds = λ j v.
          (let object = object-at text start j [] v (c.if-not-has_byte.ensures.0 refl).1 in
          let last = c.in_ok-value.ensures.finds object.inner [] object.has in
          let span = slice_get found.items position in
          subst (λ i. IsValueSpan text span (slice_get (items_in (get name i)) position) × LiesInMemberSome text span name position i) (sym object.is)
          (member-item name text position c.in-Some.value c.in_ok-value.field-0 span object.inner (get_member name object.inner) c.in-Some.is last.0 last.1 (all position)));
    })
    c.items_at.ensures.found

pub returns-in-None-clause-found : goal.returns-in-None-clause-found
returns-in-None-clause-found c position =
    let text = c.args.document.now in
    let name = c.args.name.now in
    let start = c.args.start in
    subst (λ spans. FindsElement name text start position (slice_get spans position)) (sym c.new-in-None.ensures.items) record {
      bounds = tt;
      finds = λ j v.
          (let object = object-at text start j [] v (c.if-not-has_byte.ensures.0 refl).1 in
          let last = c.in_ok-value.ensures.finds object.inner [] object.has in (
            ap (λ i. slice_get (items_in (get name i)) position) object.is ∙ no-member-item text position c.in_ok-value.field-0 (get_member name object.inner) c.in-None.is last.0,
            tt,
          ));
    }
