use Rattle.std.proofs.Common.{length, slice_get, subst, sym, ap, ◌∙◌}
use Rattle.odb_spans.specs.Spans.{IsWithin}
use Rattle.odb_spans.proofs.FoundLemmas.{found-lies, none-lies}
use Rattle.odb_spans.proofs.locate.element_span.Goals as goal

pub returns-in-Some-clause-lies : goal.returns-in-Some-clause-lies
returns-in-Some-clause-lies c d is =
    let elements = c.in_ok-elements.elements.items in
    let same = ap (λ spans. slice_get spans c.args.position) (sym c.deref.ensures.value) ∙ sym c.span_at.ensures ∙ c.in-Some.is in
    found-lies c.args.name.now c.args.document.now c.value_start-start.result elements c.args.position c.in-Some.element d c.value_start-start.ensures c.in_ok-elements.ensures.found same is

pub returns-in-Some-clause-within : goal.returns-in-Some-clause-within
returns-in-Some-clause-within c =
    let same = ap (λ spans. slice_get spans c.args.position) (sym c.deref.ensures.value) ∙ sym c.span_at.ensures ∙ c.in-Some.is in
    subst (IsWithin (length c.args.document.now)) same (c.in_ok-elements.ensures.found c.args.position).bounds

pub returns-clause-lies : goal.returns-clause-lies
returns-clause-lies c d is =
    let elements = c.in_ok-elements.elements.items in
    let same = ap (λ spans. slice_get spans c.args.position) (sym c.deref.ensures.value) ∙ sym c.span_at.ensures ∙ c.in-None.is in
    none-lies c.args.name.now c.args.document.now c.value_start-start.result elements c.args.position c.whole_span.result d c.value_start-start.ensures c.in_ok-elements.ensures.found same is (c.whole_span.ensures.lies d is)
