use Rattle.std.proofs.Common.{codes, length, subst}
use Rattle.odb_spans.specs.Spans.{IsWithin}
use Rattle.odb_spans.specs.Parts.{FindsElements, LieRequests}
use Rattle.odb_spans.proofs.FoundLemmas.{found-lies}
use Rattle.odb_spans.proofs.PartLemmas.{if-ok}
use Rattle.odb_spans.proofs.positions.requests_in.Goals as goal

pub returns-in-Some-Request-clause-found : goal.returns-in-Some-Request-clause-found
returns-in-Some-Request-clause-found c =
    let text = c.args.document.now in
    let start = c.value_start in
    if-ok (λ found. FindsElements (codes "requests") text start.result found.items) (λ found. LieRequests text found.items) c.elements_in.result
    (λ found all at span same. (
      subst (IsWithin (length text)) same (all at).bounds,
      λ d is. found-lies (codes "requests") text start.result found.items at span d start.ensures all same is,
    ))
    c.elements_in.ensures.found
