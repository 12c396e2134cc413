use Rattle.std.proofs.Common.{◌∙◌, ap, string_bytes, subst}
use Rattle.odb_names.specs.declared.segment.Front.{Front}
use Rattle.odb_names.specs.Fronts.{HasFront, form, reference, bad}
use Rattle.odb_doc.proofs.ReferenceLemmas.{plain_not_bad, plain_not_reference, reference_not_bad}
use Rattle.odb_doc.proofs.batch.reference.reference_of.Goals as goal

pub returns-in-Plain-clause-fits : goal.returns-in-Plain-clause-fits
returns-in-Plain-clause-fits c = λ stands.
    plain_not_bad c.in_ok-front.field-0 c.in-Plain.is (c.in_ok-front.ensures.only bad stands)

pub returns-in-Plain-clause-refers : goal.returns-in-Plain-clause-refers
returns-in-Plain-clause-refers c = λ id stands.
    plain_not_reference c.in_ok-front.field-0 id c.in-Plain.is (c.in_ok-front.ensures.only (reference id) stands)

pub returns-in-Reference-clause-fits : goal.returns-in-Reference-clause-fits
returns-in-Reference-clause-fits c = λ stands.
    reference_not_bad (string_bytes c.in-Reference.id) (c.in_ok-front.ensures.only bad stands ∙ ap form c.in-Reference.is)

pub returns-in-Reference-clause-refers : goal.returns-in-Reference-clause-refers
returns-in-Reference-clause-refers c =
    subst (λ (f : Front). HasFront c.args.url.now (form f)) c.in-Reference.is c.in_ok-front.ensures.front
