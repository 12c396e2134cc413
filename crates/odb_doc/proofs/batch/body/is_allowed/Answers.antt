use Rattle.odb_doc.specs.batch.BodyKinds.{HasKind}
use Rattle.odb_doc.proofs.TypeLemmas.{kind_fits, fits_kind}
use Rattle.odb_doc.proofs.batch.body.is_allowed.Goals as goal

pub returns : goal.returns
returns c =
    let kind : HasKind _ c.in_ok-kind.kind = rw c.content_type.ensures at c.in_ok-kind.ensures in (
      λ is. kind_fits kind (c.is_of_kind.ensures.0 is),
      λ fits. c.is_of_kind.ensures.1 (fits_kind c.one_reading.ensures.run kind fits),
    )
