-- The last segment that the code cuts is the one of the definition, since there is no other.
use Rattle.std.proofs.Common.{◌∙◌, ap, rules, subst}
use Rattle.percent_encoding.specs.Iter.{undecoded_input}
use Rattle.percent_encoding.specs.Percent.{percent_decode}
use Rattle.odb_names.specs.Segments.{HasNoEscape}
use Rattle.odb_names.proofs.OneSegment.{same_last}
use Rattle.odb_names.proofs.url.is_nested_batch.Goals as goal

pub returns-then-not-may_be_batch-clause-nested : goal.returns-then-not-may_be_batch-clause-nested
returns-then-not-may_be_batch-clause-nested c = (
  search rules,
  λ nested.
      let same = same_last (rw c.as_bytes-2.ensures.value at c.last_segment-segment.ensures) nested.last in
      let may = c.may_be_batch.ensures (ap percent_decode same ∙ nested.named) in
      search rules,
)

pub returns-clause-nested : goal.returns-clause-nested
returns-clause-nested c = (search rules, λ nested. let same = same_last (rw c.as_bytes-2.ensures.value at c.last_segment-segment.ensures) nested.last in search rules)

pub returns-in_err-segment-clause-memory : goal.returns-in_err-segment-clause-memory
returns-in_err-segment-clause-memory c = λ segment last plain.
    let same = same_last last (rw c.as_bytes-2.ensures.value at c.last_segment-segment.ensures) in
    let none : HasNoEscape c.last_segment-segment.result.now = subst HasNoEscape same plain in
    let kept : HasNoEscape (undecoded_input c.percent_decode.result) = rw c.percent_decode.ensures.input none in
    absurd (c.in_err-segment.ensures.borrows kept)
