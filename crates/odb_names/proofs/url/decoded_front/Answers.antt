-- Only an escape or a reference takes memory.
use Rattle.std.proofs.Common.{◌≡◌, List, ℕ, Result, Ok, Err, IsOk, OnErr, refl, subst}
use Rattle.percent_encoding.specs.Percent.{percent_decode}
use Rattle.percent_encoding.specs.Iter.{undecoded_input}
use Rattle.odb_names.specs.Fronts.{reference, IsFrontOf}
use Rattle.odb_names.specs.Segments.{HasNoEscape}
use Rattle.odb_names.proofs.OneRun.{same_run}
use Rattle.odb_names.proofs.url.decoded_front.Goals as goal

pub returns-in_err-segment-clause-memory : goal.returns-in_err-segment-clause-memory
returns-in_err-segment-clause-memory c = λ segment first plain other.
    let same = (same_run first.splits (rw c.as_bytes.ensures.value at c.first_segment.ensures.splits)).0 in
    let none : HasNoEscape c.first_segment.result.now = subst HasNoEscape same plain in
    let kept : HasNoEscape (undecoded_input c.percent_decode.result) = rw c.percent_decode.ensures.input none in
    absurd (c.in_err-segment.ensures.borrows kept)

ok_unless : {T E : Type 0} (r : Result T E) (P : Type 0) → OnErr r P → ¬ P → IsOk r
ok_unless (Ok x) P fails none = refl
ok_unless (Err e) P fails none = absurd (none fails)

pub returns-clause-memory : goal.returns-clause-memory
returns-clause-memory c = λ segment first plain other.
    let decoded : c.as_slice.result.now ≡ percent_decode c.first_segment.result.now = cc (c.in_ok-segment.ensures.value) in
    ok_unless c.of_segment.result _ c.of_segment.ensures.memory (λ found. other found.0 record {
      segment = c.first_segment.result.now;
      first = rw c.as_bytes.ensures.value at c.first_segment.ensures;
      decoded = subst (λ (segment : List ℕ). IsFrontOf segment (reference found.0)) decoded found.1;
    })
