use Rattle.std.proofs.Common.{◌≤◌, length, arith}
use Rattle.odb_doc.specs.Documents.{most_bytes}
use Rattle.odb_doc.proofs.document.parse.Goals as goal

pub returns-in-Ok-clause-ok : goal.returns-in-Ok-clause-ok
returns-in-Ok-clause-ok c =
    let short : length c.args.bytes.now ≤ most_bytes = omega arith in
    (short, c.in-Ok.ensures.ok)

pub returns-in-Err-clause-err : goal.returns-in-Err-clause-err
returns-in-Err-clause-err c = tt

pub returns-in-Err-clause-memory : goal.returns-in-Err-clause-memory
returns-in-Err-clause-memory c = λ is.
    let short : length c.args.bytes.now ≤ most_bytes = omega arith in
    (c.in-Err.ensures.memory (c.is_memory.ensures.0 c.if-is_memory.true), short)

pub returns-in-Err-2-clause-err : goal.returns-in-Err-2-clause-err
returns-in-Err-2-clause-err c =
    let short : length c.args.bytes.now ≤ most_bytes = omega arith in
    (short, λ d is. cc (c.in-Err.ensures.err (λ memory. cc (c.is_memory.ensures.1 memory, c.if-is_memory.false)) is.0, is.1))

pub returns-then-bytes-gt-MAX_DOCUMENT_BYTES-clause-memory : goal.returns-then-bytes-gt-MAX_DOCUMENT_BYTES-clause-memory
returns-then-bytes-gt-MAX_DOCUMENT_BYTES-clause-memory c = λ is. absurd (cc (is))
