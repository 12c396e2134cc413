use Rattle.std.proofs.Common.{arith}
use Rattle.odb_spans.proofs.WholeLemmas.{whole-lies}
use Rattle.odb_spans.proofs.locate.whole_span.Goals as goal

pub returns-clause-lies : goal.returns-clause-lies
returns-clause-lies c d is =
    let end = c.value_end.ensures in
    whole-lies c.args.document.now c.value_start-start.result c.value_end.result d is c.value_start-start.ensures end.extent end.within end.boundary

pub returns-clause-within : goal.returns-clause-within
returns-clause-within c =
    let end = c.value_end.ensures in
    (omega (arith, end.extent), end.within)
