use Rattle.std.proofs.Common.{arith}
use Rattle.std.proofs.lemmas.Str.{IsCharBoundary-start}
use Rattle.odb_spans.proofs.CutLemmas.{cut-start}
use Rattle.odb_spans.proofs.walk.value_start.Goals as goal

pub returns : goal.returns
returns c =
    let text = c.args.text.now in
    let past = c.past_blanks.ensures in
    record { within = past.within; same = past.same; solid = past.solid; boundary = λ utf8. past.boundary utf8 (IsCharBoundary-start text utf8); cut = past.cut (cut-start text); blanks = λ k before. past.blanks k (omega arith) before }
