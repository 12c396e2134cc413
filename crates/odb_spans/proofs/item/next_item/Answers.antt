use Rattle.odb_spans.proofs.ItemLemmas.{next-item}
use Rattle.odb_spans.proofs.MemberLemmas.{no-item}
use Rattle.odb_spans.proofs.item.next_item.Goals as goal

pub returns-in-None : goal.returns-in-None
returns-in-None c js ts has = no-item c.args.document.now c.args.at js ts has c.in-None.ensures

pub returns-in-Some : goal.returns-in-Some
returns-in-Some c =
    let steps = c.in-Some.ensures in
    let end = c.value_end in
    (steps.0, end.ensures.some steps.1, end.ensures.within, λ js ts has. next-item c.args.document.now c.args.at c.in-Some.start end.result js ts has steps end.ensures.extent (end.ensures.some steps.1) end.ensures.within end.ensures.boundary)
