use Rattle.odb_doc.specs.HeaderMaps.{HasUnordered}
use Rattle.odb_doc.proofs.LentLemmas.{twice_from_sorted}
use Rattle.odb_doc.proofs.batch.headers.in_order.Goals as goal

pub returns-clause-twice : goal.returns-clause-twice
returns-clause-twice c =
    let unordered : HasUnordered c.sort.new.headers.items = rw c.deref-2.ensures.value at c.are_ascending-2.ensures.some c.if-are_ascending-2.false in
    twice_from_sorted c.args.headers.items c.sort.new.headers.items c.sort.ensures.same c.sort.ensures.sorted unordered
