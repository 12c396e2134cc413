use Rattle.std.proofs.Common.{◌<◌, arith, subst, Some, set, List}
use Rattle.odb_dense.specs.declared.worklist.Mark.{Mark}
use Rattle.odb_dense.specs.declared.worklist.Mark.TheVariants.{Visited}
use Rattle.odb_dense.specs.Marks.{Takes}
use Rattle.odb_dense.proofs.QueuedLemmas.{first_within, queued_less, takes_first}
use Rattle.odb_dense.proofs.worklist.Worklist.take.Goals as goal

pub index_mut-requires : goal.index_mut-requires
index_mut-requires c =
    let w = c.self.inside in
    let order = c.self.invariant.order in
    let some : w.head < w.tail = omega arith in
    let within = first_within w.marks.items w.queue.items w.head w.tail c.index-u.result.now c.self.invariant some c.index-u.ensures in
    omega (arith, within, w.marks.ok)

pub invariant_of-self : goal.invariant_of-self
invariant_of-self c =
    let w = c.self.inside in
    let order = c.self.invariant.order in
    let some : w.head < w.tail = omega arith in
    queued_less w.marks.items w.queue.items w.head w.tail c.index-u.result.now c.self.invariant some c.index-u.ensures

pub returns : goal.returns
returns c =
    let w = c.self.inside in
    let order = c.self.invariant.order in
    let some : w.head < w.tail = omega arith in
    subst (λ (before : List Mark). Takes before (Some c.index-u.result.now) (set w.marks.items c.index-u.result.now Visited)) c.self.view_is
    (takes_first w.marks.items w.queue.items w.head w.tail c.index-u.result.now c.self.invariant some c.index-u.ensures)
