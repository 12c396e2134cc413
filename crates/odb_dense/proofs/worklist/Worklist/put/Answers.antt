use Rattle.std.proofs.Common.{◌<◌, ◌∙◌, sym, subst, arith, length, List}
use Rattle.std.proofs.lemmas.List.{get_or_read}
use Rattle.odb_dense.specs.declared.worklist.Mark.{Mark}
use Rattle.odb_dense.specs.declared.worklist.Mark.TheVariants.{Unvisited}
use Rattle.odb_dense.proofs.QueuedLemmas.{has_room, queued_more}
use Rattle.odb_dense.proofs.worklist.Worklist.put.Goals as goal

pub index_mut-requires-in-Unvisited : goal.index_mut-requires-in-Unvisited
index_mut-requires-in-Unvisited c =
    let marks = c.self.inside.marks.items in
    let within : c.args.u < length marks = subst (λ (xs : List Mark). c.args.u < length xs) (sym c.self.view_is) c.requires in
    let more = has_room marks c.self.inside.queue.items c.self.inside.head c.self.inside.tail c.args.u c.self.invariant within (sym (get_or_read marks c.args.u c.index.result.now within c.index.ensures Unvisited) ∙ c.in-Unvisited.is) in
    omega (arith, more, c.self.inside.queue.ok)

pub invariant_of-self : goal.invariant_of-self
invariant_of-self c =
    let marks = c.self.inside.marks.items in
    let within : c.args.u < length marks = subst (λ (xs : List Mark). c.args.u < length xs) (sym c.self.view_is) c.requires in
    queued_more marks c.self.inside.queue.items c.self.inside.head c.self.inside.tail c.args.u c.self.invariant within (sym (get_or_read marks c.args.u c.index.result.now within c.index.ensures Unvisited) ∙ c.in-Unvisited.is)
