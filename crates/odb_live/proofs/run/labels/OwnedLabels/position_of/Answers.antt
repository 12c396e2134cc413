use Rattle.std.proofs.Common.{◌∙◌, ap, List}
use Rattle.odb_live.specs.Labels.{position_of}
use Rattle.odb_reply.specs.Responses.{LabelValue}
use Rattle.odb_live.proofs.LabelLemmas.{looked-up}
use Rattle.odb_live.proofs.run.labels.OwnedLabels.position_of.Goals as goal

pub returns : goal.returns
returns c =
    let kept = c.self.inside in
    let table = c.self.invariant in
    let found = rw c.deref.ensures.value at c.search.ensures.found in
    let among = rw c.deref-2.ensures.value at c.search.ensures.among in
    let none = rw (c.deref.ensures.value, c.deref-2.ensures.value) at c.search.ensures.none in
    looked-up kept.labels.items c.args.id.now (table.apart c.args.id.now) kept.by_id.items table.all table.within c.search.result found among none ∙ ap (λ (ls : List LabelValue). position_of ls c.args.id.now) c.self.view_is
