use Rattle.std.proofs.Common.{◌≡◌, ◌+◌, drop, get_or, sym, subst}
use Rattle.odb_spans.specs.Extents.{extent}
use Rattle.odb_spans.specs.States.{IsAfter, mode_of}
use Rattle.odb_spans.proofs.extent.State.passed.Goals as goal

pub returns-in-Text-clause-extent : goal.returns-in-Text-clause-extent
returns-in-Text-clause-extent c =
    let text = c.args.text.now in
    let end = c.plain_end.result in
    subst (λ mode. c.args.at + extent (mode_of mode) c.args.self.depth (drop c.args.at text) ≡ end + extent (mode_of mode) c.args.self.depth (drop end text)) (sym c.in-Text.is) (c.plain_end.ensures.extent c.args.self.depth)

pub returns-in-Text-clause-last : goal.returns-in-Text-clause-last
returns-in-Text-clause-last c before = subst (IsAfter (get_or c.args.text.now _ 0)) (sym c.in-Text.is) tt
