use Rattle.std.proofs.Common.{◌∙◌, sym}
use Rattle.odb_spans.proofs.WalkLemmas.{faces-none, close-kind, steps-out, steps-on}
use Rattle.odb_spans.proofs.walk.next.Goals as goal

pub returns-in_default : goal.returns-in_default
returns-in_default c q t ts inside good e = faces-none c.args.text.now c.past_separator-first.result t ts c.in_default.ensures (c.past_separator-first.ensures.faces q t ts inside good e)

pub returns-then-closes : goal.returns-then-closes
returns-then-closes c q t ts inside good e =
    let first = c.past_separator-first in
    let kind = c.in-Some in
    steps-out c.args.text.now first.result kind.ensures.0 t ts good (close-kind kind.kind _ (sym c.closes.ensures ∙ c.if-closes.true) kind.ensures.1) (first.ensures.faces q t ts inside good e)

pub returns-else-closes : goal.returns-else-closes
returns-else-closes c =
    let first = c.past_separator-first in
    let kind = c.in-Some in
    let here = kind.ensures.0 in (
      first.ensures.after,
      here,
      first.ensures.solid,
      first.ensures.boundary,
      λ q t ts inside good e. steps-on c.args.text.now first.result here t ts good kind.kind kind.ensures.1 (sym c.closes.ensures ∙ c.if-closes.false) (first.ensures.solid here) (first.ensures.faces q t ts inside good e),
      first.ensures.cut,
      first.ensures.clears,
    )
