use Rattle.std.proofs.Common.{◌≡◌, ◌∙◌, length, sym, ap, subst, unwrap_or}
use Rattle.serde_json.specs.Data.{no_items}
use Rattle.serde_json.specs.Find.{as_array}
use Rattle.serde_json.specs.Events.{items_len}
use Rattle.serde_json.specs.View.{view}
use Rattle.serde_json.proofs.Views.{items_len-items_view, view-Array}
use Rattle.odb_spans.specs.Positions as spans
use Rattle.odb_engine.proofs.lines.task.pair_of.Goals as goal

pub returns-then-len-ne2-clause-none : goal.returns-then-len-ne2-clause-none
returns-then-len-ne2-clause-none c = λ _ first second is.
    let values = c.in-Array.values in
    let pair = subst (λ d. d ≡ spans.pair first second) (view-Array values) (subst (λ v. view v ≡ spans.pair first second) c.in-Array.is is) in
    let two : length values.items ≡ 2 = sym (items_len-items_view values.items) ∙ ap (λ d. items_len (unwrap_or (as_array d) no_items)) pair in
    c.if-len-ne2.true (c.len.ensures ∙ values.ok.0 ∙ two)
