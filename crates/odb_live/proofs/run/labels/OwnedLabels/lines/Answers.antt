use Rattle.std.proofs.Common.{◌∙◌, ◌++◌, ◌∷◌, [], ap, arith, string_bytes}
use Rattle.odb_check.specs.Texts.{newline}
use Rattle.odb_live.proofs.LabelLemmas.{lines-push}
use Rattle.odb_live.proofs.run.labels.OwnedLabels.lines.Goals as goal

pub loop-label-preserved : goal.loop-label-preserved
loop-label-preserved c =
    c.in_ok-push.ensures.bytes ∙ ap (λ bs. string_bytes c.push_str.new.self ++ bs) (c.in_ok-push.ensures.ascii (omega arith)) ∙ ap (λ bs. bs ++ newline ∷ []) (c.in_ok-push_str.ensures.bytes ∙ ap (λ bs. string_bytes c.loop-label.text ++ bs) c.deref.ensures)
    ∙ lines-push c.deref-label-items.result.now c.loop-label.label-index c.label-item.result _ c.loop-label-test.true c.label-item.is c.loop-label.invariant
