use Rattle.std.proofs.Common.{◌≡◌, ◌∙◌, ◌<◌, ◌+◌, ◌++◌, ◌∷◌, [], List, Some, option_map, ap, sym, refl, arith, length, take, slice_get}
use Rattle.std.proofs.lemmas.Bool.{true≢false, false≢true}
use Rattle.std.proofs.lemmas.List.{take_more}
use Rattle.std.proofs.lemmas.Option.{same_Some, slice_get-map, slice_get_read}
use Rattle.odb_doc.specs.batch.Records.{record_of}
use Rattle.odb_check.specs.Plans.{plan_records}
use Rattle.odb_live.specs.declared.run.labels.OwnedLabel.{OwnedLabel}
use Rattle.odb_live.specs.LabelTables.{owned_value, values_of}
use Rattle.odb_reply.specs.Responses.{LabelValue, label_of, labels_of}
use Rattle.odb_live.proofs.LabelLemmas.{labels-push}
use Rattle.odb_live.proofs.run.labels.are_labels_of.Goals as goal

pub loop-i-preserved : goal.loop-i-preserved
loop-i-preserved c =
    let rs = plan_records c.args.plan.now in
    let labels = c.args.labels.now in
    let i = c.loop-i.i in
    let label = c.index-labels-i.result in
    let within : i < length labels = omega (arith, c.loop-i-test.true, c.if-labels-len.false, c.len.ensures.count, c.len-i-end.ensures.count) in
    let taken : take (i + 1) labels ≡ take i labels ++ label ∷ [] = take_more labels i label within ∙ ap (λ (x : OwnedLabel). take i labels ++ x ∷ []) (sym c.index-labels-i.is) in
    ap values_of taken ∙ labels-push rs (take i labels) i label _ c.loop-i.invariant c.request.ensures.value (c.is_of.ensures.0 c.if-not-is_of.false)

pub returns-then-not-is_of : goal.returns-then-not-is_of
returns-then-not-is_of c =
    let rs = plan_records c.args.plan.now in
    let labels = c.args.labels.now in
    let i = c.loop-i.i in
    let label = c.index-labels-i.result in
    let within : i < length labels = omega (arith, c.loop-i-test.true, c.if-labels-len.false, c.len.ensures.count, c.len-i-end.ensures.count) in
    let got : slice_get (values_of labels) i ≡ Some (owned_value label) = slice_get-map owned_value labels i ∙ ap (option_map owned_value) (slice_get_read labels (length labels) i label refl within c.index-labels-i.is) in
    let there : slice_get (labels_of rs) i ≡ Some (label_of (record_of c.request.result.now)) = slice_get-map label_of rs i ∙ ap (option_map label_of) c.request.ensures.value in (
      (λ no. absurd (false≢true no)),
      (λ same. absurd (true≢false (sym (c.is_of.ensures.1 (same_Some _ _ (sym got ∙ ap (λ (ls : List LabelValue). slice_get ls i) same ∙ there))) ∙ c.if-not-is_of.true))),
    )
