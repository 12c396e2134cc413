use Rattle.std.proofs.Common.{◌∙◌, ap, arith}
use Rattle.std.proofs.lemmas.List.{take_all}
use Rattle.odb_check.specs.Plans.{plan_records}
use Rattle.odb_live.specs.LabelTables.{values_of}
use Rattle.odb_reply.specs.Responses.{labels_of}
use Rattle.odb_live.proofs.LabelLemmas.{labels-push}
use Rattle.odb_live.proofs.run.labels.labels_in.Goals as goal

pub loop-i-preserved : goal.loop-i-preserved
loop-i-preserved c =
    ap values_of c.in_ok-push.ensures.items ∙ labels-push (plan_records c.args.plan.now) _ c.loop-i.i _ _ c.loop-i.invariant c.request.ensures.value c.in_ok-of.ensures

pub returns : goal.returns
returns c = c.loop-i.invariant ∙ ap labels_of (take_all c.loop-i.i (plan_records c.args.plan.now) (omega (arith, c.loop-i-test.false, c.len-i-end.ensures.count)))
