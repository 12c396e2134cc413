use Rattle.std.proofs.Common.{◌≡◌, ◌∙◌, [], IfOk, ap, map, string_bytes, subst}
use Rattle.std.proofs.lemmas.List.{take_all}
use Rattle.odb_text.specs.Lines.{printed_at}
use Rattle.odb_engine.specs.Forms.{all_located_text}
use Rattle.odb_engine.proofs.AllFaultLemmas.{unlocated-next}
use Rattle.odb_engine.proofs.ending.faults_text.Goals as goal

pub loop-refusal-preserved : goal.loop-refusal-preserved
loop-refusal-preserved c = unlocated-next c.args.refusals.now c.loop-refusal.refusal-index _ c.loop-refusal.faults.items _ c.loop-refusal-test.true c.loop-refusal.invariant c.in_ok-push.ensures.items

pub returns : goal.returns
returns c =
    let all = rw (take_all c.loop-refusal.refusal-index c.args.refusals.now c.loop-refusal-test.false) at c.loop-refusal.invariant in
    subst (λ shown. IfOk c.all_located_text.result (λ text. string_bytes text ≡ all_located_text c.args.form [] shown)) (ap (map printed_at) c.deref.ensures.value ∙ all) c.all_located_text.ensures
