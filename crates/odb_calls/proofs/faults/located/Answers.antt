-- The faults one after another.
use Rattle.std.proofs.Common.{◌∙◌, ap, arith, string_bytes}
use Rattle.std.proofs.lemmas.Slice.Zip.{AllZip-long}
use Rattle.odb_doc.specs.declared.refusal.Refusal.{Refusal}
use Rattle.odb_spans.specs.Positions.{Stands}
use Rattle.odb_calls.specs.Places.{position_in}
use Rattle.odb_calls.proofs.FaultLemmas.{faults-next}
use Rattle.odb_calls.proofs.faults.located.Goals as goal

pub index-requires : goal.index-requires
index-requires c =
    let long = AllZip-long (λ (refusal : Refusal). Stands c.args.document.now refusal.place) c.args.refusals.now c.in_ok-positions.positions.items c.in_ok-positions.ensures.stand in
    omega (arith, long, c.loop-at-test.true, c.in_ok-positions.positions.ok.0)

pub loop-at-preserved : goal.loop-at-preserved
loop-at-preserved c =
    faults-next c.args.document.now (string_bytes c.loop-at.text) (string_bytes c.push_fault.new.text) c.args.refusals.now c.in_ok-positions.positions.items c.loop-at.at _ _ c.loop-at.faults.items _ c.in_ok-push_fault.field-0 c.loop-at-test.true
    c.in_ok-positions.ensures.stand c.loop-at.invariant c.in_ok-push_fault.ensures.line c.in_ok-push_fault.ensures.words (c.in_ok-push_fault.ensures.position ∙ ap position_in c.index.ensures) c.in_ok-push.ensures.items
