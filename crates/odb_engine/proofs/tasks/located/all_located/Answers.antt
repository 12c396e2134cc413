use Rattle.std.proofs.Common.{◌∙◌, ap, refl, arith}
use Rattle.std.proofs.lemmas.Slice.Zip.{AllZip-long}
use Rattle.odb_doc.specs.declared.refusal.Refusal.{Refusal}
use Rattle.odb_spans.specs.Positions.{Stands}
use Rattle.odb_engine.specs.Located.{numbered}
use Rattle.odb_engine.proofs.LocatedLemmas.{located-next, position-at}
use Rattle.odb_engine.proofs.tasks.located.all_located.Goals as goal

pub index-requires : goal.index-requires
index-requires c =
    let long = AllZip-long (λ (refusal : Refusal). Stands c.args.document.now refusal.place) c.args.refusals.now c.in_ok-positions.positions.items c.in_ok-positions.ensures.stand in
    omega (arith, long, c.loop-at-test.true, c.in_ok-positions.positions.ok.0)

pub loop-at-preserved : goal.loop-at-preserved
loop-at-preserved c =
    let document = c.args.document.now in
    let refusals = c.args.refusals.now in
    let at = c.loop-at.at in
    let positions = c.in_ok-positions.positions.items in
    let here = position-at c.args.number document refusals positions at _ _ _ c.in_ok-positions.ensures.stand c.loop-at-test.true (c.numbered.ensures ∙ ap (numbered c.args.number) c.index.ensures) in
    located-next c.args.number document refusals at _ c.loop-at.faults.items _ _ c.loop-at-test.true c.loop-at.invariant refl here c.in_ok-push.ensures.items
