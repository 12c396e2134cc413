use Rattle.std.proofs.Common.{◌≡◌, ◌∙◌, ◌<◌, ◌≤◌, Some, length, map, ap, arith}
use Rattle.std.specs.Prelude.{slice_get}
use Rattle.std.proofs.lemmas.List.{length-map}
use Rattle.std.proofs.lemmas.Option.{slice_get-get_or}
use Rattle.serde_json.specs.View.{view}
use Rattle.odb_doc.proofs.RequestLemmas.{get_or-view}
use Rattle.odb_doc.proofs.ShapeFaultLemmas.{request_all}
use Rattle.odb_doc.proofs.batch.all_faults.request_faults.Goals as goal

pub loop-at-preserved : goal.loop-at-preserved
loop-at-preserved c =
    let vs = c.args.elements.now in
    let at = c.loop-at.at in
    let v = c.index-elements-at.result in
    let within : at < length (map view vs) = omega (arith, length-map vs view) in
    let there : slice_get (map view vs) at ≡ Some (view v) = slice_get-get_or (map view vs) at (view v) within ∙ ap Some (get_or-view view vs at v c.loop-at-test.true c.index-elements-at.is) in
    c.in_ok-push_faults.ensures (map view vs) there c.loop-at.invariant

pub returns : goal.returns
returns c =
    let vs = c.args.elements.now in
    let end : length (map view vs) ≤ c.loop-at.at = omega (arith, length-map vs view) in
    request_all (map view vs) c.loop-at.at c.loop-at.faults.items end c.loop-at.invariant
