use Rattle.std.proofs.Common.{◌<◌, length, arith}
use Rattle.std.proofs.lemmas.List.{length-map}
use Rattle.odb_doc.specs.recorded.Outcomes.{recorded}
use Rattle.odb_doc.proofs.RequestLemmas.{get_or-view}
use Rattle.odb_doc.proofs.recorded.outcomes.Outcomes.entry.Goals as goal

pub returns-clause-well_formed : goal.returns-clause-well_formed
returns-clause-well_formed c =
    let kept = c.args.self.now.entries.items in
    let entry = c.index-entry.result.now in
    let within : c.args.k < length kept = omega (arith, length-map kept recorded) in
    let here = c.args.self.now.well_formed c.args.k (recorded entry) c.requires in
    let same = get_or-view recorded kept c.args.k entry within c.index-entry.ensures in
    rw c.as_str.ensures.value (rw same at here)
