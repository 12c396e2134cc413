use Rattle.std.proofs.Common.{◌<◌, length, arith}
use Rattle.std.proofs.lemmas.List.{length-map}
use Rattle.odb_doc.specs.recorded.Events.{event_value}
use Rattle.odb_doc.proofs.RequestLemmas.{get_or-view}
use Rattle.odb_doc.proofs.recorded.events.Events.entry.Goals as goal

pub returns-clause-well_formed : goal.returns-clause-well_formed
returns-clause-well_formed c =
    let kept = c.args.self.now.entries.items in
    let event = c.index.result.now in
    let within : c.args.k < length kept = omega (arith, length-map kept event_value) in
    let here = c.args.self.now.well_formed c.args.k (event_value event) c.requires in
    rw (get_or-view event_value kept c.args.k event within c.index.ensures) at here
