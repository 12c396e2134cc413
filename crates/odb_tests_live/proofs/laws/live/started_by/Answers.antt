use Rattle.std.proofs.Common.{rules, ◌≡◌, length, slice_get, Some, string_bytes, subst}
use Rattle.odb_doc.specs.recorded.EventLists.{entries}
use Rattle.odb_doc.specs.recorded.Events.{event_value}
use Rattle.odb_doc.specs.recorded.Events as named
use Rattle.odb_check.specs.Plans.{plan_records}
use Rattle.odb_check.specs.Units.{position_of}
use Rattle.odb_tests_live.proofs.LawLemmas.{only, starts_one}
use Rattle.odb_tests_live.proofs.laws.live.started_by.Goals as goal

pub returns-in-Start : goal.returns-in-Start
returns-in-Start c =
    let rs = plan_records c.args.plan.now in
    let events = entries c.args.found.now in
    let id = string_bytes c.in-Start.id in
    let one : length events ≡ 1 = search rules in
    let first : slice_get events 0 ≡ Some (named.Start id) = subst (λ event. slice_get events 0 ≡ Some (event_value event)) c.in-Start.is c.entry.ensures.value in
    let at : c.position_of.result ≡ position_of rs id = search rules in
    starts_one rs events id (only events (named.Start id) one first) c.every_plan.ensures.positions c.position_of.result at
