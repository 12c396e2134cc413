use Rattle.std.proofs.Common.{◌≡◌, ◌∙◌, false, [], List, Option, IfSome, length, map, rules, subst, sym}
use Rattle.odb_doc.specs.batch.Records.{Record}
use Rattle.odb_doc.specs.recorded.EventLists.{entries}
use Rattle.odb_sched.specs.run.LiveEvents.{IsLiveRun, Single, live_state}
use Rattle.odb_sched.specs.run.Steps.{is_finished}
use Rattle.odb_engine.specs.Cascade.{Accepts}
use Rattle.odb_live.specs.LiveParts.{IsPartIn}
use Rattle.odb_live.specs.declared.run.parts.Part.{Part}
use Rattle.odb_live.proofs.OpenedLemmas.{idle-first, none-listed, opened-first, same-events}
use Rattle.odb_tests_live.proofs.laws.parts.first_part.Goals as goal

pub returns-in-Ok-Some : goal.returns-in-Ok-Some
returns-in-Ok-Some c =
    let live = c.args.live.now in
    let policy = c.args.policy in
    let events = c.args.events.now in
    let opens = c.requires in
    let batch = opens.holds.batch in
    let opened = opens.holds.holds.1 in
    let found = entries c.in_ok-found.found in
    let empty : length found ≡ 0 = search rules in
    let unfinished : is_finished live.run ≡ false = search rules in
    let none : opened.after.named ≡ [] = same-events c.one_history.ensures.events events opened.after.named found opened.after.named_in c.in_ok-found.ensures ∙ none-listed found empty in
    let idle = idle-first policy batch live (length batch) (opened-first policy batch events live opened none) opened.out in
    let runs = c.every_live_run.ensures.recorded batch policy opened.after.events opened.after.may_come in
    let part : IsPartIn live c.args.batch.now c.args.limit c.in-Ok-Some.part = subst (λ (found : Option Part). IfSome found (IsPartIn live c.args.batch.now c.args.limit)) c.in-Ok-Some.field-0-is c.in-Ok-Some.ensures.part in
    let taken = map Single opened.after.events in
    let so : Accepts c.args.batch.now (λ (requests : List Record). IsLiveRun requests policy taken × (live.run ≡ live_state requests policy taken)) = record {
      value = opens.value;
      document = opens.document;
      holds = record { batch = batch; shaped = opens.holds.shaped; is_batch = opens.holds.is_batch; holds = (opens.holds.holds.0, (runs.0, opened.after.state ∙ sym runs.1)) };
    } in
    c.every_part.ensures.gives policy taken c.args.batch.now live c.args.limit c.in-Ok-Some.part so unfinished idle part
