use Rattle.std.proofs.Common.{◌∙◌, ap, map, sym, option_map}
use Rattle.odb_doc.specs.Refusals.{printed}
use Rattle.odb_engine.proofs.AllFaultLemmas.{no_row, rows-none, rows-some}
use Rattle.odb_engine.proofs.tasks.all_faults.refusals_of.Goals.{in-Some+in_ok-push, in_default}
use Rattle.odb_engine.proofs.tasks.all_faults.refusals_of.Goals as goal

pub loop-fault-preserved : goal.loop-fault-preserved
loop-fault-preserved g c =
    let row = g.F.Fault.row in
    let faults = c.args.faults.now in
    let k = c.loop-fault.fault-index in
    let x = c.fault-item.result in
    let found = c.loop-fault.found.items in
    elim c.match-refusal.branch [
      | in-Some+in_ok-push w ↦
          rows-some row faults k x found c.match-refusal.found.items w.in-Some.refusal c.loop-fault-test.true c.fault-item.is c.loop-fault.invariant (ap (option_map printed) (sym w.in-Some.is) ∙ c.refusal.ensures) (ap (λ v. v.items) w.found-is ∙ w.in_ok-push.ensures.items)
      | in_default w ↦
          ap (λ v. map printed v.items) w.found-is ∙ rows-none row faults k x found c.loop-fault-test.true c.fault-item.is c.loop-fault.invariant (no_row c.refusal.result (row x) w.in_default.not-Some c.refusal.ensures)
    ]
