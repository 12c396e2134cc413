use Rattle.std.proofs.Common.{ap, map, refl, subst, sym}
use Rattle.std.proofs.lemmas.Result.{IfOk-weaker}
use Rattle.serde_json.specs.View.{view}
use Rattle.odb_doc.specs.Refusals.{printed}
use Rattle.odb_engine.specs.AllFaults.{AreFaultsIn, AreFaultsOf}
use Rattle.odb_engine.proofs.AllFaultLemmas.{faults-inside, halted-of}
use Rattle.odb_engine.proofs.tasks.all_faults.faults_in.Goals as goal

pub returns-in-Err-batch_in : goal.returns-in-Err-batch_in
returns-in-Err-batch_in c =
    let value = view c.in-Ok.value in
    let bytes = c.args.document.now in
    let listed = map printed c.batch_in.new.faults.items in
    IfOk-weaker c.list_of-in-Err-batch_in.result _ _
    (λ found is. subst (AreFaultsIn bytes) (sym (ap (λ v. map printed v.items) is.1)) (faults-inside bytes value listed c.in-Ok.ensures.value (halted-of (AreFaultsOf value listed) c.in-Err-batch_in.halt is.0 (c.in-Err-batch_in.ensures.listed refl))))
    c.list_of-in-Err-batch_in.ensures
