use Rattle.std.proofs.Common.{◌≡◌, [], length, subst, rules}
use Rattle.std.proofs.lemmas.List.{nil_from_length}
use Rattle.std.proofs.lemmas.Result.{IfOk-weaker}
use Rattle.odb_doc.specs.AllFaults.{ListsAll}
use Rattle.odb_check.specs.AllNameFaults.{name_place}
use Rattle.odb_check.specs.PhaseFaults.{IsPhaseFault}
use Rattle.odb_check.specs.Requests.{requests}
use Rattle.odb_check.specs.Walks.{HasValidIds}
use Rattle.odb_check.proofs.PhaseLemmas.{ids_all, ids_none, dependencies_all}
use Rattle.odb_check.proofs.all_faults.faults_in.Goals as goal

pub returns-then-not-is_empty : goal.returns-then-not-is_empty
returns-then-not-is_empty c =
    let some : ¬ (c.in_ok-faults.faults.items ≡ []) = search rules in
    ids_all (requests c.args.tables.now) c.in_ok-faults.faults.items some c.in_ok-faults.ensures

pub dependency_faults-requires : goal.dependency_faults-requires
dependency_faults-requires c =
    let long : length c.in_ok-faults.faults.items ≡ 0 = search rules in
    let empty : c.in_ok-faults.faults.items ≡ [] = nil_from_length c.in_ok-faults.faults.items long in
    ids_none (requests c.args.tables.now) (subst (ListsAll name_place (IsPhaseFault 3 (requests c.args.tables.now))) empty c.in_ok-faults.ensures)

pub returns : goal.returns
returns c =
    let rs = requests c.args.tables.now in
    let long : length c.in_ok-faults.faults.items ≡ 0 = search rules in
    let empty : c.in_ok-faults.faults.items ≡ [] = nil_from_length c.in_ok-faults.faults.items long in
    let sound : HasValidIds rs = ids_none rs (subst (ListsAll name_place (IsPhaseFault 3 rs)) empty c.in_ok-faults.ensures) in
    IfOk-weaker c.dependency_faults.result _ _ (λ listed is. dependencies_all rs listed.items sound is) c.dependency_faults.ensures
