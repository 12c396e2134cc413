use Rattle.std.proofs.Common.{◌≡◌, List, [], length, sym, subst, rules}
use Rattle.std.proofs.lemmas.List.{nil_from_length}
use Rattle.std.proofs.lemmas.Result.{IfOk-weaker}
use Rattle.serde_json.specs.Data.{Data}
use Rattle.serde_json.specs.View.{view}
use Rattle.odb_doc.specs.ListsBelow.{IsRequestFault, IsWholeFault}
use Rattle.odb_doc.specs.AllFaults.{ListsAll}
use Rattle.odb_doc.specs.batch.LeastFault.{IsBatchObject}
use Rattle.odb_doc.specs.batch.ShapeFaults.{shape_place}
use Rattle.odb_doc.proofs.ShapeFaultLemmas.{whole_all, whole_none, requests_all, shape_none, shape_first}
use Rattle.odb_doc.proofs.batch.all_faults.shape_faults.Goals as goal

pub returns-then-not-is_empty-clause-all : goal.returns-then-not-is_empty-clause-all
returns-then-not-is_empty-clause-all c =
    let some : ¬ (c.in_ok-faults.faults.items ≡ []) = search rules in
    whole_all (view c.args.document.now) c.in_ok-faults.faults.items some c.in_ok-faults.ensures

pub returns-then-not-is_empty-clause-none : goal.returns-then-not-is_empty-clause-none
returns-then-not-is_empty-clause-none c =
    let some : ¬ (c.in_ok-faults.faults.items ≡ []) = search rules in
    shape_none (view c.args.document.now) c.in_ok-faults.faults.items (whole_all (view c.args.document.now) c.in_ok-faults.faults.items some c.in_ok-faults.ensures)

pub returns-then-not-is_empty-clause-first : goal.returns-then-not-is_empty-clause-first
returns-then-not-is_empty-clause-first c =
    let some : ¬ (c.in_ok-faults.faults.items ≡ []) = search rules in
    shape_first (view c.args.document.now) c.in_ok-faults.faults.items (whole_all (view c.args.document.now) c.in_ok-faults.faults.items some c.in_ok-faults.ensures)

pub returns-clause-all : goal.returns-clause-all
returns-clause-all c =
    let d = view c.args.document.now in
    let long : length c.in_ok-faults.faults.items ≡ 0 = search rules in
    let empty : c.in_ok-faults.faults.items ≡ [] = nil_from_length c.in_ok-faults.faults.items long in
    let whole : IsBatchObject d = whole_none d (subst (ListsAll shape_place (IsWholeFault d)) empty c.in_ok-faults.ensures) in
    IfOk-weaker c.request_faults.result _ _
    (λ listed is. requests_all d listed.items whole (subst (λ (ds : List Data). ListsAll shape_place (IsRequestFault ds) listed.items) (sym c.elements_in.ensures) is)) c.request_faults.ensures

pub returns-clause-none : goal.returns-clause-none
returns-clause-none c =
    let d = view c.args.document.now in
    let long : length c.in_ok-faults.faults.items ≡ 0 = search rules in
    let empty : c.in_ok-faults.faults.items ≡ [] = nil_from_length c.in_ok-faults.faults.items long in
    let whole : IsBatchObject d = whole_none d (subst (ListsAll shape_place (IsWholeFault d)) empty c.in_ok-faults.ensures) in
    IfOk-weaker c.request_faults.result _ _
    (λ listed is. shape_none d listed.items (requests_all d listed.items whole (subst (λ (ds : List Data). ListsAll shape_place (IsRequestFault ds) listed.items) (sym c.elements_in.ensures) is))) c.request_faults.ensures

pub returns-clause-first : goal.returns-clause-first
returns-clause-first c =
    let d = view c.args.document.now in
    let long : length c.in_ok-faults.faults.items ≡ 0 = search rules in
    let empty : c.in_ok-faults.faults.items ≡ [] = nil_from_length c.in_ok-faults.faults.items long in
    let whole : IsBatchObject d = whole_none d (subst (ListsAll shape_place (IsWholeFault d)) empty c.in_ok-faults.ensures) in
    IfOk-weaker c.request_faults.result _ _
    (λ listed is. shape_first d listed.items (requests_all d listed.items whole (subst (λ (ds : List Data). ListsAll shape_place (IsRequestFault ds) listed.items) (sym c.elements_in.ensures) is))) c.request_faults.ensures
