use Rattle.std.proofs.Common.{List, ap, subst}
use Rattle.std.proofs.lemmas.Result.{IfOk-weaker}
use Rattle.odb_doc.specs.batch.Batches.{records}
use Rattle.odb_doc.specs.batch.Records.{Record}
use Rattle.odb_check.specs.AllNameFaults.{AreNameFaults}
use Rattle.odb_check.proofs.PhaseLemmas.{name_none, name_first}
use Rattle.odb_check.proofs.all_faults.name_faults.Goals as goal

pub returns-clause-all : goal.returns-clause-all
returns-clause-all c = IfOk-weaker c.faults_in.result _ _ (λ listed is. subst (λ (rs : List Record). AreNameFaults rs listed.items) (ap records c.in_ok-tables.ensures.batch) is) c.faults_in.ensures

pub returns-clause-none : goal.returns-clause-none
returns-clause-none c = IfOk-weaker c.faults_in.result _ _ (λ listed is. name_none (records c.args.batch.now) listed.items (subst (λ (rs : List Record). AreNameFaults rs listed.items) (ap records c.in_ok-tables.ensures.batch) is)) c.faults_in.ensures

pub returns-clause-first : goal.returns-clause-first
returns-clause-first c = IfOk-weaker c.faults_in.result _ _ (λ listed is. name_first (records c.args.batch.now) listed.items (subst (λ (rs : List Record). AreNameFaults rs listed.items) (ap records c.in_ok-tables.ensures.batch) is)) c.faults_in.ensures
