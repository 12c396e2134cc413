-- What holds of every part of a live run.
use Rattle.std.proofs.Common.{◌≡◌, ◌∙◌, List, ap, subst, sym}
use Rattle.odb_doc.specs.batch.Records.{Record}
use Rattle.odb_check.specs.PlanGraph.{IsPlan, IsPlanGraphOf}
use Rattle.odb_check.specs.Plans.{batch_plan_graph}
use Rattle.odb_sched.specs.run.Laws.{IsNeverStuck}
use Rattle.odb_sched.specs.run.LiveEvents.{IsLiveRun, first_live, live_state}
use Rattle.odb_sched.specs.run.State.{State}
use Rattle.odb_sched.proofs.LiveLemmas.{plan_graph-after_all_live}
use Rattle.odb_live.specs.LiveParts.{IsPart, MayBeParted}
use Rattle.odb_engine.proofs.LawLemmas.{AreFunctional, same_batch}
use Rattle.odb_live.proofs.LivePartLemmas.{idle-goes, marks-all, marks-stay, part-fresh, part-needs, part-whole}
use Rattle.odb_live.proofs.laws.parts.every_part.Goals as goal

pub returns-clause-apart : goal.returns-clause-apart
returns-clause-apart c = λ document batch run out limit part count is i has. part-fresh batch run out count document limit part is i has

pub returns-clause-given : goal.returns-clause-given
returns-clause-given c = marks-all

pub returns-clause-kept : goal.returns-clause-kept
returns-clause-kept c = marks-stay

pub returns-clause-needs : goal.returns-clause-needs
returns-clause-needs c = λ document batch run out limit part count good is. part-needs batch run out count document limit part is good

pub returns-clause-whole : goal.returns-clause-whole
returns-clause-whole c = λ document batch run out limit part count is. part-whole batch run out count document limit part is

pub returns-clause-goes_on : goal.returns-clause-goes_on
returns-clause-goes_on c = λ policy events document batch live limit part order names taken state unfinished idle short is.
    let graph : live.run.plan_graph ≡ batch_plan_graph batch = ap (λ (s : State). s.plan_graph) state ∙ plan_graph-after_all_live (first_live batch policy) events in
    let alive : IsNeverStuck live.run = subst IsNeverStuck (sym state) (c.every_live_run.ensures.kept batch policy events order names taken).never_stuck in
    idle-goes batch live document limit part (subst (IsPlanGraphOf batch) (sym graph) (c.every_batch.ensures.plan_graph batch)) (subst IsPlan (sym graph) order) alive unfinished idle short is

pub returns-clause-gives : goal.returns-clause-gives
returns-clause-gives c = λ policy events document live limit part runs unfinished idle is.
    let law : AreFunctional = record {
      one_shape = c.one_fault.ensures.one;
      no_shape = c.one_fault.ensures.none;
      one_batch = c.one_batch.ensures;
      one_name = c.one_fault-2.ensures.one;
      no_name = c.one_fault-2.ensures.none;
    } in
    let batch = is.holds.batch in
    let good = is.holds.holds.0 in
    let same : runs.holds.batch ≡ batch =
    same_batch law document (λ batch. IsLiveRun batch policy events × (live.run ≡ live_state batch policy events)) (λ batch. MayBeParted live batch limit × IsPart document batch live.run live.out limit part) runs is in
    let taken = subst (λ (requests : List Record). IsLiveRun requests policy events × (live.run ≡ live_state requests policy events)) same runs.holds.holds.1 in
    let order = c.every_batch.ensures.order is.value batch is.holds.shaped is.holds.is_batch good in
    returns-clause-goes_on c policy events document batch live limit part order (c.every_batch.ensures.names batch good) taken.0 taken.1 unfinished idle is.holds.holds.1.0.1 is.holds.holds.1.1
