use Rattle.std.proofs.Common.{◌≡◌, ◌++◌, [], Some, codes, refl, subst, sym, arith}
use Rattle.serde_json.specs.Read.{read}
use Rattle.odb_check.specs.Laws.{HasPositions}
use Rattle.odb_check.specs.PlanGraph.{IsPlanGraphOf}
use Rattle.odb_sched.specs.run.State.{State}
use Rattle.odb_reply.specs.Fits.{ListsFit}
use Rattle.odb_reply.specs.OnePerId.{HasOnePerId}
use Rattle.odb_reply.specs.Readable.{AnswersBy, IsReadable}
use Rattle.odb_reply.specs.ResponseDocuments.{IsResponseDocument}
use Rattle.odb_reply.specs.Responses.{response_text, response_value}
use Rattle.odb_reply.proofs.AnsweredLemmas.{table-texted}
use Rattle.odb_reply.proofs.DoneLemmas.{labels_count}
use Rattle.odb_reply.proofs.IdLemmas.{one_position}
use Rattle.odb_reply.proofs.laws.every_response.Goals as goal

pub every_labeled-requires-clause-labels : goal.every_labeled-requires-clause-labels
every_labeled-requires-clause-labels c = labels_count c.args.done.now c.run.result.now _ c.run.ensures.state c.plan-2.ensures.plan c.plan-2.ensures.size

pub returns : goal.returns
returns c =
    let state = c.args.done.now in
    let run = c.run.ensures.state in
    let laws = rw c.plan-2.ensures.plan at c.every_labeled.ensures in
    let positions : HasPositions state.requests = rw (← c.plan.ensures.plan) c.every_plan.ensures.positions in
    let same : IsPlanGraphOf state.requests state.plan_graph = rw (← c.plan.ensures.plan_graph, ← c.plan.ensures.plan) c.every_plan.ensures.plan_graph in
    record {
      one_per_id = subst (λ (s : State). HasOnePerId s.requests (response_value s)) run (laws.one_per_id state.requests refl positions);
      fits = subst (λ (s : State). ListsFit s.requests (response_value s)) run (laws.fits state.requests refl positions (subst (λ (s : State). IsPlanGraphOf state.requests s.plan_graph) (sym run) same));
      table = λ entries places statuses says table i within. sym (table-texted [] state (one_position state.requests positions) entries says places statuses table i (omega (arith, within, same.size)));
      document = subst (λ (s : State). IsResponseDocument (response_value s)) run laws.document;
      reads_back = subst (λ (s : State). AnswersBy IsReadable s → read (response_text s) ≡ Some (response_value s)) run laws.reads_back;
      line = subst (λ (s : State). AnswersBy IsReadable s → read (response_text s ++ codes "\n") ≡ Some (response_value s)) run laws.line;
    }
