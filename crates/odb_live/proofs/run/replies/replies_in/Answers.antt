use Rattle.std.proofs.Common.{All, length, sym, subst, codes}
use Rattle.std.specs.Prelude.{slice_index}
use Rattle.serde_json.specs.View.{view}
use Rattle.odb_check.specs.Plans.{plan_records}
use Rattle.odb_reply.specs.Fits.{places, statuses}
use Rattle.odb_reply.specs.ResponseDocuments.{responses_in}
use Rattle.odb_send.specs.declared.responses.ResponseParts.{ResponseParts}
use Rattle.odb_live.specs.Replies.{LiesIn, reply_at}
use Rattle.odb_live.proofs.ReplyLemmas.{all-below, spans-within}
use Rattle.odb_live.proofs.run.replies.replies_in.Goals as goal

pub returns-clause-replies : goal.returns-clause-replies
returns-clause-replies c = record {
  value = view c.in_ok-value.value;
  is = c.in_ok-value.ensures.value;
  places = places c.in_ok-table.table;
  statuses = statuses c.in_ok-table.table;
  table = c.in_ok-table.ensures.table;
  entries = c.in_ok-found.ensures.found.0;
  found = c.in_ok-found.found;
  responses = c.in_ok-found.ensures.found.1;
  are = c.in_ok-made.ensures;
}

pub returns-clause-within : goal.returns-clause-within
returns-clause-within c =
    let document = c.args.document.now in
    let found = c.in_ok-found.found in
    let are = c.in_ok-found.ensures.found.1 in
    let ds = responses_in (view c.in_ok-value.value) in
    subst (All (LiesIn document)) (sym c.in_ok-made.ensures) (all-below (LiesIn document) (length (plan_records c.args.plan.now)) (reply_at found c.args.positions.now (places c.in_ok-table.table) (statuses c.in_ok-table.table)) (λ k. record {
      headers = spans-within (codes "headers") document (λ (p : ResponseParts). p.headers) ds found.parts.items (slice_index (places c.in_ok-table.table) k) are.headers.values;
      body = spans-within (codes "body") document (λ (p : ResponseParts). p.body) ds found.parts.items (slice_index (places c.in_ok-table.table) k) are.bodies.values;
    }))
