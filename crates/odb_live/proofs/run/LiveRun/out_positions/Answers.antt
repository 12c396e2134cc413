use Rattle.std.proofs.Common.{◌<◌, ℕ, length, arith, refl, sym, subst, ◌∙◌}
use Rattle.std.specs.List.{AllZip}
use Rattle.std.proofs.lemmas.Bool.{true≢false}
use Rattle.odb_doc.specs.batch.Records.{Record}
use Rattle.odb_check.specs.Plans.{plan_records}
use Rattle.odb_sched.specs.run.State.{is_running, phase_at, size}
use Rattle.odb_live.specs.Live.{Live}
use Rattle.odb_live.specs.Replies.{IsOutAt, MayTake}
use Rattle.odb_live.proofs.ReplyLemmas.{partner, some-listed}
use Rattle.odb_send.proofs.PairLemmas.{next_pair}
use Rattle.odb_live.proofs.run.LiveRun.out_positions.Goals as goal

pub returns-then-not-is_empty-clause-none : goal.returns-then-not-is_empty-clause-none
returns-then-not-is_empty-clause-none c =
    let run = c.self.inside.run in
    let more : 0 < length c.running.result.now = grind (arith, c.is_empty.ensures, c.if-not-is_empty.true) in
    let (i, within, runs) = some-listed (size run) (λ i. is_running (phase_at run i)) c.running.result.now c.running.ensures.listed more in
    λ none. subst (λ (live : Live). ¬ MayTake live (plan_records c.args.plan.now)) c.self.view_is (λ may. true≢false (sym runs ∙ may.1.none_runs i within))

pub returns-in-None-clause-none : goal.returns-in-None-clause-none
returns-in-None-clause-none c =
    let rs = plan_records c.args.plan.now in
    let R : Record → ℕ → Type 0 = λ r i. IsOutAt c.args.self.now r.id i in
    λ none may. let (i, out) = partner R rs may.0 c.loop-k.k _ may.1.each c.request.ensures.value in c.in-None.ensures.none refl i out

pub loop-k-preserved : goal.loop-k-preserved
loop-k-preserved c =
    let rs = plan_records c.args.plan.now in
    let R : Record → ℕ → Type 0 = λ r i. IsOutAt c.args.self.now r.id i in
    subst (AllZip R _) (sym c.in_ok-push-in-Some.ensures.items) (next_pair R R (λ r i out. out) rs c.loop-k.positions.items c.loop-k.k _ c.in-Some.i c.loop-k.invariant c.request.ensures.value c.in-Some.ensures.some)
