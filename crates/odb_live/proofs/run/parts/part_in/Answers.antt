-- The next part of a run.
use Rattle.std.proofs.Common.{◌≡◌, ◌∙◌, ◌<◌, List, All, IfErr, ap, length, map, subst, sym}
use Rattle.odb_check.specs.Firsts.{list_below}
use Rattle.odb_check.specs.Plans.{plan_records}
use Rattle.odb_check.proofs.BelowLemmas.{length-list_below}
use Rattle.odb_sched.specs.declared.states.RequestState.{RequestState}
use Rattle.odb_sched.specs.run.State.{size}
use Rattle.odb_send.specs.Answers.{answer_of, answers_in}
use Rattle.odb_send.specs.declared.answers.Recorded.{Recorded}
use Rattle.odb_send.specs.NextPart.{HasProgress}
use Rattle.odb_send.proofs.CutLemmas.{part_by, part_refuses_by}
use Rattle.odb_send.proofs.UrlLemmas.{SameAnswers, answers_count, listed_answers}
use Rattle.odb_live.specs.LiveParts.{LacksHeaders, answer, seen_at, states_of}
use Rattle.odb_engine.proofs.EngineLemmas.{exit-error}
use Rattle.odb_live.proofs.run.parts.part_in.Goals as goal

pub part_of-requires-clause-states : goal.part_of-requires-clause-states
part_of-requires-clause-states c =
    let run = c.args.run.now in
    ap (λ (xs : List RequestState). length xs) (c.deref.ensures.value ∙ c.in_ok-states.ensures) ∙ length-list_below (size run) (seen_at run c.args.out.now) ∙ c.requires.size

pub part_of-requires-clause-answers : goal.part_of-requires-clause-answers
part_of-requires-clause-answers c =
    let run = c.args.run.now in
    let rs = plan_records c.args.plan.now in
    let is : map answer_of c.in_ok-answers.answers.items ≡ list_below (length rs) (answer run) = c.in_ok-answers.ensures ∙ ap (λ n. list_below n (answer run)) c.requires.size in
    ap (λ (xs : List Recorded). length xs) c.deref-2.ensures.value ∙ answers_count rs c.in_ok-answers.answers.items (answer run) is

pub returns-in_err-part-clause-least : goal.returns-in_err-part-clause-least
returns-in_err-part-clause-least c =
    let run = c.args.run.now in
    let out = c.args.out.now in
    let rs = plan_records c.args.plan.now in
    let limit = c.args.limit in
    let fault = c.in_err-part.field-0.0 in
    let made : c.deref.result.now ≡ states_of run out = c.deref.ensures.value ∙ c.in_ok-states.ensures in
    let found = c.deref-2.result.now in
    let is : map answer_of found ≡ list_below (length rs) (answer run) = ap (map answer_of) c.deref-2.ensures.value ∙ c.in_ok-answers.ensures ∙ ap (λ n. list_below n (answer run)) c.requires.size in
    let agree : SameAnswers rs (answers_in found) (answer run) = listed_answers rs found (answer run) is in
    let least : LacksHeaders rs run out limit fault = λ done left fitting progress fits.
    part_refuses_by rs fitting (answers_in found) (answer run) fault agree (c.in_err-part.ensures.least done left fitting (subst (λ (xs : List RequestState). HasProgress rs xs done left) (sym made) progress) fits) in
    exit-error (λ r. IfErr r (LacksHeaders rs run out limit)) fault _ c.from_residual-in_err-part.ensures.1 least

pub returns-clause-within : goal.returns-clause-within
returns-clause-within c = subst (λ n. All (λ i. i < n) c.in_ok-positions.positions.items) (sym c.requires.size) c.in_ok-positions.ensures.within

pub returns-clause-part : goal.returns-clause-part
returns-clause-part c =
    let run = c.args.run.now in
    let out = c.args.out.now in
    let rs = plan_records c.args.plan.now in
    let made : c.deref.result.now ≡ states_of run out = c.deref.ensures.value ∙ c.in_ok-states.ensures in
    let found = c.deref-2.result.now in
    let is : map answer_of found ≡ list_below (length rs) (answer run) = ap (map answer_of) c.deref-2.ensures.value ∙ c.in_ok-answers.ensures ∙ ap (λ n. list_below n (answer run)) c.requires.size in
    let agree : SameAnswers rs (answers_in found) (answer run) = listed_answers rs found (answer run) is in
    let part = c.in_ok-part.part in
    let next = c.in_ok-part.ensures.part in
    record {
      rest = part;
      part_is = record {
        done = next.done;
        left = next.left;
        progress = subst (λ (xs : List RequestState). HasProgress rs xs next.done next.left) made next.progress;
        part_is = part_by rs next.done next.left c.args.limit (answers_in found) (answer run) part agree next.part_is;
      };
      text_is = c.in_ok-text.ensures;
      positions_are = c.in_ok-positions.ensures.positions;
    }
