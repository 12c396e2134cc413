-- The next part of a live run, by a plan.
use Rattle.std.proofs.Common.{◌≡◌, ◌∙◌, ap, length, Bool, List, IfErr, Some, subst, sym}
use Rattle.std.proofs.lemmas.Bool.{true≢false}
use Rattle.std.proofs.lemmas.List.{length-map}
use Rattle.odb_check.specs.Plans.{plan_records}
use Rattle.odb_send.specs.NextPart.{HasNoLonger}
use Rattle.odb_reply.specs.Responses.{LabelValue, label_of, labels_of}
use Rattle.odb_engine.specs.Halts.{Halted}
use Rattle.odb_live.specs.Live.{Live}
use Rattle.odb_live.specs.LiveRuns.{live_of}
use Rattle.odb_live.specs.LiveParts.{IsFoundPart, IsPart, LacksHeaders, MayBeParted, RefusesPart}
use Rattle.odb_engine.proofs.EngineLemmas.{at-exit, halted-by}
use Rattle.odb_live.proofs.run.LiveRun.part_on.Goals as goal

pub returns-then-not-are_of-clause-part : goal.returns-then-not-are_of-clause-part
returns-then-not-are_of-clause-part c =
    subst (λ (live : Live). ¬ MayBeParted live (plan_records c.args.plan.now) c.args.limit) c.self.view_is (λ may. true≢false (sym (c.are_of.ensures.1 may.0) ∙ c.if-not-are_of.true))

pub returns-then-not-fits_limit-clause-part : goal.returns-then-not-fits_limit-clause-part
returns-then-not-fits_limit-clause-part c =
    subst (λ (live : Live). ¬ MayBeParted live (plan_records c.args.plan.now) c.args.limit) c.self.view_is (λ may. true≢false (sym (c.fits_limit.ensures.1 may.1) ∙ c.if-not-fits_limit.true))

pub part_in-requires-clause-size : goal.part_in-requires-clause-size
part_in-requires-clause-size c =
    let rs = plan_records c.args.plan.now in
    let labels : c.self.inside.labels ≡ labels_of rs = c.are_of.ensures.0 c.if-not-are_of.false in
    sym c.self.invariant.each ∙ ap (λ (ls : List LabelValue). length ls) labels ∙ length-map rs label_of

pub part_in-requires-clause-out : goal.part_in-requires-clause-out
part_in-requires-clause-out c = ap (λ (out : List Bool). length out) c.deref.ensures.value ∙ c.self.invariant.marks

pub returns-in_err-part-clause-least : goal.returns-in_err-part-clause-least
returns-in_err-part-clause-least c =
    let rs = plan_records c.args.plan.now in
    let live = live_of c.self.inside in
    let limit = c.args.limit in
    let fault = c.in_err-part.field-0.0 in
    let labels : live.labels ≡ labels_of rs = c.are_of.ensures.0 c.if-not-are_of.false in
    let fits : HasNoLonger rs limit = c.fits_limit.ensures.0 c.if-not-fits_limit.false in
    let least : LacksHeaders rs live.run live.out limit fault = subst (λ (out : List Bool). LacksHeaders rs live.run out limit fault) c.deref.ensures.value c.in_err-part.ensures.least in
    at-exit (λ r. IfErr r (Halted (RefusesPart c.args.self.now rs limit))) _ _ c.from_residual.ensures.1
    (halted-by _ _ (λ refusal row. subst (λ (live : Live). RefusesPart live rs limit refusal) c.self.view_is (record { fault = fault; may = (labels, fits); lacks = least; is = row })))

pub returns-clause-part : goal.returns-clause-part
returns-clause-part c =
    let rs = plan_records c.args.plan.now in
    let live = live_of c.self.inside in
    let document = c.args.document.now in
    let limit = c.args.limit in
    let part = c.in_ok-part.part in
    let labels : live.labels ≡ labels_of rs = c.are_of.ensures.0 c.if-not-are_of.false in
    let fits : HasNoLonger rs limit = c.fits_limit.ensures.0 c.if-not-fits_limit.false in
    let is : IsPart document rs live.run live.out limit part = subst (λ (out : List Bool). IsPart document rs live.run out limit part) c.deref.ensures.value c.in_ok-part.ensures.part in
    subst (λ (live : Live). IsFoundPart live document rs limit (Some part)) c.self.view_is ((labels, fits), is, c.in_ok-part.ensures.within)
