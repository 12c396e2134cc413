-- What the requests of a plan were answered.
use Rattle.std.proofs.Common.{◌≡◌, ◌∙◌, IfErr, IfSome, Option, Some, Vec, Global, ap, length, List, ℕ, subst}
use Rattle.std.proofs.lemmas.Slice.Zip.{AllZip-long}
use Rattle.odb_doc.specs.batch.Records.{Record}
use Rattle.odb_check.specs.Plans.{plan_records}
use Rattle.odb_engine.specs.Halts.{Halted}
use Rattle.odb_live.specs.Live.{Live}
use Rattle.odb_live.specs.Replies.{AreOut, IsLeastOfReplies, IsOutAt, RefusesReplies}
use Rattle.odb_engine.proofs.EngineLemmas.{exit-error, Halted-weaker}
use Rattle.odb_live.proofs.run.LiveRun.replies_on.Goals as goal

-- the positions that were found
are-out : (live : Live) (rs : List Record) (found : Option (Vec ℕ Global)) (positions : Vec ℕ Global) → found ≡ Some positions → IfSome found (λ positions. AreOut live rs positions.items) → AreOut live rs positions.items
are-out live rs found positions is out = subst (λ (it : Option (Vec ℕ Global)). IfSome it (λ positions. AreOut live rs positions.items)) is out

pub replies_in-requires : goal.replies_in-requires
replies_in-requires c =
    let rs = plan_records c.args.plan.now in
    let out = are-out c.args.self.now rs _ c.in-Some.positions c.in-Some.is c.in_ok-positions.ensures.some in
    ap (λ (xs : List ℕ). length xs) c.deref.ensures.value ∙ AllZip-long (λ (r : Record) (i : ℕ). IsOutAt c.args.self.now r.id i) rs c.in-Some.positions.items out.each

pub returns-in_err-made-clause-least : goal.returns-in_err-made-clause-least
returns-in_err-made-clause-least c =
    let live = c.args.self.now in
    let document = c.args.responses.now in
    let mode = c.args.mode in
    let rs = plan_records c.args.plan.now in
    let out = are-out live rs _ c.in-Some.positions c.in-Some.is c.in_ok-positions.ensures.some in
    exit-error (λ r. IfErr r (Halted (RefusesReplies live rs document mode))) _ _ c.from_residual-in_err-made.ensures.1
    (Halted-weaker (IsLeastOfReplies mode rs document) (RefusesReplies live rs document mode) (λ refusal is. ((_, out), is)) _ c.in_err-made.ensures.least)
