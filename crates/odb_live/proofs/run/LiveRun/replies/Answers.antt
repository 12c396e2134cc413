-- What the requests of a part were answered, by the bytes of the part.
use Rattle.std.proofs.Common.{◌≡◌, All, ℕ, List, Option, None, Some, IfSome, Vec, Global, subst}
use Rattle.std.proofs.lemmas.Result.{IfOk-weaker}
use Rattle.odb_sched.specs.declared.policy.Mode.{Mode}
use Rattle.odb_live.specs.Live.{Live}
use Rattle.odb_live.specs.Planned.{AcceptsAs}
use Rattle.odb_live.specs.Replies.{AreFound, AreRepliesTo, LiesIn, TakesNone}
use Rattle.odb_live.specs.declared.run.replies.Reply.{Reply}
use Rattle.odb_live.proofs.run.LiveRun.replies.Goals as goal

module _ (live : Live) (part document : List ℕ) (mode : Mode) where
  abbrev Found : Option (Vec Reply Global) → Type 0
  Found found = AcceptsAs part (λ value batch. AreFound live batch document mode found)

  found-replies : (found : Option (Vec Reply Global)) → Found found → IfSome found (λ made. AreRepliesTo live part document mode made.items)
  found-replies None x = tt
  found-replies (Some made) x = record {
    value = x.value;
    document = x.document;
    holds = record { batch = x.holds.batch; shaped = x.holds.shaped; is_batch = x.holds.is_batch; holds = (x.holds.holds.0, x.holds.holds.1.0) };
  }

  found-within : (found : Option (Vec Reply Global)) → Found found → IfSome found (λ made. All (LiesIn document) made.items)
  found-within None x = tt
  found-within (Some made) x = x.holds.holds.1.1

  found-none : (found : Option (Vec Reply Global)) → Found found → found ≡ None → TakesNone live part
  found-none found x none = subst Found none x

pub returns-clause-replies : goal.returns-clause-replies
returns-clause-replies c = IfOk-weaker c.made_of.result _ _ (found-replies c.args.self.now c.args.part.now c.args.responses.now c.args.mode) c.made_of.ensures.made

pub returns-clause-within : goal.returns-clause-within
returns-clause-within c = IfOk-weaker c.made_of.result _ _ (found-within c.args.self.now c.args.part.now c.args.responses.now c.args.mode) c.made_of.ensures.made

pub returns-clause-other : goal.returns-clause-other
returns-clause-other c = IfOk-weaker c.made_of.result _ _ (found-none c.args.self.now c.args.part.now c.args.responses.now c.args.mode) c.made_of.ensures.made
