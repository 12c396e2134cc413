-- The next part of a live run, by the batch in a document.
use Rattle.std.proofs.Common.{◌≡◌, ◌<◌, All, ℕ, List, Option, None, Some, IfSome, inl, inr, subst}
use Rattle.std.proofs.lemmas.Result.{IfErr-weaker, IfOk-weaker}
use Rattle.odb_sched.specs.run.State.{size}
use Rattle.odb_doc.specs.Refusals.{Printed}
use Rattle.odb_engine.specs.Halts.{Halted}
use Rattle.odb_live.specs.Live.{Live}
use Rattle.odb_live.specs.LiveParts.{HasNoParts, IsFoundPart, IsLeastOfPart, IsPartIn, RefusesPart}
use Rattle.odb_live.specs.LiveParts.IsLeastOfPart.{OfBatch, OfHeaders}
use Rattle.odb_live.specs.Planned.{AcceptsAs, IsLeastOfMaking}
use Rattle.odb_live.specs.declared.run.parts.Part.{Part}
use Rattle.odb_engine.proofs.EngineLemmas.{Halted-weaker}
use Rattle.odb_live.proofs.run.LiveRun.part.Goals as goal

module _ (live : Live) (document : List ℕ) (limit : ℕ) where
  abbrev IsFound : Option Part → Type 0
  IsFound found = AcceptsAs document (λ value batch. IsFoundPart live document batch limit found)

  found-part : (found : Option Part) → IsFound found → IfSome found (IsPartIn live document limit)
  found-part None x = tt
  found-part (Some part) x = record {
    value = x.value;
    document = x.document;
    holds = record { batch = x.holds.batch; shaped = x.holds.shaped; is_batch = x.holds.is_batch; holds = (x.holds.holds.0, (x.holds.holds.1.0, x.holds.holds.1.1)) };
  }

  found-within : (found : Option Part) → IsFound found → IfSome found (λ part. All (λ i. i < size live.run) part.positions.items)
  found-within None x = tt
  found-within (Some part) x = x.holds.holds.1.2

  found-none : (found : Option Part) → IsFound found → found ≡ None → HasNoParts live document limit
  found-none found x none = subst IsFound none x

  least-part : (refusal : Printed) → IsLeastOfMaking document (λ batch. RefusesPart live batch limit) refusal → IsLeastOfPart live document limit refusal
  least-part refusal (inl least) = OfBatch least
  least-part refusal (inr x) =
      let of = x.holds.holds.1 in
      OfHeaders of.fault (record { value = x.value; document = x.document; holds = record { batch = x.holds.batch; shaped = x.holds.shaped; is_batch = x.holds.is_batch; holds = (x.holds.holds.0, (of.may, of.lacks)) } }) of.is

pub returns-clause-part : goal.returns-clause-part
returns-clause-part c = IfOk-weaker c.made_of.result _ _ (found-part c.args.self.now c.args.batch.now c.args.limit) c.made_of.ensures.made

pub returns-clause-within : goal.returns-clause-within
returns-clause-within c = IfOk-weaker c.made_of.result _ _ (found-within c.args.self.now c.args.batch.now c.args.limit) c.made_of.ensures.made

pub returns-clause-other : goal.returns-clause-other
returns-clause-other c = IfOk-weaker c.made_of.result _ _ (found-none c.args.self.now c.args.batch.now c.args.limit) c.made_of.ensures.made

pub returns-clause-least : goal.returns-clause-least
returns-clause-least c =
    let live = c.args.self.now in
    let document = c.args.batch.now in
    let limit = c.args.limit in
    let by = IsLeastOfMaking document (λ batch. RefusesPart live batch limit) in
    IfErr-weaker c.made_of.result (Halted by) (Halted (IsLeastOfPart live document limit)) (Halted-weaker by (IsLeastOfPart live document limit) (least-part live document limit)) c.made_of.ensures.least
