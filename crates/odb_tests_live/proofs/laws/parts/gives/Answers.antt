use Rattle.std.proofs.Common.{◌≡◌, ◌∙◌, ◌<◌, All, IfSome, Option, ap, length, subst, sym, true}
use Rattle.odb_send.specs.Units.{marked}
use Rattle.odb_live.specs.Live.{Live}
use Rattle.odb_live.specs.LiveParts.{IsPartIn, with_part}
use Rattle.odb_live.specs.declared.run.parts.Part.{Part}
use Rattle.odb_sched.specs.run.State.{size}
use Rattle.odb_live.proofs.OpenedLemmas.{opened-marks, opened-size, same-length}
use Rattle.odb_tests_live.proofs.laws.parts.gives.Goals as goal

pub returns : goal.returns
returns c =
    let live = c.args.live.now in
    let document = c.args.batch.now in
    let positions = c.in-Ok-Some.part.positions.items in
    let opens = c.requires in
    let first = opens.holds.batch in
    let opened = opens.holds.holds.1 in
    let is : IsPartIn live document c.args.limit c.in-Ok-Some.part = subst (λ (found : Option Part). IfSome found (IsPartIn live document c.args.limit)) c.in-Ok-Some.field-0-is c.in-Ok-Some.ensures.part in
    let sized : All (λ i. i < size live.run) positions = subst (λ (found : Option Part). IfSome found (λ part. All (λ i. i < size live.run) part.positions.items)) c.in-Ok-Some.field-0-is c.in-Ok-Some.ensures.within in
    let batch = is.holds.batch in
    let good = is.holds.holds.0 in
    let may = is.holds.holds.1.0 in
    let part = is.holds.holds.1.1 in
    let graph = c.every_batch.ensures.plan_graph first in
    let count : size live.run ≡ length batch = opened-size c.args.policy first c.args.events.now live graph opened ∙ same-length first batch live opened.labels may.0 in
    let law = c.every_part.ensures in
    let within : All (λ i. i < length live.out) positions = subst (λ n. All (λ i. i < n) positions) (sym (opened-marks c.args.policy first c.args.events.now live graph opened)) sized in
    let last : c.give.new.self ≡ with_part live positions = c.give.ensures ∙ ap (with_part live) c.deref.ensures.value in
    record {
      value = is.value;
      document = is.document;
      holds = record {
        batch = batch;
        shaped = is.holds.shaped;
        is_batch = is.holds.is_batch;
        holds = (
          good,
          record {
            is = last;
            apart = law.apart document batch live.run live.out c.args.limit c.in-Ok-Some.part count part;
            given = λ i has. subst (λ (l : Live). marked l.out i ≡ true) (sym last) (law.given live.out positions i within has);
            needs = law.needs document batch live.run live.out c.args.limit c.in-Ok-Some.part count good part;
            whole = law.whole document batch live.run live.out c.args.limit c.in-Ok-Some.part count part;
          },
        );
      };
    }
