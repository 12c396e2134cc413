use Rattle.std.proofs.Common.{◌≡◌, ◌∙◌, ◌<◌, All, IfSome, Option, ap, length, subst, sym, true}
use Rattle.std.proofs.lemmas.Bool.{true≢false}
use Rattle.odb_send.specs.Units.{marked}
use Rattle.odb_sched.specs.run.State.{size}
use Rattle.odb_live.specs.Live.{Live}
use Rattle.odb_live.specs.LiveParts.{IsPartIn, with_part}
use Rattle.odb_live.specs.declared.run.parts.Part.{Part}
use Rattle.odb_live.proofs.OpenedLemmas.{labels-length}
use Rattle.odb_tests_live.proofs.laws.parts.gives_more.Goals as goal

pub returns-clause-kept : goal.returns-clause-kept
returns-clause-kept c = λ i has.
    let live = c.args.live.now in
    let positions = c.in-Ok-Some.part.positions.items in
    let sized : All (λ i. i < size live.run) positions = subst (λ (found : Option Part). IfSome found (λ part. All (λ i. i < size live.run) part.positions.items)) c.in-Ok-Some.field-0-is c.in-Ok-Some.ensures.within in
    let within : All (λ i. i < length live.out) positions = subst (λ n. All (λ i. i < n) positions) (sym c.requires.marks) sized in
    let last : c.give.new.self ≡ with_part live positions = c.give.ensures ∙ ap (with_part live) c.deref.ensures.value in
    subst (λ (l : Live). marked l.out i ≡ true) (sym last) (c.every_part.ensures.kept live.out positions i within has)

pub returns-clause-apart : goal.returns-clause-apart
returns-clause-apart c = λ i has inside.
    let live = c.args.live.now in
    let limit = c.args.limit in
    let part = c.in-Ok-Some.part in
    let is : IsPartIn live c.args.batch.now limit part = subst (λ (found : Option Part). IfSome found (IsPartIn live c.args.batch.now limit)) c.in-Ok-Some.field-0-is c.in-Ok-Some.ensures.part in
    let batch = is.holds.batch in
    let count : size live.run ≡ length batch = sym c.requires.labels ∙ labels-length batch live is.holds.holds.1.0.0 in
    true≢false (sym has ∙ c.every_part.ensures.apart c.args.batch.now batch live.run live.out limit part count is.holds.holds.1.1 i inside)
