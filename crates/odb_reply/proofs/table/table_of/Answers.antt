use Rattle.std.proofs.Common.{◌≡◌, ◌∙◌, Some, None, slice_get, ap, subst, length, ℕ, arith}
use Rattle.std.proofs.lemmas.Option.{slice_get-get_or}
use Rattle.odb_check.specs.Plans.{plan_records}
use Rattle.odb_reply.specs.Places.{AreListed}
use Rattle.odb_reply.specs.ResponseDocuments.{entries, entry_of}
use Rattle.odb_reply.proofs.RowLemmas.{AreListed-more, HasAllPlaces-from, HasRows-from, RefusesMatch-missing}
use Rattle.odb_reply.proofs.table.table_of.Goals as goal

pub returns-in_default-clause-least : goal.returns-in_default-clause-least
returns-in_default-clause-least c =
    let found = c.args.found.now in
    let none : slice_get found c.loop-at.at ≡ Some None = slice_get-get_or found c.loop-at.at None c.loop-at-test.true ∙ ap Some c.in_default.is in
    RefusesMatch-missing (plan_records c.args.plan.now) (entries c.args.responses.now) found c.loop-at.at c.loop-at.places.items c.loop-at.statuses.items c.requires.once c.requires.noted c.loop-at.invariant none

pub entry-requires : goal.entry-requires
entry-requires c =
    let found = c.args.found.now in
    let here : slice_get found c.loop-at.at ≡ Some (Some c.in-Some.k) = slice_get-get_or found c.loop-at.at None c.loop-at-test.true ∙ ap Some c.in-Some.is in
    (c.requires.noted.noted c.loop-at.at c.in-Some.k here).0

pub loop-at-preserved : goal.loop-at-preserved
loop-at-preserved c =
    let found = c.args.found.now in
    let at = c.loop-at.at in
    let here : slice_get found at ≡ Some (Some c.in-Some.k) = slice_get-get_or found at None c.loop-at-test.true ∙ ap Some c.in-Some.is in
    rw (c.in_ok-push.ensures.items, c.in_ok-push-2.ensures.items) (
    AreListed-more (entries c.args.responses.now) found at c.in-Some.k c.loop-at.places.items c.loop-at.statuses.items (entry_of c.entry.result.now) c.loop-at.invariant here c.entry.ensures
    )

pub returns-clause-rows : goal.returns-clause-rows
returns-clause-rows c =
    let found = c.args.found.now in
    let all : c.loop-at.at ≡ length found = omega (arith, c.loop-at.auto.at-end) in
    HasRows-from (plan_records c.args.plan.now) (entries c.args.responses.now) found c.loop-at.places.items c.loop-at.statuses.items c.requires.once c.requires.noted
    (subst (λ (n : ℕ). AreListed (entries c.args.responses.now) found n c.loop-at.places.items c.loop-at.statuses.items) all c.loop-at.invariant)

pub returns-clause-all_places : goal.returns-clause-all_places
returns-clause-all_places c =
    let found = c.args.found.now in
    let all : c.loop-at.at ≡ length found = omega (arith, c.loop-at.auto.at-end) in
    HasAllPlaces-from (plan_records c.args.plan.now) (entries c.args.responses.now) found c.loop-at.places.items c.loop-at.statuses.items c.requires.once c.requires.noted
    (subst (λ (n : ℕ). AreListed (entries c.args.responses.now) found n c.loop-at.places.items c.loop-at.statuses.items) all c.loop-at.invariant)
