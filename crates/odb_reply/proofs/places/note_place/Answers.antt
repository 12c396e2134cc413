use Rattle.std.proofs.Common.{◌<◌, length, sym, refl, rules}
use Rattle.odb_check.specs.Plans.{plan_records}
use Rattle.odb_check.proofs.PositionLemmas.{id_within}
use Rattle.odb_reply.proofs.SliceLemmas.{taken, free}
use Rattle.odb_reply.proofs.places.note_place.Goals as goal

pub returns-in_default-clause-misplaced : goal.returns-in_default-clause-misplaced
returns-in_default-clause-misplaced c = λ known. let found = (c.requires.positions.found c.args.id.now known.0).1 known.1 in absurd (cc (found, c.in_default.is, c.position_near.ensures))

pub bounds-places-i : goal.bounds-places-i
bounds-places-i c =
    let here = (c.requires.positions.found c.args.id.now c.in-Some.i).0 (sym c.in-Some.ensures) in
    rw c.requires.count (id_within (plan_records c.args.plan.now) c.in-Some.i c.args.id.now here)

pub returns-then-is_some-clause-misplaced : goal.returns-then-is_some-clause-misplaced
returns-then-is_some-clause-misplaced c =
    let here = (c.requires.positions.found c.args.id.now c.in-Some.i).0 (sym c.in-Some.ensures) in
    let within : c.in-Some.i < length c.args.places.now = rw c.requires.count (id_within (plan_records c.args.plan.now) c.in-Some.i c.args.id.now here) in
    let other = taken c.args.places.now c.in-Some.i within (sym c.if-is_some.ensures) in
    record { position = c.in-Some.i; is = here; other = other.0; taken = other.1 }

pub bounds-places-i-2 : goal.bounds-places-i-2
bounds-places-i-2 c =
    let here = (c.requires.positions.found c.args.id.now c.in-Some.i).0 (sym c.in-Some.ensures) in
    rw c.requires.count (id_within (plan_records c.args.plan.now) c.in-Some.i c.args.id.now here)

pub returns-clause-noted : goal.returns-clause-noted
returns-clause-noted c =
    let here = (c.requires.positions.found c.args.id.now c.in-Some.i).0 (sym c.in-Some.ensures) in
    let within : c.in-Some.i < length c.args.places.now = rw c.requires.count (id_within (plan_records c.args.plan.now) c.in-Some.i c.args.id.now here) in
    record { position = c.in-Some.i; is = here; free = free c.args.places.now c.in-Some.i within (sym c.if-is_some.ensures); noted = refl }

pub returns-in_default-clause-noted : goal.returns-in_default-clause-noted
returns-in_default-clause-noted c = search rules

pub returns-then-is_some-clause-noted : goal.returns-then-is_some-clause-noted
returns-then-is_some-clause-noted c = search rules
